use Rattle.std.proofs.Common.{sym, ◌∙◌, ◌∷◌}
use Rattle.mq_judge.proofs.WatchingLaws.{on_ok, still-uncounted}
use Rattle.mq_judge.proofs.watching.Watching.receive_bare.Goals as goal

pub returns-clause-tallies : goal.returns-clause-tallies
returns-clause-tallies c =
    on_ok c.take_bare.result _ _ (λ none entry tried p received is at was. still-uncounted c.args.self.now c.take_bare.new.self (p ∷ received) (sym c.is_counting.ensures ∙ c.if-is_counting.false) none.0) c.take_bare.ensures.counts

pub returns-clause-counts : goal.returns-clause-counts
returns-clause-counts c = on_ok c.take_bare.result _ _ (λ none. none.0) c.take_bare.ensures.counts
