use Rattle.std.proofs.Common.{subst, sym, List, ℕ}
use Rattle.mq_subscriptions.specs.Standings.{Remembers}
use Rattle.mq_subscriptions.proofs.FilterLaws.{IsFound, remembers-more}
use Rattle.mq_subscriptions.proofs.filters.keep.Goals as goal

pub returns-clause-remembers : goal.returns-clause-remembers
returns-clause-remembers c = λ settled waiting found all.
    subst (λ es. Remembers settled waiting es) (sym c.in_ok-insert.ensures.entries)
    (remembers-more settled waiting c.in_ok-copy.copy c.args.ceiling c.args.found.now.entries
    (subst (λ (t : List ℕ). IsFound settled waiting t c.args.ceiling) (sym c.in_ok-copy.ensures) found) all)
