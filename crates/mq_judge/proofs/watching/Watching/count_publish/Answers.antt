use Rattle.std.proofs.Common.{sym, subst, ◌∙◌, ◌∷◌}
use Rattle.mq_rules.specs.declared.role.Tested.{Tested}
use Rattle.mq_judge.specs.Gathering.{Tallies}
use Rattle.mq_judge.specs.declared.tally.Tally.{Tally}
use Rattle.mq_judge.proofs.watching.Watching.count_publish.Goals as goal

-- as of any packet without properties
pub returns-clause-tallies : goal.returns-clause-tallies
returns-clause-tallies c = λ tried p received is at was on.
    let old = c.args.self.now in
    let none = c.in_ok-take_counted.ensures.counts in
    subst (λ (t : Tested). Tallies c.tally_publish.new.tally t (p ∷ received)) (sym c.take_counted.ensures.tested)
    (c.tally_publish.ensures old.tested p received tried is at
    (subst (λ (tally : Tally). Tallies tally old.tested received) (sym none.1) (was (sym none.0 ∙ on))))
