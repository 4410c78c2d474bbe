use Rattle.std.proofs.Common.{sym, subst, ◌∙◌, ◌∷◌}
use Rattle.mq_rules.specs.declared.role.Tested.{Tested}
use Rattle.mq_judge.specs.Gathering.{Tallies}
use Rattle.mq_judge.specs.declared.tally.Tally.{Tally}
use Rattle.mq_judge.proofs.watching.Watching.count_bare.Goals as goal

-- taking in keeps nothing of the packet itself, and what is kept after that is the packet's
pub returns-clause-tallies : goal.returns-clause-tallies
returns-clause-tallies c = λ entry tried p received is at was on.
    let old = c.args.self.now in
    let none = c.in_ok-take_counted.ensures.counts in
    subst (λ (t : Tested). Tallies c.count_bare.new.self t (p ∷ received)) (sym c.take_counted.ensures.tested)
    (c.count_bare.ensures old.tested p entry received is tried at
    (subst (λ (tally : Tally). Tallies tally old.tested received) (sym none.1) (was (sym none.0 ∙ on))))
