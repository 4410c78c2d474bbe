use Rattle.std.proofs.Common.{subst, sym, ◌∙◌, ◌∷◌}
use Rattle.mq_log.specs.Reception.{placed_at}
use Rattle.mq_rules.specs.declared.role.Tested.{Tested}
use Rattle.mq_judge.specs.Gathering.{Tallies}
use Rattle.mq_judge.specs.declared.tally.Tally.{Tally}
use Rattle.mq_judge.proofs.watching.Watching.take_event.Goals as goal

-- taking in keeps nothing of the event itself, and what is kept after that is the event's
pub returns-in-Ok-take_in-clause-tallies : goal.returns-in-Ok-take_in-clause-tallies
returns-in-Ok-take_in-clause-tallies c = λ received at was on.
    let old = c.args.self.now in
    let none = c.in-Ok-take_in.ensures.counts in
    subst (λ (t : Tested). Tallies c.tally_event.new.tally t (placed_at c.args.place c.args.event.now ∷ received)) (sym c.take_in.ensures.tested)
    (c.tally_event.ensures old.tested received at
    (λ counting. subst (λ (tally : Tally). Tallies tally old.tested received) (sym none.1) (was (sym none.0 ∙ sym c.is_counting-counting.ensures ∙ counting)))
    (c.is_counting-counting.ensures ∙ on))
