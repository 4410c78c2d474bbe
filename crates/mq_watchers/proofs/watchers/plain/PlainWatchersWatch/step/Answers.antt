use Rattle.std.proofs.Common.{◌+◌, ◌∷◌, length}
use Rattle.mq_rules.specs.Growing.{Gains, GainsWithin}
use Rattle.mq_rules.specs.Steps.{turns}
use Rattle.mq_rules.specs.Under.{seen}
use Rattle.mq_rules.proofs.Exports.{gains_same, on_err, within_same}
use Rattle.mq_watchers.proofs.JudgingLaws.{all-turns, turns_by_all}
use Rattle.mq_watchers.proofs.watchers.plain.PlainWatchersWatch.step.Goals as goal

pub returns-clause-agrees : goal.returns-clause-agrees
returns-clause-agrees c = λ tested taken past follows here agrees. c.in_ok-step.ensures.agrees tested taken past follows (tt, (here, (tt, (here, (tt, tt))))) agrees

pub returns-clause-grows : goal.returns-clause-grows
returns-clause-grows c = λ tested taken past follows here agrees.
    let e = seen c.args.at c.args.note.now in
    gains_same (turns_by_all tested e past) (turns tested e past) tested (e ∷ past) (length past + 1) c.args.faults.now c.step.new.faults (all-turns tested e past)
    (c.in_ok-step.ensures.grows tested taken past follows (tt, (here, (tt, (here, (tt, tt))))) agrees)

pub returns-in_err-step-clause-memory : goal.returns-in_err-step-clause-memory
returns-in_err-step-clause-memory c =
    on_err c.from_residual.result _ (λ tested taken past follows here agrees.
    let e = seen c.args.at c.args.note.now in
    within_same (turns_by_all tested e past) (turns tested e past) tested (e ∷ past) (length past + 1) c.args.faults.now c.step.new.faults (all-turns tested e past)
    (c.in_err-step.ensures.memory tested taken past follows (tt, (here, (tt, (here, (tt, tt))))) agrees))
