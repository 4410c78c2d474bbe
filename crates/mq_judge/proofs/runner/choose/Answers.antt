use Rattle.std.proofs.Common.{refl}
use Rattle.mq_rules.specs.Notes.{seen_in}
use Rattle.mq_rules.proofs.Exports.{entries-listed}
use Rattle.mq_choice.specs.Choices.{in_choice, tested_for}
use Rattle.mq_judge.proofs.runner.choose.Goals as goal

pub returns-in-Ok-clause-faults : goal.returns-in-Ok-clause-faults
returns-in-Ok-clause-faults c = λ log are.
    let chosen = in_choice c.args.choice in
    entries-listed chosen (tested_for chosen log) (seen_in log) c.in-Ok.faults (c.in-Ok.ensures.kept (tested_for chosen log) (seen_in log) refl are)
