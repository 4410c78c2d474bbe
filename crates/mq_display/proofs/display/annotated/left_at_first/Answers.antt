use Rattle.std.proofs.Common.{◌∙◌}
use Rattle.mq_display.proofs.ExplainedLaws.{reasons_begin}
use Rattle.mq_display.proofs.display.annotated.left_at_first.Goals as goal

pub returns : goal.returns
returns c = c.pass.ensures ∙ reasons_begin c.args.faults.now c.args.reasons.now
