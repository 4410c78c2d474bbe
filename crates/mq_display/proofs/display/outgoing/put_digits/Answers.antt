-- The digits of a number.
use Rattle.mq_report.proofs.Exports.{all_written}
use Rattle.mq_display.proofs.display.outgoing.put_digits.Goals as goal

pub returns : goal.returns
returns c = all_written _ _ _ _ c.write.ensures.writes
