-- The texts of a finding with a number.
use Rattle.mq_report.proofs.Exports.{all_written}
use Rattle.mq_display.proofs.finding.put_finding.Goals as goal

pub returns-in-LeftOver : goal.returns-in-LeftOver
returns-in-LeftOver c = rw c.in-LeftOver.is (all_written _ _ _ _ c.write.ensures.writes)

pub returns-in-OtherVersion : goal.returns-in-OtherVersion
returns-in-OtherVersion c = rw c.in-OtherVersion.is (all_written _ _ _ _ c.write-in-OtherVersion.ensures.writes)
