use Rattle.mq_report.proofs.UnreasonedLaws.{report_left}
use Rattle.mq_report.proofs.laws.reasons_have_lines_of_their_own.Goals as goal

pub returns : goal.returns
returns c = report_left
