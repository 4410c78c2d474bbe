use Rattle.mq_report.proofs.LineLaws.{line_written}
use Rattle.mq_report.proofs.report.line.put_line.Goals as goal

pub returns : goal.returns
returns g c = line_written _ _ _ _ c.writeln.ensures.writes
