use Rattle.mq_report.proofs.CoverageLaws.{Counted}
use Rattle.mq_report.proofs.report.coverage.covered_count.Given as goal

abbrev pub invariant-loop-covered : goal.invariant-loop-covered
invariant-loop-covered l = Counted l.count l.covered-index l.rows
