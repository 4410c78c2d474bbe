use Rattle.std.proofs.Common.{drop}
use Rattle.mq_report.specs.Coverage.{places_lines}
use Rattle.mq_trace.specs.Writing.{LeavesToWrite}
use Rattle.mq_report.proofs.report.coverage.write_rows.Given as goal

abbrev pub invariant-loop-covered : goal.invariant-loop-covered
invariant-loop-covered g l = LeavesToWrite (g.W.Write.contents l.fn.writer) (g.W.Write.contents l.writer)
    (places_lines l.role l.rows) (places_lines l.role (drop l.covered-index l.rows))
