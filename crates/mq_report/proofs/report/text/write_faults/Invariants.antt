use Rattle.std.specs.FinMap as map
use Rattle.mq_report.specs.Report.{fault_lines}
use Rattle.mq_trace.specs.Writing.{LeavesToWrite}
use Rattle.mq_report.proofs.report.text.write_faults.Given as goal

abbrev pub invariant-loop-key : goal.invariant-loop-key
invariant-loop-key g l = LeavesToWrite (g.W.Write.contents l.fn.writer) (g.W.Write.contents l.writer)
    (fault_lines l.role (map.entries l.faults)) (fault_lines l.role l.key-iterator)
