use Rattle.std.specs.FinMap as map
use Rattle.mq_report.specs.Reasons.{reasoned, reasoned_lines}
use Rattle.mq_trace.specs.Writing.{LeavesToWrite}
use Rattle.mq_report.proofs.report.reasons.write_reasoned_faults.Given as goal

abbrev pub invariant-loop-key : goal.invariant-loop-key
invariant-loop-key g l = LeavesToWrite (g.W.Write.contents l.fn.writer) (g.W.Write.contents l.writer)
    (reasoned_lines l.role (reasoned (map.entries l.faults) l.reasons)) (reasoned_lines l.role (reasoned l.key-iterator l.left))
