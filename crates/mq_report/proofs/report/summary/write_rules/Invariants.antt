use Rattle.std.proofs.Common.{drop}
use Rattle.std.specs.FinMap as map
use Rattle.mq_report.specs.Report.{rule_lines}
use Rattle.mq_trace.specs.Writing.{LeavesToWrite}
use Rattle.mq_report.proofs.report.summary.write_rules.Given as goal

abbrev pub invariant-loop-rule : goal.invariant-loop-rule
invariant-loop-rule g l = LeavesToWrite (g.W.Write.contents l.fn.writer) (g.W.Write.contents l.writer)
    (rule_lines l.role (map.entries l.faults) l.rules) (rule_lines l.role (map.entries l.faults) (drop l.rule-index l.rules))
