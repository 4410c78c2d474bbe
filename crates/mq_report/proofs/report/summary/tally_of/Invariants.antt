use Rattle.std.specs.FinMap as map
use Rattle.mq_report.proofs.SummaryLaws.{Tallies}
use Rattle.mq_report.proofs.report.summary.tally_of.Given as goal

abbrev pub invariant-loop-key : goal.invariant-loop-key
invariant-loop-key l = Tallies l.rule l.count l.first l.key-iterator (map.entries l.faults)
