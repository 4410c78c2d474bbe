use Rattle.mq_report.proofs.DigitLaws.{LeavesDigits}
use Rattle.mq_report.proofs.lines.write_digits.Given as goal

abbrev pub invariant-loop-rest : goal.invariant-loop-rest
invariant-loop-rest l = LeavesDigits l.number l.rest l.at l.digits

abbrev pub decreases-loop-rest : goal.decreases-loop-rest
decreases-loop-rest l = l.rest

abbrev pub invariant-loop-rest-2 : goal.invariant-loop-rest-2
invariant-loop-rest-2 l = LeavesDigits l.number l.rest l.at l.digits

abbrev pub decreases-loop-rest-2 : goal.decreases-loop-rest-2
decreases-loop-rest-2 l = l.rest
