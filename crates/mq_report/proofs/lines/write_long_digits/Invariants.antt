use Rattle.mq_report.proofs.DigitLaws.{LeavesDigits}
use Rattle.mq_report.proofs.lines.write_long_digits.Given as goal

abbrev pub invariant-loop-rest : goal.invariant-loop-rest
invariant-loop-rest l = LeavesDigits l.number l.rest l.at l.digits

abbrev pub decreases-loop-rest : goal.decreases-loop-rest
decreases-loop-rest l = l.rest
