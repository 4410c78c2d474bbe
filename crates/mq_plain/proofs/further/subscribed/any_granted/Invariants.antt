use Rattle.std.proofs.Common.{◌≡◌, length}
use Rattle.mq_plain.specs.Subscribed.{any_granted}
use Rattle.mq_plain.proofs.further.subscribed.any_granted.Given as goal

-- the filters and Reason Codes that are left decide
abbrev pub invariant-loop-other : goal.invariant-loop-other
invariant-loop-other l = any_granted l.filter l.asked l.codes ≡ any_granted l.filter l.fn.asked l.fn.codes

abbrev pub decreases-loop-other : goal.decreases-loop-other
decreases-loop-other l = length l.asked
