use Rattle.std.proofs.Common.{◌≡◌, length}
use Rattle.mq_filters.specs.Standings.{is_near}
use Rattle.mq_filters.proofs.ceilings.is_alike_by_levels.Given as goal

-- what is left decides
abbrev pub invariant-loop-byte : goal.invariant-loop-byte
invariant-loop-byte l = is_near l.filter l.topic ≡ is_near l.fn.filter l.fn.topic

abbrev pub decreases-loop-byte : goal.decreases-loop-byte
decreases-loop-byte l = length l.filter
