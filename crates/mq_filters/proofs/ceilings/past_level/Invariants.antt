use Rattle.std.proofs.Common.{◌≡◌, length}
use Rattle.mq_filters.specs.Standings.{after_level}
use Rattle.mq_filters.proofs.ceilings.past_level.Given as goal

-- the same follows the level of what is left
abbrev pub invariant-loop-byte : goal.invariant-loop-byte
invariant-loop-byte l = after_level l.topic ≡ after_level l.fn.topic

abbrev pub decreases-loop-byte : goal.decreases-loop-byte
decreases-loop-byte l = length l.topic
