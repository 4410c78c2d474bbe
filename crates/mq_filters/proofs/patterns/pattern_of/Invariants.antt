use Rattle.std.proofs.Common.{◌≡◌, ◌≤◌, drop, length}
use Rattle.mq_filters.specs.Patterning.{pattern_of}
use Rattle.mq_filters.proofs.patterns.pattern_of.Given as goal

-- it is the pattern of what follows
abbrev pub invariant-loop-at : goal.invariant-loop-at
invariant-loop-at l = (l.at ≤ length l.fn.filter) × (l.pattern ≡ pattern_of (drop l.at l.fn.filter))

abbrev pub decreases-loop-at : goal.decreases-loop-at
decreases-loop-at l = l.at
