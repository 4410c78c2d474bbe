use Rattle.std.proofs.Common.{◌≡◌, length}
use denote.Shadow.{shadow}
use denote.Text.{Utf8}
use Rattle.mq_topic.specs.Levels.{levels_of, first_fault}
use Rattle.mq_topic.proofs.filter.check_filter.Given as goal

-- the levels that are left have the filter's fault
abbrev pub invariant-loop-level : goal.invariant-loop-level
invariant-loop-level l = (first_fault (levels_of l.rest) ≡ first_fault (levels_of l.filter)) × shadow (Utf8 l.rest)

abbrev pub decreases-loop-level : goal.decreases-loop-level
decreases-loop-level l = length l.rest
