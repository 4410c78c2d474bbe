use Rattle.std.proofs.Common.{◌≡◌, ◌≤◌, length}
use Rattle.std.specs.Prelude.{reverse}
use Rattle.mq_rules.specs.Passing.{before_latest}
use Rattle.mq_plain.proofs.session.before_latest.Given as goal

-- what is left to look at decides, and is no more
abbrev pub invariant-loop-event : goal.invariant-loop-event
invariant-loop-event l = (before_latest (reverse l.earlier) ≡ before_latest (reverse l.before)) × (length l.earlier ≤ length l.before)

abbrev pub decreases-loop-event : goal.decreases-loop-event
decreases-loop-event l = length l.earlier
