use Rattle.std.proofs.Common.{◌≡◌, length}
use Rattle.std.specs.Prelude.{reverse}
use Rattle.mq_plain.specs.Subscribed.{some_unfounded, was_subscribed_after}
use Rattle.mq_plain.proofs.further.deletions.some_unfounded.Given as goal

-- the filters and Reason Codes that are left decide
abbrev pub invariant-loop-filter : goal.invariant-loop-filter
invariant-loop-filter l = some_unfounded (was_subscribed_after l.role l.fate (reverse l.before)) l.filters l.codes ≡ some_unfounded (was_subscribed_after l.role l.fate (reverse l.before)) l.fn.filters l.fn.codes

abbrev pub decreases-loop-filter : goal.decreases-loop-filter
decreases-loop-filter l = length l.filters
