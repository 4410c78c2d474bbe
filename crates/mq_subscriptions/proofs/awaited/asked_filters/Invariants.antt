use Rattle.std.proofs.Common.{◌≡◌, ◌++◌, [], length}
use Rattle.mq_rules.specs.Subscriptions.{granted}
use Rattle.mq_subscriptions.proofs.awaited.asked_filters.Given as goal

-- with the filters that are left, all come to be kept
abbrev pub invariant-loop-filter : goal.invariant-loop-filter
invariant-loop-filter l = l.kept.items ++ granted l.filters [] ≡ granted l.fn.filters []

abbrev pub decreases-loop-filter : goal.decreases-loop-filter
decreases-loop-filter l = length l.filters
