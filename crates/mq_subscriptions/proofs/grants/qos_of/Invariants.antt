use Rattle.std.proofs.Common.{◌≡◌, ◌++◌, length}
use Rattle.mq_rules.specs.Subscriptions.{requested_each}
use Rattle.mq_subscriptions.proofs.grants.qos_of.Given as goal

-- with the filters that are left, all come to be there
abbrev pub invariant-loop-filter : goal.invariant-loop-filter
invariant-loop-filter l = l.all.items ++ requested_each l.filters ≡ requested_each l.fn.filters

abbrev pub decreases-loop-filter : goal.decreases-loop-filter
decreases-loop-filter l = length l.filters
