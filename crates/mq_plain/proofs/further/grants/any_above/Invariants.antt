use Rattle.std.proofs.Common.{◌≡◌, length, nat_lt}
use Rattle.mq_rules.specs.Subscriptions.{requested_each, some_granted}
use Rattle.mq_plain.proofs.further.grants.any_above.Given as goal

-- the filters and Reason Codes that are left decide
abbrev pub invariant-loop-filter : goal.invariant-loop-filter
invariant-loop-filter l = some_granted nat_lt (requested_each l.filters) l.codes ≡ some_granted nat_lt (requested_each l.fn.filters) l.fn.codes

abbrev pub decreases-loop-filter : goal.decreases-loop-filter
decreases-loop-filter l = length l.filters
