use Rattle.std.proofs.Common.{◌≡◌, length}
use Rattle.std.specs.List.{list_any}
use Rattle.mq_rules.specs.Subscriptions.{granted}
use Rattle.mq_plain.specs.Deliveries.{allows}
use Rattle.mq_plain.proofs.deliveries.any_allows.Given as goal

-- the filters and Reason Codes that are left decide
abbrev pub invariant-loop-filter : goal.invariant-loop-filter
invariant-loop-filter l = list_any (allows l.topic l.least) (granted l.filters l.codes) ≡ list_any (allows l.topic l.least) (granted l.fn.filters l.fn.codes)

abbrev pub decreases-loop-filter : goal.decreases-loop-filter
decreases-loop-filter l = length l.filters
