use Rattle.std.proofs.Common.{◌≡◌, ◌≤◌, ◌<◌, ◌-◌, ℕ, None}
use Rattle.mq_rules.specs.KeptOrder.{value_under}
use Rattle.mq_rules.proofs.by_identifier.ByIdentifier.find_from.Given as goal

-- nothing was found so far
abbrev pub invariant-loop-identifier : goal.invariant-loop-identifier
invariant-loop-identifier g l = (l.start ≤ l.next) × ((i : ℕ) → l.start ≤ i → i < l.next → value_under l.self i ≡ None)

abbrev pub decreases-loop-identifier : goal.decreases-loop-identifier
decreases-loop-identifier g l = 65536 - l.next
