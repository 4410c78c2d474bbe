use Rattle.std.proofs.Common.{◌≡◌, ◌||◌, ℕ, Bool, List, length}
use Rattle.std.specs.List.{list_any}
use Rattle.mq_filters.specs.Standings.{allows}
use Rattle.mq_subscriptions.specs.Standings.{with_codes}
use Rattle.mq_subscriptions.proofs.awaited.settle.Given as goal

-- with the filters that are left, all come to be settled
abbrev pub invariant-loop-filter : goal.invariant-loop-filter
invariant-loop-filter l = (among : List ℕ → Bool) (qos : ℕ) → (list_any (allows among qos) l.settled || list_any (allows among qos) (with_codes l.filters l.codes)) ≡ (list_any (allows among qos) l.initial.settled || list_any (allows among qos) (with_codes l.fn.filters l.fn.codes))

abbrev pub decreases-loop-filter : goal.decreases-loop-filter
decreases-loop-filter l = length l.filters
