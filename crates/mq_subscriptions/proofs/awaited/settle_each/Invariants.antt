use Rattle.std.proofs.Common.{◌≡◌, ◌||◌, ℕ, Bool, List, length}
use Rattle.std.specs.List.{list_any}
use Rattle.mq_filters.specs.Standings.{allows}
use Rattle.mq_subscriptions.specs.Standings.{with_codes}
use Rattle.mq_subscriptions.proofs.awaited.settle_each.Given as goal

-- with the SUBSCRIBEs that are left, all come to be settled
abbrev pub invariant-loop-request : goal.invariant-loop-request
invariant-loop-request l = (among : List ℕ → Bool) (qos : ℕ) → (list_any (allows among qos) l.settled || list_any (λ filters. list_any (allows among qos) (with_codes filters l.fn.codes)) l.requests) ≡ (list_any (allows among qos) l.initial.settled || list_any (λ filters. list_any (allows among qos) (with_codes filters l.fn.codes)) l.fn.requests)

abbrev pub decreases-loop-request : goal.decreases-loop-request
decreases-loop-request l = length l.requests
