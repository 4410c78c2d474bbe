use Rattle.std.proofs.Common.{◌≡◌, ◌||◌, ℕ, Bool, List}
use Rattle.std.specs.List.{list_any}
use Rattle.indexmap.specs.IndexMap.{values}
use Rattle.mq_filters.specs.Standings.{allows}
use Rattle.mq_subscriptions.proofs.awaited.settle_values.Given as goal

-- with those that are left, all come to be settled
abbrev pub invariant-loop-requests : goal.invariant-loop-requests
invariant-loop-requests l = (among : List ℕ → Bool) (qos : ℕ) → (list_any (allows among qos) l.settled || list_any (λ requests. list_any (λ filters. list_any (allows among qos) filters) requests) l.requests-iterator) ≡ (list_any (allows among qos) l.initial.settled || list_any (λ requests. list_any (λ filters. list_any (allows among qos) filters) requests) (values l.fn.all))
