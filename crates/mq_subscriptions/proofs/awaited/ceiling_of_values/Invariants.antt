use Rattle.std.proofs.Common.{◌≡◌, ◌||◌, ◌&&◌, nat_le, ℕ}
use Rattle.std.specs.List.{list_any}
use Rattle.indexmap.specs.IndexMap.{values}
use Rattle.mq_topic.specs.Matching.{matches}
use Rattle.mq_filters.specs.Standings.{has_ceiling}
use Rattle.mq_subscriptions.proofs.awaited.ceiling_of_values.Given as goal

-- with those that are left, it allows what all do
abbrev pub invariant-loop-requests : goal.invariant-loop-requests
invariant-loop-requests l = (qos : ℕ) → (has_ceiling (nat_le qos) l.best || list_any (λ requests. list_any (λ filters. list_any (λ s. matches s.filter l.fn.topic && nat_le qos s.ceiling) filters) requests) l.requests-iterator) ≡ list_any (λ requests. list_any (λ filters. list_any (λ s. matches s.filter l.fn.topic && nat_le qos s.ceiling) filters) requests) (values l.fn.all)
