use Rattle.std.proofs.Common.{◌≡◌, ◌&&◌, nat_le, ℕ, take}
use Rattle.std.specs.List.{list_any}
use Rattle.mq_topic.specs.Matching.{matches}
use Rattle.mq_filters.specs.Standings.{has_ceiling}
use Rattle.mq_subscriptions.proofs.awaited.ceiling_of_all.Given as goal

-- it allows what those so far do
abbrev pub invariant-loop-request : goal.invariant-loop-request
invariant-loop-request l = (qos : ℕ) → has_ceiling (nat_le qos) l.best ≡ list_any (λ filters. list_any (λ s. matches s.filter l.fn.topic && nat_le qos s.ceiling) filters) (take l.request-index l.requests)
