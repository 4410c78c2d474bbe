use Rattle.std.proofs.Common.{◌≡◌, ◌&&◌, nat_le, ℕ, take}
use Rattle.std.specs.List.{list_any}
use Rattle.mq_topic.specs.Matching.{matches}
use Rattle.mq_filters.specs.Standings.{has_ceiling}
use Rattle.mq_subscriptions.proofs.awaited.ceiling_among.Given as goal

-- it allows what those so far do
abbrev pub invariant-loop-kept : goal.invariant-loop-kept
invariant-loop-kept l = (qos : ℕ) → has_ceiling (nat_le qos) l.best ≡ list_any (λ s. matches s.filter l.fn.topic && nat_le qos s.ceiling) (take l.kept-index l.filters)
