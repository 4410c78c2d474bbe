use Rattle.std.proofs.Common.{◌≡◌, ◌||◌, ◌&&◌, nat_le, ℕ}
use Rattle.std.specs.List.{list_any}
use Rattle.std.specs.String.{string_bytes}
use Rattle.mq_topic.specs.Matching.{matches}
use Rattle.mq_filters.specs.Standings.{has_ceiling}
use Rattle.mq_filters.proofs.ceilings.ceiling_among.Given as goal

-- with the filters that are left, it allows what all do
abbrev pub invariant-loop-filter : goal.invariant-loop-filter
invariant-loop-filter l = (qos : ℕ) → (has_ceiling (nat_le qos) l.best || list_any (λ e. matches (string_bytes e.0) l.fn.topic && nat_le qos e.1) l.filter-iterator) ≡ list_any (λ e. matches (string_bytes e.0) l.fn.topic && nat_le qos e.1) l.fn.standing.entries
