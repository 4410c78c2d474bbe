use Rattle.std.proofs.Common.{◌≡◌, ◌||◌, ◌&&◌, nat_le, ℕ}
use Rattle.std.specs.List.{list_any}
use Rattle.std.specs.String.{string_bytes}
use Rattle.mq_topic.specs.Matching.{matches}
use Rattle.mq_filters.specs.Standings.{has_ceiling}
use Rattle.mq_evidence.proofs.last_requests.position_among.Given as goal

-- with those that are left, it is the last of all
abbrev pub invariant-loop-filter : goal.invariant-loop-filter
invariant-loop-filter l = (first : ℕ) → (has_ceiling (nat_le first) l.best || list_any (λ e. matches (string_bytes e.0) l.fn.topic && nat_le first e.1) l.filter-iterator) ≡ list_any (λ e. matches (string_bytes e.0) l.fn.topic && nat_le first e.1) l.fn.last.entries
