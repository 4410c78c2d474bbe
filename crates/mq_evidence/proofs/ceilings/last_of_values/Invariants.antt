use Rattle.std.proofs.Common.{◌≡◌, ◌||◌, ◌&&◌, nat_le, ℕ}
use Rattle.std.specs.List.{list_any}
use Rattle.indexmap.specs.IndexMap.{values}
use Rattle.mq_topic.specs.Matching.{matches}
use Rattle.mq_filters.specs.Standings.{has_ceiling}
use Rattle.mq_evidence.proofs.ceilings.last_of_values.Given as goal

-- with those that are left, it is the last of all
abbrev pub invariant-loop-requests : goal.invariant-loop-requests
invariant-loop-requests l = (first : ℕ) → (has_ceiling (nat_le first) l.last || list_any (λ requests. list_any (λ r. list_any (λ s. matches s.filter l.fn.topic && nat_le first r.position) r.filters) requests) l.requests-iterator) ≡ list_any (λ requests. list_any (λ r. list_any (λ s. matches s.filter l.fn.topic && nat_le first r.position) r.filters) requests) (values l.fn.all)
