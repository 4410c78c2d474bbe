use Rattle.std.proofs.Common.{◌≡◌, ◌&&◌, nat_le, ℕ, take}
use Rattle.std.specs.List.{list_any}
use Rattle.mq_topic.specs.Matching.{matches}
use Rattle.mq_filters.specs.Standings.{has_ceiling}
use Rattle.mq_evidence.proofs.ceilings.last_of_all.Given as goal

-- it is the last of those so far
abbrev pub invariant-loop-request : goal.invariant-loop-request
invariant-loop-request l = (first : ℕ) → has_ceiling (nat_le first) l.last ≡ list_any (λ r. list_any (λ s. matches s.filter l.fn.topic && nat_le first r.position) r.filters) (take l.request-index l.requests)
