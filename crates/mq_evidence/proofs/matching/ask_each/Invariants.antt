use Rattle.std.proofs.Common.{◌≡◌, ◌||◌, ◌&&◌, nat_le, ℕ, Bool, List, length}
use Rattle.std.specs.List.{list_any}
use Rattle.mq_filters.specs.Standings.{allows}
use Rattle.mq_evidence.specs.Matching.{is_among}
use Rattle.mq_evidence.proofs.matching.ask_each.Given as goal

-- with the filters that are left, all come to be kept
abbrev pub invariant-loop-filter : goal.invariant-loop-filter
invariant-loop-filter l = (test : List ℕ → Bool) (first : ℕ)
    → (list_any (allows test first) l.requests || (list_any (λ g. is_among test g.filter) l.filters && nat_le first l.fn.position)) ≡ (list_any (allows test first) l.initial.requests || (list_any (λ g. is_among test g.filter) l.fn.filters && nat_le first l.fn.position))

abbrev pub decreases-loop-filter : goal.decreases-loop-filter
decreases-loop-filter l = length l.filters
