use Rattle.std.proofs.Common.{◌≡◌, ◌+◌, ℕ, List, length, unwrap_or}
use Rattle.indexmap.specs.IndexMap.{get_by_text}
use Rattle.mq_evidence.specs.Subscribed.{texts, named, IsPositive}
use Rattle.mq_evidence.proofs.subscribed.raise_all.Given as goal

-- with the filters that are left, all come to stand
abbrev pub invariant-loop-filter : goal.invariant-loop-filter
invariant-loop-filter l = ((f : List ℕ) → named f (texts l.filters) + unwrap_or (get_by_text l.counts f) 0 ≡ named f (texts l.fn.filters) + unwrap_or (get_by_text l.initial.counts f) 0) × (IsPositive (get_by_text l.initial.counts) → IsPositive (get_by_text l.counts))

abbrev pub decreases-loop-filter : goal.decreases-loop-filter
decreases-loop-filter l = length l.filters
