use Rattle.std.proofs.Common.{◌≡◌, ◌-◌, ℕ, List, length, unwrap_or}
use Rattle.indexmap.specs.IndexMap.{get_by_text}
use Rattle.mq_evidence.specs.Subscribed.{refused, IsPositive}
use Rattle.mq_evidence.proofs.subscribed.refuse_all.Given as goal

-- with the filters that are left, all are refused that their Reason Codes refuse
abbrev pub invariant-loop-filter : goal.invariant-loop-filter
invariant-loop-filter l = ((f : List ℕ) → unwrap_or (get_by_text l.counts f) 0 - refused f l.filters l.codes ≡ unwrap_or (get_by_text l.initial.counts f) 0 - refused f l.fn.filters l.fn.codes) × (IsPositive (get_by_text l.initial.counts) → IsPositive (get_by_text l.counts))

abbrev pub decreases-loop-filter : goal.decreases-loop-filter
decreases-loop-filter l = length l.filters
