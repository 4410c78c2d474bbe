use Rattle.std.proofs.Common.{◌≡◌, ◌-◌, ℕ, List, length, unwrap_or}
use Rattle.indexmap.specs.IndexMap.{get_by_text}
use Rattle.mq_evidence.specs.Subscribed.{refused_of, IsPositive}
use Rattle.mq_evidence.proofs.subscribed.refuse_each.Given as goal

-- with the SUBSCRIBEs that are left, all are refused what their Reason Codes refuse
abbrev pub invariant-loop-request : goal.invariant-loop-request
invariant-loop-request l = ((f : List ℕ) → unwrap_or (get_by_text l.counts f) 0 - refused_of f l.requests l.fn.codes ≡ unwrap_or (get_by_text l.initial.counts f) 0 - refused_of f l.fn.requests l.fn.codes) × (IsPositive (get_by_text l.initial.counts) → IsPositive (get_by_text l.counts))

abbrev pub decreases-loop-request : goal.decreases-loop-request
decreases-loop-request l = length l.requests
