use Rattle.std.proofs.Common.{◌≡◌, ◌||◌, length}
use Rattle.std.specs.List.{list_any}
use Rattle.mq_evidence.specs.Ceilings.{with_codes}
use Rattle.mq_evidence.specs.Settling.{Question, passes, holds}
use Rattle.mq_evidence.proofs.ceilings.settle.Given as goal

-- with the filters that are left, all come to be settled
abbrev pub invariant-loop-filter : goal.invariant-loop-filter
invariant-loop-filter l = (q : Question) → (holds q l.settled || list_any (passes q l.fn.position) (with_codes l.filters l.codes)) ≡ (holds q l.initial.settled || list_any (passes q l.fn.position) (with_codes l.fn.filters l.fn.codes))

abbrev pub decreases-loop-filter : goal.decreases-loop-filter
decreases-loop-filter l = length l.filters
