use Rattle.std.proofs.Common.{◌≡◌, ◌||◌}
use Rattle.std.specs.List.{list_any}
use Rattle.indexmap.specs.IndexMap.{values}
use Rattle.mq_evidence.specs.Settling.{Question, any_passes, holds}
use Rattle.mq_evidence.proofs.ceilings.settle_values.Given as goal

-- with those that are left, all come to be settled
abbrev pub invariant-loop-requests : goal.invariant-loop-requests
invariant-loop-requests l = (q : Question) → (holds q l.settled || list_any (list_any (any_passes q)) l.requests-iterator) ≡ (holds q l.initial.settled || list_any (list_any (any_passes q)) (values l.fn.all))
