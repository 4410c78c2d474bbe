use Rattle.std.proofs.Common.{◌≡◌, ◌||◌, length}
use Rattle.std.specs.List.{list_any}
use Rattle.mq_evidence.specs.Ceilings.{settles_of}
use Rattle.mq_evidence.specs.Settling.{Question, passes, holds}
use Rattle.mq_evidence.proofs.ceilings.settle_each.Given as goal

-- with the SUBSCRIBEs that are left, all come to be settled
abbrev pub invariant-loop-request : goal.invariant-loop-request
invariant-loop-request l = (q : Question) → (holds q l.settled || list_any (settles_of (passes q) l.fn.codes) l.requests) ≡ (holds q l.initial.settled || list_any (settles_of (passes q) l.fn.codes) l.fn.requests)

abbrev pub decreases-loop-request : goal.decreases-loop-request
decreases-loop-request l = length l.requests
