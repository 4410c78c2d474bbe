use Rattle.std.proofs.Common.{◌≡◌}
use Rattle.std.specs.FinMap as map
use Rattle.mq_ffi.specs.Asking.{first_fault_from, left_by}
use Rattle.mq_ffi.proofs.asking.left_from.Given as goal

abbrev pub invariant-loop-key : goal.invariant-loop-key
invariant-loop-key l = first_fault_from l.position (left_by l.choice l.key-iterator) ≡ first_fault_from l.position (left_by l.choice (map.entries l.faults))
