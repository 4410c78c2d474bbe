use Rattle.std.proofs.Common.{◌≡◌, ◌+◌, length}
use Rattle.std.specs.FinMap as map
use Rattle.mq_ffi.specs.Asking.{left_by}
use Rattle.mq_ffi.proofs.asking.count_left.Given as goal

abbrev pub invariant-loop-key : goal.invariant-loop-key
invariant-loop-key l = l.count + length (left_by l.choice l.key-iterator) ≡ length (left_by l.choice (map.entries l.faults))
