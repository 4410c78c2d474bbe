use Rattle.std.proofs.Common.{◌≡◌}
use Rattle.std.specs.FinMap as map
use Rattle.mq_rules.specs.FaultKeys.{faults_at}
use Rattle.mq_ffi.specs.Asking.{left_by, nth}
use Rattle.mq_ffi.proofs.asking.fault_at_position.Given as goal

abbrev pub invariant-loop-key : goal.invariant-loop-key
invariant-loop-key l = nth (left_by l.choice l.key-iterator) l.left ≡ nth (faults_at l.position (left_by l.choice (map.entries l.faults))) l.fn.index
