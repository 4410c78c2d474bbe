-- The numbers of faults.
use Rattle.std.specs.Prelude.{ℕ}
use Rattle.mq_wire.specs.declared.fault.Reason.{Reason}
use Rattle.mq_wire.specs.declared.fault.Reason.TheVariants as reasons
use Rattle.mq_wire.specs.declared.fault.PutFault.{PutFault}
use Rattle.mq_wire.specs.declared.fault.PutFault.TheVariants as puts

-- The number of what is wrong with the bytes of a field.
abbrev pub reason_number : Reason → ℕ
reason_number reasons.Short = 1
reason_number reasons.Overlong = 2
reason_number reasons.NotUtf8 = 3
reason_number reasons.Nul = 4

-- The number of why a field isn't written. If several apply, the lowest one is returned.
abbrev pub put_fault_number : PutFault → ℕ
put_fault_number puts.TooLong = 1
put_fault_number puts.Nul = 2
put_fault_number puts.Memory = 3
