-- A field's fault as a fault of the property list that it is in, and the numbers of faults.
use Rattle.std.specs.Prelude.{ℕ}
use Rattle.mq_wire.specs.declared.fault.WireFault.{WireFault}
use Rattle.mq_props.specs.declared.fault.PropFault.{PropFault}
use Rattle.mq_props.specs.declared.fault.PropReason.{PropReason}
use Rattle.mq_props.specs.declared.fault.PropReason.TheVariants as reasons
use Rattle.mq_props.specs.declared.fault.PushFault.{PushFault}
use Rattle.mq_props.specs.declared.fault.PushFault.TheVariants as pushes

-- The same place, and the field's reason.
abbrev pub wire_fault : WireFault → PropFault
wire_fault fault = record { at = fault.at; reason = reasons.Wire fault.reason }

-- The number of what is wrong with a property list.
abbrev pub prop_reason_number : PropReason → ℕ
prop_reason_number (reasons.Wire reason) = 1
prop_reason_number reasons.Unknown = 2
prop_reason_number reasons.NotAllowed = 3
prop_reason_number reasons.Repeated = 4
prop_reason_number reasons.Value = 5
prop_reason_number reasons.Wildcard = 6

-- The number of why a property isn't appended. If several apply, the lowest one is returned.
abbrev pub push_fault_number : PushFault → ℕ
push_fault_number pushes.NotAllowed = 1
push_fault_number pushes.Repeated = 2
push_fault_number pushes.Value = 3
push_fault_number pushes.TooLong = 4
push_fault_number pushes.Memory = 5
