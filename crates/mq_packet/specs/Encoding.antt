-- Why a packet couldn't be written.
use Rattle.std.specs.Prelude.{ℕ}
use Rattle.mq_packet.specs.declared.writing.fault.EncodeFault.{EncodeFault}
use Rattle.mq_packet.specs.declared.writing.fault.EncodeFault.TheVariants.{TooLong, Memory}

-- The number of each fault: if several apply, the lowest is returned.
abbrev pub fault_number : EncodeFault → ℕ
fault_number TooLong = 1
fault_number Memory = 2
