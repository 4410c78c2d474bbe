-- The first byte of a packet: the type of the packet in bits 7 to 4, and its flags in bits 3 to 0 (MQTT 5.0, 2.1.1 to 2.1.3).
use Rattle.std.specs.Prelude.{ℕ, ◌+◌, ◌*◌, ◌/◌, ◌%◌, ◌==◌, Bool, true, List, [], ◌∷◌, Option, Some, None}
use Rattle.std.specs.List.{find}
use Rattle.mq_packet.specs.declared.packet.PacketType.{PacketType}
use Rattle.mq_packet.specs.declared.packet.PacketType.TheVariants as types

-- The number of each type (2.1.2).
abbrev pub type_number : PacketType → ℕ
type_number types.Connect = 1
type_number types.Connack = 2
type_number types.Publish = 3
type_number types.Puback = 4
type_number types.Pubrec = 5
type_number types.Pubrel = 6
type_number types.Pubcomp = 7
type_number types.Subscribe = 8
type_number types.Suback = 9
type_number types.Unsubscribe = 10
type_number types.Unsuback = 11
type_number types.Pingreq = 12
type_number types.Pingresp = 13
type_number types.Disconnect = 14
type_number types.Auth = 15

-- The flags that are reserved for each type, so that every packet of it has them; those of a PUBLISH are DUP, QoS and RETAIN
-- (2.1.3).
abbrev pub reserved_flags : PacketType → Option ℕ
reserved_flags types.Connect = Some 0
reserved_flags types.Connack = Some 0
reserved_flags types.Publish = None
reserved_flags types.Puback = Some 0
reserved_flags types.Pubrec = Some 0
reserved_flags types.Pubrel = Some 2
reserved_flags types.Pubcomp = Some 0
reserved_flags types.Subscribe = Some 2
reserved_flags types.Suback = Some 0
reserved_flags types.Unsubscribe = Some 2
reserved_flags types.Unsuback = Some 0
reserved_flags types.Pingreq = Some 0
reserved_flags types.Pingresp = Some 0
reserved_flags types.Disconnect = Some 0
reserved_flags types.Auth = Some 0

-- The types, in the order of their numbers.
abbrev pub packet_types : List PacketType
packet_types =
    types.Connect ∷ types.Connack ∷ types.Publish ∷ types.Puback ∷ types.Pubrec ∷ types.Pubrel ∷ types.Pubcomp ∷ types.Subscribe
    ∷ types.Suback ∷ types.Unsubscribe ∷ types.Unsuback ∷ types.Pingreq ∷ types.Pingresp ∷ types.Disconnect ∷ types.Auth ∷ []

-- The type in a first byte; no type has the number 0 (2.1.2).
abbrev pub type_in : ℕ → Option PacketType
type_in first = find (λ type. type_number type == first / 16) packet_types

-- Its flags.
abbrev pub flags_in : ℕ → ℕ
flags_in first = first % 16

-- A packet may have these flags: the reserved ones if there are any, else all.
abbrev pub are_flags : Option ℕ → ℕ → Bool
are_flags (Some reserved) flags = flags == reserved
are_flags None flags = true

-- The first byte with this type and these flags.
abbrev pub first_byte_with : PacketType → ℕ → ℕ
first_byte_with type flags = 16 * type_number type + flags
