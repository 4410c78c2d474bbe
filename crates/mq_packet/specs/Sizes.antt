-- The size of a packet (MQTT 5.0, 2.1).
use Rattle.std.specs.Prelude.{ℕ, ◌+◌, nat_le, if◌then◌else◌, length, Option, Some, None, unwrap_or}
use Rattle.mq_wire.specs.Spellings.{max_varint, varint_spelling}
use Rattle.mq_packet.specs.declared.packet.Packet.{Packet}
use Rattle.mq_packet.specs.Reading.{view, read_len_of}
use Rattle.mq_packet.specs.Canonical.{canonical_body}

-- A length that a Remaining Length can say (2.1.4).
abbrev pub within : ℕ → Option ℕ
within size = if nat_le size max_varint then Some size else None

-- The Remaining Length: that of the body as it was read, else as it is written (2.1.4).
abbrev pub remaining_length : Packet → ℕ
remaining_length packet = unwrap_or (read_len_of packet) (length (canonical_body (view packet)))

-- The size of a packet with a body of this length: its first byte, the Remaining Length and the body.
abbrev pub size_with : ℕ → Option ℕ
size_with size = if nat_le size max_varint then Some (1 + length (varint_spelling size) + size) else None
