-- The stream of packets of one direction (MQTT 5.0, section 2.1): what its front says of the first packet.
use Rattle.std.specs.Prelude.{ℕ, ◌+◌, ◌≤◌, nat_le, Bool, true, false, if◌then◌else◌, List, [], ◌∷◌, length, Option, Some, None, Result, Ok, Err}
use Rattle.mq_wire.specs.declared.fault.Reason.{Reason}
use Rattle.mq_wire.specs.declared.fault.Reason.TheVariants as reasons
use Rattle.mq_wire.specs.Fields.{varint_at}
use Rattle.mq_wire.specs.Spellings.{max_varint}
use Rattle.mq_packet.specs.declared.header.FixedHeader.{FixedHeader}
use Rattle.mq_packet.specs.declared.header.FixedHeader.TheVariants.{Short, Lost, Whole}

-- The Remaining Length after the first byte, and how many bytes spell it (2.1.4).
abbrev pub remaining_length_at : List ℕ → Result (ℕ × ℕ) Reason
remaining_length_at [] = Err reasons.Short
remaining_length_at (first ∷ rest) = varint_at rest

-- The fixed header with this Remaining Length: the first byte and the bytes that spell it, and the packet's size.
abbrev pub header_with : Result (ℕ × ℕ) Reason → FixedHeader
header_with (Ok remaining) = Whole (1 + remaining.1) (1 + remaining.1 + remaining.0)
header_with (Err reasons.Overlong) = Lost
header_with (Err _) = Short

-- A whole fixed header has 2 to 5 bytes, and its packet at most 268,435,455 more (2.1.4).
abbrev pub HasBounds : FixedHeader → Type 0
HasBounds (Whole header size) = (2 ≤ header) × (header ≤ 5) × (header ≤ size) × (size ≤ header + max_varint)
HasBounds _ = Unit {0}

-- The fixed header at the front.
unfoldable pub fixed_header_of : List ℕ → FixedHeader
fixed_header_of bytes = header_with (remaining_length_at bytes)

-- The size that the fixed header gives, if that many bytes are available.
abbrev pub size_within : ℕ → FixedHeader → Option ℕ
size_within available (Whole header size) = if nat_le size available then Some size else None
size_within available _ = None

-- The size of the frame at the front, if a whole one is there.
unfoldable pub frame_size : List ℕ → Option ℕ
frame_size bytes = size_within (length bytes) (fixed_header_of bytes)

-- The Remaining Length has more bytes than a Variable Byte Integer may have, or than it needs (1.5.5).
abbrev pub is_overlong : Result (ℕ × ℕ) Reason → Bool
is_overlong (Err reasons.Overlong) = true
is_overlong _ = false

-- There is a first byte, and the Remaining Length after it is invalid, whatever follows.
unfoldable pub is_lost : List ℕ → Bool
is_lost bytes = is_overlong (remaining_length_at bytes)
