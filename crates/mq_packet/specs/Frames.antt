-- The packet at the front of a stream (MQTT 5.0, section 2.1).
use Rattle.std.specs.Prelude.{◌≡◌, ℕ, ◌+◌, nat_le, if◌then◌else◌, List, ◌∷◌, ◌++◌, length, slice_index}
use Rattle.mq_wire.specs.Spellings.{IsVarint, varint_spelling}
use Rattle.mq_packet.specs.declared.header.FixedHeader.{FixedHeader}
use Rattle.mq_packet.specs.declared.header.FixedHeader.TheVariants as headers
use Rattle.mq_packet.specs.declared.frame.Cut.{Cut}
use Rattle.mq_packet.specs.declared.frame.Cut.TheVariants.{Need, Frame, Lost}
use Rattle.mq_packet.specs.Stream.{fixed_header_of}
use Rattle.mq_packet.specs.Decoding.{body_start}

-- The bytes begin with a packet that has this first byte, and a body from offset start to end: the first byte, the
-- shortest spelling of the body's length, and the body (2.1.1, 2.1.4).
pub record BeginsWithFrame (bytes : List ℕ) (first start end : ℕ) : Type 0 where
  pub body : List ℕ
  pub trailing : List ℕ
  pub small : IsVarint (length body)
  pub is : bytes ≡ first ∷ (varint_spelling (length body) ++ (body ++ trailing))
  pub start_is : start ≡ body_start (length body)
  pub end_is : end ≡ start + length body

-- The cut at the front of these bytes, by their fixed header.
abbrev pub cut_by : List ℕ → FixedHeader → Cut
cut_by bytes (headers.Whole header size) = if nat_le size (length bytes) then Frame (slice_index bytes 0) header size else Need
cut_by bytes headers.Lost = Lost
cut_by bytes headers.Short = Need

-- The cut at the front of these bytes.
unfoldable pub cut_of : List ℕ → Cut
cut_of bytes = cut_by bytes (fixed_header_of bytes)
