-- The next bytes of a direction, and the next byte of a packet.
use Rattle.std.specs.Prelude.{◌≡◌, ℕ, ◌+◌, ◌<◌, ◌≤◌, true, List, [], ◌∷◌, ◌++◌, length, slice_index, Some}
use Rattle.mq_packet.specs.declared.header.FixedHeader.TheVariants as headers
use Rattle.mq_packet.specs.Stream.{fixed_header_of, frame_size}
use Rattle.mq_trace.specs.declared.frame.Frame.{Frame}
use Rattle.mq_trace.specs.declared.deframer.Step.{Step}
use Rattle.mq_trace.specs.declared.deframer.Step.TheVariants as steps
use Rattle.mq_trace.specs.declared.deframer.ByteStep.{ByteStep}
use Rattle.mq_trace.specs.declared.deframer.ByteStep.TheVariants as byte_steps
use Rattle.mq_log.specs.Refusals.{is_too_large}
use Rattle.mq_log.specs.Context.{StreamState}
use Rattle.mq_trace.specs.Keeping.{IsShort}

-- The bytes are those of a whole packet, and so many of them its fixed header.
pub record IsFrame (frame : Frame) : Type 0 where
  pub whole : fixed_header_of frame.bytes.now ≡ headers.Whole frame.header (length frame.bytes.now)
  pub fits : length frame.bytes.now ≤ frame.header + 268435455
  pub bytes : (i : ℕ) → slice_index frame.bytes.now i < 256

-- The bytes begin with a whole packet within the limit, of this size and with a fixed header of this length.
pub record IsWhole (limit : ℕ) (bytes : List ℕ) (header size : ℕ) : Type 0 where
  pub spelled : fixed_header_of bytes ≡ headers.Whole header size
  pub frame : frame_size bytes ≡ Some size
  pub within : size ≤ limit
  pub bound : size ≤ header + 268435455

-- What the next bytes of a direction are, where they don't begin with a whole packet: the beginning of one, while none is unfinished; or anything else.
abbrev pub IsStep : StreamState → ℕ → List ℕ → Step → Type 0
IsStep state limit bytes steps.Beginning = (state.unfinished ≡ []) × IsShort limit bytes (fixed_header_of bytes)
IsStep state limit bytes steps.Other = Unit {0}

-- What a byte is, after these bytes of an unfinished packet: one of which more is to come; its last byte, where so many bytes are
-- its fixed header; the one that ends a fixed header with a size over the limit; or the one that makes the fixed header invalid.
abbrev pub IsByteStep : ℕ → List ℕ → ℕ → ByteStep → Type 0
IsByteStep limit before byte byte_steps.GoesOn = IsShort limit (before ++ byte ∷ []) (fixed_header_of (before ++ byte ∷ []))
IsByteStep limit before byte (byte_steps.Ends header) = (1 ≤ length before) × (fixed_header_of (before ++ byte ∷ []) ≡ headers.Whole header (length (before ++ byte ∷ []))) × (length (before ++ byte ∷ []) ≤ header + 268435455) × (length (before ++ byte ∷ []) ≤ limit)
IsByteStep limit before byte byte_steps.TooLarge = is_too_large limit (before ++ byte ∷ []) (fixed_header_of (before ++ byte ∷ [])) ≡ true
IsByteStep limit before byte byte_steps.Loses = fixed_header_of (before ++ byte ∷ []) ≡ headers.Lost
