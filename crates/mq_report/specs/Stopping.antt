-- How far a log is taken in: the bytes in which nothing is refused, and why the byte after them, or the log's end, is refused.
use Rattle.std.specs.Prelude.{◌≡◌, ℕ, true, false, List, [], ◌∷◌, ◌++◌, length, ◌⊎◌, Option, Some, None, is_some}
use Rattle.std.specs.Io.KnownBytes.{Consumes}
use Rattle.mq_log.specs.declared.refusal.Refusal.{Refusal}
use Rattle.mq_log.specs.declared.refusal.Refusal.TheVariants as refusals
use Rattle.mq_trace.specs.Deframing.{NeedsMemory}
use Rattle.mq_log.specs.Events.{event_at, packet_at}
use Rattle.mq_log.specs.Refusals.{refused, refusal_at, is_cut_short}

-- the largest packet that is read by default, in bytes
abbrev pub default_limit : ℕ
default_limit = 16777216

-- The log can be judged: nothing is refused in it, and it ends after a whole record.
pub record IsJudged (log : List ℕ) : Type 0 where
  pub unrefused : refused default_limit log ≡ None
  pub whole : is_cut_short log ≡ false

-- A byte after these bytes may need memory: it belongs to a packet of which more is to come, or it completes an event.
abbrev pub MayLackMemory : List ℕ → ℕ → Type 0
MayLackMemory taken byte = NeedsMemory (packet_at taken byte) ⊎ (is_some (event_at taken byte) ≡ true)

-- Why a byte is refused after these bytes: a condition applies at it, and the lowest number decides; or none does, and there was no memory to take it in.
abbrev pub IsRefusedByte : ℕ → List ℕ → ℕ → Refusal → Type 0
IsRefusedByte limit taken byte refusal = (refusal_at limit taken byte ≡ Some refusal)
    ⊎ ((refusal_at limit taken byte ≡ None) × (refusal ≡ refusals.Memory (length taken)) × MayLackMemory taken byte)

-- Why the end of a log of these bytes is refused: it is cut short.
abbrev pub IsRefusedEnd : List ℕ → Refusal → Type 0
IsRefusedEnd log refusal = (is_cut_short log ≡ true) × (refusal ≡ refusals.Cut (length log))

-- A byte of a piece that follows a log is refused, and nothing is refused before that byte.
pub record StopsIn (limit : ℕ) (log piece : List ℕ) (refusal : Refusal) : Type 0 where
  pub taken : List ℕ
  pub byte : ℕ
  pub later : List ℕ
  pub is : piece ≡ taken ++ byte ∷ later
  pub unrefused : refused limit (log ++ taken) ≡ None
  pub why : IsRefusedByte limit (log ++ taken) byte refusal

-- Why no more is taken in after these bytes of a log, with these still to come: the next byte is refused, or, if none is to come, the end.
abbrev pub IsRefusedNext : ℕ → List ℕ → List ℕ → Refusal → Type 0
IsRefusedNext limit taken [] refusal = IsRefusedEnd taken refusal
IsRefusedNext limit taken (byte ∷ later) refusal = IsRefusedByte limit taken byte refusal

-- These bytes were read, and then reading failed or no turn was left: the refusal has their number, and the reader has left what is still to come.
abbrev pub IsUnread : List ℕ → List ℕ → Option (List ℕ) → Refusal → Type 0
IsUnread taken later left refusal = (refusal ≡ refusals.Read (length taken)) × (left ≡ Some later)

-- A log from a reader is refused at a byte, and nothing is refused before it. The reader has these bytes left, if that is known.
pub record IsRefusedAt (limit : ℕ) (log : List ℕ) (left : Option (List ℕ)) (refusal : Refusal) : Type 0 where
  -- the bytes before the refused one
  pub taken : List ℕ
  pub later : List ℕ
  pub is : log ≡ taken ++ later
  pub unrefused : refused limit taken ≡ None
  pub why : IsRefusedNext limit taken later refusal ⊎ IsUnread taken later left refusal

-- The feeder followed some of what the reader had left; and then it refused a byte of the next piece, or nothing more could be read.
pub record FedBefore {F S : Type 0} (limit : F → ℕ) (follows : F → S → List ℕ → Type 0) (stops : ℕ → F → S → List ℕ → List ℕ → Refusal → Type 0) (first : ℕ)
    (old new : Option (List ℕ)) (fed : F) (sink : S) (refusal : Refusal) : Type 0 where
  pub log : List ℕ
  pub piece : List ℕ
  pub consumed : Consumes old new (log ++ piece)
  pub why : stops first fed sink log piece refusal ⊎ ((piece ≡ []) × follows fed sink log × (limit fed ≡ first) × (refusal ≡ refusals.Read (length log)))
