-- A record's kind, and what came of its length.
use Rattle.std.specs.Prelude.{◌≡◌, ℕ, ◌+◌, ◌*◌, ◌<◌, ◌≤◌, Bool, true, false, List, ◌∷◌, length, Option, Some, None}
use Rattle.mq_log.specs.declared.kind.RecordKind.{RecordKind}
use Rattle.mq_log.specs.declared.refusal.Refusal.{Refusal}
use Rattle.mq_log.specs.declared.refusal.Refusal.TheVariants as refusals
use Rattle.mq_log.specs.Framing.{kind_of, spelled_from}
use Rattle.mq_log.specs.Refusals.{allows_length, first_byte_refusal}
use Rattle.mq_trace.specs.declared.head.Head.{Head}
use Rattle.mq_trace.specs.declared.head.HeadStep.{HeadStep}
use Rattle.mq_trace.specs.declared.head.HeadStep.TheVariants as steps

-- the head of a record of this kind, of whose length so many bytes came, which spell this number
abbrev pub head_of : RecordKind → ℕ → ℕ → Head
head_of kind count number = record { kind = kind; count = count; number = number }

-- The unfinished record is this part, and the head says so.
abbrev pub IsHead : Head → List ℕ → Type 0
IsHead head part = (first : ℕ) × (bytes : List ℕ) × (part ≡ first ∷ bytes) × (kind_of part ≡ Some head.kind) × (length bytes ≡ head.count) × (head.number ≡ spelled_from 0 bytes)

-- its numbers are within their bounds
abbrev pub IsWithinHead : Head → Type 0
IsWithinHead head = (head.count ≤ 3) × ((head.count ≡ 0 → head.number ≡ 0) × (head.count ≡ 1 → head.number < 256) × (head.count ≡ 2 → head.number < 65536) × (head.number < 16777216))

-- the refusal that applies at the first byte of a record, whose kind, if it names one, is this
abbrev pub begin_refusal : ℕ → Bool → Bool → ℕ → Option RecordKind → Option Refusal
begin_refusal at releases connected records None = Some (refusals.Kind at)
begin_refusal at releases connected records (Some kind) = first_byte_refusal at releases connected records kind

-- What the next byte of a length is to a head: one of which more is to come; or the length's last one, with which it is allowed or not.
abbrev pub IsHeadStep : ℕ → Head → ℕ → HeadStep → Type 0
IsHeadStep version head byte (steps.GoesOn count number) = (head.count < 3) × (head_of head.kind count number ≡ head_of head.kind (head.count + 1) (head.number * 256 + byte))
IsHeadStep version head byte (steps.Ends number) = (head.count ≡ 3) × (number ≡ head.number * 256 + byte) × (allows_length version (Some head.kind) number ≡ true)
IsHeadStep version head byte steps.Barred = (head.count ≡ 3) × (allows_length version (Some head.kind) (head.number * 256 + byte) ≡ false)
