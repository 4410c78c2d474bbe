-- Converting a log of version 1 into one of version 2: each record the same, with the moment 0.
use Rattle.std.specs.Prelude.{◌≡◌, ◌⊎◌, true, false, Result, Ok, Err, ℕ, ◌==◌, nat_lt, Bool, ◌&&◌, not, cond, if◌then◌else◌, List, [], ◌∷◌, ◌++◌, length, take, drop, reverse, Option, Some, None, is_some, is_none}
use Rattle.std.specs.List.{flat_map}
use Rattle.std.specs.Option.{option_or}
use Rattle.mq_log.specs.declared.refusal.Refusal.{Refusal}
use Rattle.mq_log.specs.declared.refusal.Refusal.TheVariants as refusals
use Rattle.std.specs.Io.KnownBytes.{Appends, Consumes, IsAtEnd}
use Rattle.mq_trace.specs.declared.converting.ConvertFault.{ConvertFault}
use Rattle.mq_trace.specs.declared.converting.ConvertFault.TheVariants as convert_faults
use Rattle.mq_trace.specs.Writing.{AppendsBeginning}
use Rattle.mq_log.specs.Framing.{kind_of, body_length, length_end, records}
use Rattle.mq_log.specs.Refusals.{Situation, situation, header_refusal, first_that_applies, is_first, ends_length, allows_length, is_cut_short, is_open_kind, needs_connection, is_release_kind}

-- the refusal of a byte of a header at this offset, where the version has to be 1
abbrev pub first_version_refusal : ℕ → ℕ → Option Refusal
first_version_refusal at byte = if at == 4 then (if byte == 1 then None else Some (refusals.Version at)) else header_refusal at byte

-- The conditions of the refusals that records have by themselves, whatever they carry, in the order of their numbers.
abbrev pub record_conditions : Situation → List (Bool × Refusal)
record_conditions s =
    (is_first s && is_none (kind_of s.part), refusals.Kind s.at)
    ∷ (ends_length s && not (allows_length s.header.version (kind_of s.part) (body_length s.part)), refusals.Length s.at)
    ∷ (is_first s && (is_open_kind (kind_of s.part) && s.connected), refusals.Nested s.at)
    ∷ (is_first s && (needs_connection (kind_of s.part) && not s.connected), refusals.NotOpen s.at)
    ∷ (is_first s && (is_release_kind (kind_of s.part) && not s.header.releases), refusals.ReleaseUnrecorded s.at)
    ∷ (is_first s && nat_lt 4294967295 s.record_no, refusals.TooLong s.at)
    ∷ []

-- the refusal that applies first at the next byte of a log that is converted
unfoldable pub unconverted_at : List ℕ → ℕ → Option Refusal
unconverted_at before byte = if nat_lt (length before) 8 then first_version_refusal (length before) byte else first_that_applies (record_conditions (situation before byte))

-- the refusal of a log that is converted, whose bytes are given the newest first
unfoldable pub unconverted_back : List ℕ → Option Refusal
unconverted_back [] = None
unconverted_back (byte ∷ earlier) = option_or (unconverted_back earlier) (unconverted_at (reverse earlier) byte)

-- The refusal of a log that is converted, if a condition applies at one of its bytes.
unfoldable pub unconverted : List ℕ → Option Refusal
unconverted bytes = unconverted_back (reverse bytes)

-- the bytes before the first that is refused; the newest comes first
unfoldable pub copied_back : List ℕ → List ℕ
copied_back [] = []
copied_back (byte ∷ earlier) = cond (is_some (unconverted_back (byte ∷ earlier))) (copied_back earlier) (byte ∷ earlier)

unfoldable pub copied : List ℕ → List ℕ
copied bytes = reverse (copied_back (reverse bytes))

-- the moment 0, as it is written
abbrev pub no_moment : List ℕ
no_moment = 0 ∷ 0 ∷ 0 ∷ 0 ∷ 0 ∷ 0 ∷ 0 ∷ 0 ∷ []

-- a record, or as much as there is of it, with the moment 0 after its length, if that is whole
unfoldable pub with_moment : List ℕ → List ℕ
with_moment part = if nat_lt (length part) length_end then part else (take length_end part ++ no_moment) ++ drop length_end part

-- the header of a log, in version 2
abbrev pub second_header : List ℕ → List ℕ
second_header log = take 4 log ++ 2 ∷ take 3 (drop 5 log)

-- a log of version 1 in version 2, as far as it goes; nothing where its header isn't whole
unfoldable pub timed : List ℕ → List ℕ
timed log = if nat_lt (length log) 8 then [] else second_header log ++ (flat_map with_moment (records log).whole ++ with_moment (records log).rest)

-- What is written of a log that is converted: all before the byte that is refused, if one is.
abbrev pub converted : List ℕ → List ℕ
converted bytes = timed (copied bytes)

-- Why a log is refused of which these bytes were read: a byte of them is refused; or none is, and they end inside the header or a record, with the reader at its end; or no more could be read.
abbrev pub IsUnconverted : List ℕ → Option (List ℕ) → Refusal → Type 0
IsUnconverted read left refusal = (unconverted read ≡ Some refusal)
    ⊎ ((unconverted read ≡ None) × ((IsAtEnd left × (is_cut_short read ≡ true) × (refusal ≡ refusals.Cut (length read))) ⊎ (refusal ≡ refusals.Read (length read))))

-- What converting a log did of which these bytes were read, by its result and what the reader has left: it wrote what is written of
-- these bytes, and nothing else; or, if a write failed, a beginning of it.
abbrev pub ConvertsRead : List ℕ → Option (List ℕ) → Result (Unit {0}) ConvertFault → Option (List ℕ) → Option (List ℕ) → Type 0
ConvertsRead read left (Ok _) old new = IsAtEnd left × (unconverted read ≡ None) × (is_cut_short read ≡ false) × Appends old new (converted read)
ConvertsRead read left (Err (convert_faults.Refused refusal)) old new = IsUnconverted read left refusal × Appends old new (converted read)
ConvertsRead read left (Err convert_faults.Write) old new = AppendsBeginning old new (converted read)

-- What converting this log did: some of its bytes were read, and so much was done of them.
pub record Converts (log : List ℕ) (left : Option (List ℕ)) (result : Result (Unit {0}) ConvertFault) (old new : Option (List ℕ)) : Type 0 where
  pub read : List ℕ
  pub consumed : Consumes (Some log) left read
  pub does : ConvertsRead read left result old new
