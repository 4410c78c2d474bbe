-- The steps of copying a log of version 1 into version 2: what is kept of the log, and what each byte adds to what is written.
use Rattle.std.specs.Prelude.{◌≡◌, ℕ, ◌+◌, ◌*◌, ◌<◌, ◌≤◌, ◌==◌, Bool, true, false, ⊤, ◌-◌, if◌then◌else◌, List, [], ◌∷◌, ◌++◌, length, Option, Some, None}
use Rattle.std.specs.Io.KnownBytes.{Appends}
use Rattle.mq_log.specs.declared.kind.RecordKind.{RecordKind}
use Rattle.mq_log.specs.declared.kind.RecordKind.TheVariants as kinds
use Rattle.mq_log.specs.declared.refusal.Refusal.{Refusal}
use Rattle.mq_log.specs.declared.refusal.Refusal.TheVariants as refusals
use Rattle.mq_trace.specs.declared.feeding.Halt.{Halt}
use Rattle.mq_trace.specs.declared.feeding.Halt.TheVariants as halts
use Rattle.mq_trace.specs.declared.converting.ConvertFault.{ConvertFault}
use Rattle.mq_trace.specs.declared.converting.ConvertFault.TheVariants as faults
use Rattle.mq_trace.specs.declared.converting.Part.{Part}
use Rattle.mq_trace.specs.declared.converting.Part.TheVariants as parts
use Rattle.mq_trace.specs.declared.converting.Addition.{Addition}
use Rattle.mq_trace.specs.declared.converting.Addition.TheVariants as additions
use Rattle.mq_trace.specs.declared.converting.Copying.{Copying}
use Rattle.mq_log.specs.Framing.{header_by, kind_named, kind_of, body_length, length_end, longest_record, records}
use Rattle.mq_log.specs.Events.{events}
use Rattle.mq_log.specs.Connections.{has_open_connection}
use Rattle.mq_log.specs.Refusals.{first_byte_refusal}
use Rattle.mq_trace.specs.Heads.{IsHead, IsWithinHead, begin_refusal, head_of}
use Rattle.mq_trace.specs.Writing.{AppendsBeginning, header_bytes}
use Rattle.mq_trace.specs.Converting.{no_moment, timed, unconverted, unconverted_at}

-- a record of this kind may have a body
abbrev pub has_body : Option RecordKind → Bool
has_body (Some kinds.Sent) = true
has_body (Some kinds.Recv) = true
has_body (Some kinds.Release) = true
has_body _ = false

-- The unfinished record is this part, and the copier is there in it.
abbrev pub IsIn : Part → List ℕ → Type 0
IsIn parts.Between part = part ≡ []
IsIn (parts.Head kind count number) part = IsHead (head_of kind count number) part
IsIn (parts.Body left) part = (length_end ≤ length part) × (length part + left ≡ length_end + body_length part) × (1 ≤ left) × (has_body (kind_of part) ≡ true)

-- What is copied so far is this log, and none of it is refused.
pub record IsCopyOf (c : Copying) (log : List ℕ) : Type 0 where
  pub unrefused : unconverted log ≡ None
  pub at : c.at ≡ length log
  pub header : c.header ≡ header_by log
  pub first : 4 < length log → (header_by log).version ≡ 1
  pub whole : c.records ≡ length (records log).whole
  pub connected : c.connected ≡ has_open_connection (events log)
  pub part : IsIn c.part (records log).rest

-- a bound on how many bytes of the unfinished record came
abbrev pub begun_in : Part → ℕ
begun_in parts.Between = 0
begun_in (parts.Head kind count number) = 1 + count
begun_in (parts.Body left) = longest_record - left

-- its numbers are within their bounds
abbrev pub IsWithin : Part → Type 0
IsWithin parts.Between = ⊤
IsWithin (parts.Head kind count number) = IsWithinHead (head_of kind count number)
IsWithin (parts.Body left) = (1 ≤ left) × (left ≤ 1048576)

-- What holds of all that may be kept.
pub record IsSound (c : Copying) : Type 0 where
  pub counted : c.at ≤ 8 + longest_record * c.records + begun_in c.part
  pub few : c.records ≤ 4294967295
  pub begun : 0 < begun_in c.part → c.records < 4294967295
  pub within : IsWithin c.part
  pub past_header : 0 < begun_in c.part → 8 ≤ c.at
  pub header_first : c.at < 8 → c.part ≡ parts.Between

-- the bytes that are added
abbrev pub added_bytes : Addition → List ℕ
added_bytes additions.Nothing = []
added_bytes (additions.Header header) = header_bytes header
added_bytes (additions.Byte byte) = byte ∷ []
added_bytes (additions.Moment byte) = byte ∷ no_moment

-- what a byte of the header adds: the whole header, in version 2, with its last byte
abbrev pub header_addition : Copying → Addition
header_addition c = if c.at == 8 then additions.Header (record { version = 2; server = c.header.server; releases = c.header.releases }) else additions.Nothing

-- after one more byte of the header
abbrev pub past_header_byte : Copying → ℕ → Copying
past_header_byte c byte = record c {
  at = c.at + 1;
  header = record {
    version = if c.at == 4 then byte else c.header.version;
    server = if c.at == 5 then byte == 1 else c.header.server;
    releases = if c.at == 6 then byte == 1 else c.header.releases;
  };
}

-- the refusal that applies at the first byte of a record of this kind
abbrev pub refused_kind : Copying → RecordKind → Option Refusal
refused_kind c kind = first_byte_refusal c.at c.header.releases c.connected c.records kind

-- the refusal that applies at the first byte of a record, whose kind, if it names one, is this
abbrev pub refused_begin : Copying → Option RecordKind → Option Refusal
refused_begin c kind = begin_refusal c.at c.header.releases c.connected c.records kind

-- with the first byte of a record of this kind, or with more of its length
abbrev pub in_length : Copying → RecordKind → ℕ → ℕ → Copying
in_length c kind count number = record c { at = c.at + 1; part = parts.Head kind count number }

-- after the first byte of a record, which is named, and the byte is added
pub record BeginsCopy (c c' : Copying) (byte : ℕ) (addition : Addition) : Type 0 where
  pub kind : RecordKind
  pub named : kind_named byte ≡ Some kind
  pub unrefused : refused_kind c kind ≡ None
  pub is : c' ≡ in_length c kind 0 0
  pub adds : addition ≡ additions.Byte byte

-- whether a connection is open after a record's kind and length
abbrev pub connected_after : RecordKind → Bool → Bool
connected_after kinds.Open connected = true
connected_after kinds.Close connected = false
connected_after _ connected = connected

-- with the last byte of the length of a record of this kind, which is this number
abbrev pub past_length : Copying → RecordKind → ℕ → Copying
past_length c kind number = record c {
  at = c.at + 1;
  records = if number == 0 then c.records + 1 else c.records;
  connected = connected_after kind c.connected;
  part = if number == 0 then parts.Between else parts.Body number;
}

-- with more bytes of a body, of which so many were to come
abbrev pub past_body : Copying → ℕ → ℕ → Copying
past_body c left count = record c {
  at = c.at + count;
  records = if left == count then c.records + 1 else c.records;
  part = if left == count then parts.Between else parts.Body (left - count);
}

-- These bytes after a log add these to what is written of it.
abbrev pub Adds : List ℕ → List ℕ → List ℕ → Type 0
Adds log bytes more = timed (log ++ bytes) ≡ timed log ++ more

-- What these bytes after a log add to what is written of it was written.
pub record WritesMore (log bytes : List ℕ) (old new : Option (List ℕ)) : Type 0 where
  pub more : List ℕ
  pub is : Adds log bytes more
  pub appended : Appends old new more

-- it is between two records
abbrev pub is_between : Part → Bool
is_between parts.Between = true
is_between (parts.Head kind count number) = false
is_between (parts.Body left) = false

-- Why copying stops in these bytes after a log: a byte is refused, and all before it was written; or a write failed, and a beginning was written.
pub record RefusesByte (log bytes : List ℕ) (old new : Option (List ℕ)) (refusal : Refusal) : Type 0 where
  pub taken : List ℕ
  pub byte : ℕ
  pub later : List ℕ
  pub is : bytes ≡ taken ++ byte ∷ later
  pub unrefused : unconverted (log ++ taken) ≡ None
  pub why : unconverted_at (log ++ taken) byte ≡ Some refusal
  pub written : WritesMore log taken old new

pub record WritesLess (log bytes : List ℕ) (old new : Option (List ℕ)) : Type 0 where
  pub taken : List ℕ
  pub later : List ℕ
  pub is : bytes ≡ taken ++ later
  pub unrefused : unconverted (log ++ taken) ≡ None
  pub more : List ℕ
  pub adds : Adds log taken more
  pub written : AppendsBeginning old new more

abbrev pub StopsCopying : List ℕ → List ℕ → Option (List ℕ) → Option (List ℕ) → ConvertFault → Type 0
StopsCopying log bytes old new (faults.Refused refusal) = RefusesByte log bytes old new refusal
StopsCopying log bytes old new faults.Write = WritesLess log bytes old new

-- why a log wasn't converted whose feeding halted: the converter's own fault, or that no more could be read
abbrev pub fault_of : Halt ConvertFault → ConvertFault
fault_of (halts.Stopped fault) = fault
fault_of (halts.Failed count) = faults.Refused (refusals.Read count)
fault_of (halts.RanOut count) = faults.Refused (refusals.Read count)

-- What a writer that had held this holds after a log was fed: what is written of the log.
abbrev pub IsHeld : Option (List ℕ) → Option (List ℕ) → List ℕ → Type 0
IsHeld held now log = Appends held now (timed log)

-- why feeding a piece after a log stopped, by what the writer had held at first and what it holds now
abbrev pub StopsIn : Option (List ℕ) → Option (List ℕ) → List ℕ → List ℕ → ConvertFault → Type 0
StopsIn held now log piece (faults.Refused refusal) = (taken : List ℕ) × (byte : ℕ) × (later : List ℕ) × (piece ≡ taken ++ byte ∷ later) × (unconverted (log ++ taken) ≡ None)
    × (unconverted_at (log ++ taken) byte ≡ Some refusal) × IsHeld held now (log ++ taken)
StopsIn held now log piece faults.Write = (taken : List ℕ) × (later : List ℕ) × (piece ≡ taken ++ later) × (unconverted (log ++ taken) ≡ None) × AppendsBeginning held now (timed (log ++ taken))
