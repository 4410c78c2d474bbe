-- A log as it is written: the bytes of its header and of its records, and what a TraceWriter does with them.
use Rattle.std.specs.Prelude.{◌≡◌, ℕ, ◌<◌, ◌==◌, if◌then◌else◌, Bool, true, false, List, [], ◌∷◌, ◌++◌, length, Option}
use Rattle.std.specs.Int.{w16, w32, w64, to_be_bytes}
use Rattle.std.specs.Io.KnownBytes.{Appends}
use Rattle.mq_log.specs.declared.header.Header.{Header}
use Rattle.mq_log.specs.declared.kind.RecordKind.{RecordKind}
use Rattle.mq_log.specs.Framing.{magic}
use Rattle.mq_log.specs.declared.kind.RecordKind.TheVariants as kinds

-- a bit as a byte
abbrev pub bit_byte : Bool → ℕ
bit_byte true = 1
bit_byte false = 0

-- a header: `MQTR`, the version, a byte that is 1 for a server, one whose bit 0 says that releases are recorded, and a byte that is 0
abbrev pub header_bytes : Header → List ℕ
header_bytes header = magic ++ header.version ∷ bit_byte header.server ∷ bit_byte header.releases ∷ 0 ∷ []

-- a record, and what it carries: bytes, or a Packet Identifier
pub data Record : Type 0 where
  open_record close_record rest_record : Record
  sent_record received_record : List ℕ → Record
  release_record : ℕ → Record

-- its kind
abbrev pub record_kind : Record → RecordKind
record_kind open_record = kinds.Open
record_kind (sent_record body) = kinds.Sent
record_kind (received_record body) = kinds.Recv
record_kind close_record = kinds.Close
record_kind rest_record = kinds.Rest
record_kind (release_record identifier) = kinds.Release

-- the byte that names a kind
abbrev pub kind_byte : RecordKind → ℕ
kind_byte kinds.Open = 1
kind_byte kinds.Sent = 2
kind_byte kinds.Recv = 3
kind_byte kinds.Close = 4
kind_byte kinds.Rest = 5
kind_byte kinds.Release = 6

-- its body; an identifier has two bytes, the most significant first
abbrev pub record_body : Record → List ℕ
record_body (sent_record body) = body
record_body (received_record body) = body
record_body (release_record identifier) = to_be_bytes w16 identifier
record_body _ = []

-- a record's moment, in eight bytes, the most significant first, in version 2 alone
unfoldable pub moment_bytes : ℕ → ℕ → List ℕ
moment_bytes version moment = if version == 2 then to_be_bytes w64 moment else []

-- the bytes of a record: the byte of its kind, the length of the body in four bytes, the most significant first, its moment, and the body
abbrev pub framed : ℕ → ℕ → ℕ → List ℕ → List ℕ
framed version moment kind body = (kind ∷ to_be_bytes w32 (length body) ++ moment_bytes version moment) ++ body

-- a record's bytes, in this version and with this moment
abbrev pub record_bytes : ℕ → ℕ → Record → List ℕ
record_bytes version moment entry = framed version moment (kind_byte (record_kind entry)) (record_body entry)

-- The known bytes grew by a beginning of the text, but not all of it, and by nothing else.
pub record AppendsBeginning (old new : Option (List ℕ)) (text : List ℕ) : Type 0 where
  pub written : List ℕ
  pub unwritten : List ℕ
  pub whole : text ≡ written ++ unwritten
  pub some : 0 < length unwritten
  pub appended : Appends old new written

-- The known bytes have grown by all of the whole text except the rest.
pub record LeavesToWrite (old new : Option (List ℕ)) (whole rest : List ℕ) : Type 0 where
  pub written : List ℕ
  pub parts : whole ≡ written ++ rest
  pub appended : Appends old new written

-- a TraceWriter: the writer that it writes to, whether a call has failed, the version of the log, and the moment of the next records
pub record Tracing (W : Type 0) : Type 0 where
  pub writer : W
  pub has_failed : Bool
  pub version : ℕ
  pub moment : ℕ

-- A call has written these bytes, and no call has failed.
pub record WritesAll {W : Type 0} (contents : W → Option (List ℕ)) (old new : Tracing W) (bytes : List ℕ) : Type 0 where
  pub unfailed : old.has_failed ≡ false
  pub goes_on : new.has_failed ≡ false
  pub appended : Appends (contents old.writer) (contents new.writer) bytes

-- A call has failed to write these bytes: if an earlier call had failed it wrote nothing, else a beginning of them.
pub record FailsToWrite {W : Type 0} (contents : W → Option (List ℕ)) (old new : Tracing W) (bytes : List ℕ) : Type 0 where
  pub failed : new.has_failed ≡ true
  pub unchanged : old.has_failed ≡ true → new.writer ≡ old.writer
  pub begun : old.has_failed ≡ false → AppendsBeginning (contents old.writer) (contents new.writer) bytes
