-- How a log is laid out: a header of eight bytes, and records. A record is a byte that names its kind, the length of its body in
-- four bytes, in version 2 its moment in eight, and the body. A number's most significant byte comes first.
use Rattle.std.specs.Prelude.{ℕ, ◌+◌, ◌*◌, ◌==◌, nat_lt, nat_le, Bool, true, false, ◌||◌, cond, if◌then◌else◌, List, [], ◌∷◌, ◌++◌, length, take, drop, reverse, slice_index, Option, Some, None}
use Rattle.std.specs.Int.{w32, from_be_bytes}
use Rattle.mq_log.specs.declared.kind.RecordKind.{RecordKind}
use Rattle.mq_log.specs.declared.kind.RecordKind.TheVariants as kinds
use Rattle.mq_log.specs.declared.kind.Direction.{Direction}
use Rattle.mq_log.specs.declared.kind.Direction.TheVariants as directions
use Rattle.mq_log.specs.declared.header.Header.{Header}
use Rattle.mq_log.specs.Pieces.{Pieces, pieces}
use Rattle.mq_packet.specs.Stream.{frame_size}

-- the first four bytes of a log: `MQTR`
abbrev pub magic : List ℕ
magic = 77 ∷ 81 ∷ 84 ∷ 82 ∷ []

-- a version of the layout: 1 or 2
abbrev pub is_version : ℕ → Bool
is_version byte = byte == 1 || byte == 2

-- how many bytes of a record there are up to the end of its length: that of its kind, and four
abbrev pub length_end : ℕ
length_end = 5

-- the length of a record's head, by the version: its kind, the length of its body, and in version 2 its moment
unfoldable pub head_length : ℕ → ℕ
head_length version = if version == 2 then 13 else length_end

-- the longest body of a record that carries packets, by the version
unfoldable pub longest_body : ℕ → ℕ
longest_body version = if version == 2 then 16777216 else 1048576

-- a bound on the length of any record
abbrev pub longest_record : ℕ
longest_record = 16777229

-- what the header says: byte 4 is the version, byte 5 is 1 if the tested end is a server, and bit 0 of byte 6 says whether releases are recorded
abbrev pub header_by : List ℕ → Header
header_by bytes = record { version = slice_index bytes 4; server = slice_index bytes 5 == 1; releases = slice_index bytes 6 == 1 }

-- the kind that a record's first byte names
abbrev pub kind_named : ℕ → Option RecordKind
kind_named byte = if byte == 1 then Some kinds.Open else (if byte == 2 then Some kinds.Sent else (if byte == 3 then Some kinds.Recv
    else (if byte == 4 then Some kinds.Close else (if byte == 5 then Some kinds.Rest else (if byte == 6 then Some kinds.Release else None)))))

-- the kind of a record of which at least one byte is there
unfoldable pub kind_of : List ℕ → Option RecordKind
kind_of part = kind_named (slice_index part 0)

-- the length that the four bytes after a record's first one spell
unfoldable pub body_length : List ℕ → ℕ
body_length part = from_be_bytes w32 (take 4 (drop 1 part))

-- the number that bytes spell, the most significant first, after a number
abbrev pub spelled_from : ℕ → List ℕ → ℕ
spelled_from number [] = number
spelled_from number (byte ∷ bytes) = spelled_from (number * 256 + byte) bytes

-- The moment of a record, given the length of its head: what the bytes of the head after the length spell, and 0 where there are none.
unfoldable pub moment_in : ℕ → List ℕ → ℕ
moment_in ahead part = spelled_from 0 (drop length_end (take ahead part))

-- the size of the record at the front, if a whole one is there, given the length of its head
unfoldable pub record_size : ℕ → List ℕ → Option ℕ
record_size ahead bytes = if nat_lt (length bytes) ahead then None else (if nat_le (ahead + body_length bytes) (length bytes) then Some (ahead + body_length bytes) else None)

-- the length of a record's head in this log
abbrev pub ahead_in : List ℕ → ℕ
ahead_in bytes = head_length (header_by bytes).version

-- the whole records of a log, and the bytes so far of one that isn't whole
unfoldable pub records : List ℕ → Pieces
records bytes = pieces (record_size (ahead_in bytes)) (drop 8 bytes)

-- the unfinished record, if any of it is there, in front of the whole ones
abbrev pub begun_with : List ℕ → List (List ℕ) → List (List ℕ)
begun_with [] whole = whole
begun_with (byte ∷ rest) whole = (byte ∷ rest) ∷ whole

-- the records begun, the newest first
unfoldable pub begun_records : List ℕ → List (List ℕ)
begun_records bytes = begun_with (records bytes).rest (reverse (records bytes).whole)

-- the direction whose bytes a record of this kind carries
abbrev pub direction_of : Option RecordKind → Option Direction
direction_of (Some kinds.Sent) = Some directions.Sent
direction_of (Some kinds.Recv) = Some directions.Recv
direction_of _ = None

-- a connection begins with a record of this kind
abbrev pub opens : Option RecordKind → Bool
opens (Some kinds.Open) = true
opens _ = false

-- the bytes, if they go this way
abbrev pub if_direction : Direction → Option Direction → List ℕ → List ℕ
if_direction directions.Sent (Some directions.Sent) bytes = bytes
if_direction directions.Recv (Some directions.Recv) bytes = bytes
if_direction _ _ bytes = []

-- what one direction carried on the connection so far, given the length of a record's head, and the records begun, the newest first
unfoldable pub carried : ℕ → Direction → List (List ℕ) → List ℕ
carried ahead direction [] = []
carried ahead direction (part ∷ before) = cond (opens (kind_of part)) [] (carried ahead direction before ++ if_direction direction (direction_of (kind_of part)) (drop ahead part))

-- one direction's stream of packets: whole frames, and the bytes so far of one that isn't whole
unfoldable pub stream : List ℕ → Pieces
stream bytes = pieces frame_size bytes
