-- Which logs are refused: the earliest byte at which a condition applies decides, and at one byte the lowest number.
use Rattle.std.specs.Prelude.{ℕ, ◌+◌, ◌==◌, nat_lt, nat_le, Bool, true, false, ◌&&◌, ◌||◌, not, cond, if◌then◌else◌, List, [], ◌∷◌, ◌++◌, length, reverse, slice_index, Option, Some, None, is_some, is_none, Result, Ok, Err}
use Rattle.std.specs.Option.{option_or}
use Rattle.mq_packet.specs.declared.header.FixedHeader.{FixedHeader}
use Rattle.mq_packet.specs.declared.header.FixedHeader.TheVariants as headers
use Rattle.mq_packet.specs.declared.fault.DecodeFault.{DecodeFault}
use Rattle.mq_packet.specs.declared.fault.DecodeFault.TheVariants.{Broken, OtherVersion}
use Rattle.mq_log.specs.declared.kind.RecordKind.{RecordKind}
use Rattle.mq_log.specs.declared.kind.RecordKind.TheVariants as kinds
use Rattle.mq_log.specs.declared.refusal.Refusal.{Refusal}
use Rattle.mq_log.specs.declared.refusal.Refusal.TheVariants as refusals
use Rattle.mq_log.specs.declared.header.Header.{Header}
use Rattle.mq_log.specs.Connections.{has_open_connection, is_connack_seen, events_on_connection, is_too_early}
use Rattle.mq_packet.specs.Stream.{fixed_header_of, frame_size}
use Rattle.mq_log.specs.Framing.{header_by, kind_of, body_length, records, begun_records, magic, is_version, length_end, head_length, longest_body}
use Rattle.mq_log.specs.Events.{UnfinishedPackets, Event, event_in, read_frame, part_at, packet_at, unfinished_at, events}

-- the refusal of a byte of the header at this offset, if it is invalid: bytes 0 to 3 are `MQTR`, byte 4 is the version, 1 or 2, byte 5 the role, 0 or 1,
-- byte 6 flags, of which only bit 0 is used, and byte 7 is 0
unfoldable pub header_refusal : ℕ → ℕ → Option Refusal
header_refusal at byte =
    if nat_lt at 4 then (if byte == slice_index magic at then None else Some (refusals.Header at))
    else (if at == 4 then (if is_version byte then None else Some (refusals.Version at))
    else (if at == 5 then (if nat_lt byte 2 then None else Some (refusals.Role at))
    else (if at == 6 then (if nat_lt byte 2 then None else Some (refusals.Flags at))
    else (if byte == 0 then None else Some (refusals.Flags at)))))

-- A byte after the header: where it is in its log, and what came before it.
pub record Situation : Type 0 where
  -- the byte's offset in the log
  pub at : ℕ
  -- what the log's header says
  pub header : Header
  -- the bytes so far of the byte's record, the byte included
  pub part : List ℕ
  -- the number of that record
  pub record_no : ℕ
  -- the bytes so far of the byte's packet, the byte included; none if it belongs to no packet, or its direction is lost
  pub so_far : List ℕ
  -- what is unfinished on the connection
  pub unfinished : UnfinishedPackets
  -- the events before it: how many, whether a connection is open, whether the latest one's CONNACK came, and how many events that one has
  pub events : ℕ
  pub connected : Bool
  pub connack_seen : Bool
  pub on_connection : ℕ

-- the situation of the next byte of a log
unfoldable pub situation : List ℕ → ℕ → Situation
situation before byte = record {
  at = length before;
  header = header_by before;
  part = part_at before byte;
  record_no = length (begun_records (before ++ byte ∷ []));
  so_far = packet_at before byte;
  unfinished = unfinished_at before;
  events = length (events before);
  connected = has_open_connection (events before);
  connack_seen = is_connack_seen (header_by before).server (events before);
  on_connection = events_on_connection (events before);
}

-- the byte is its record's first, or the last of its length
abbrev pub is_first : Situation → Bool
is_first s = length s.part == 1

abbrev pub ends_length : Situation → Bool
ends_length s = length s.part == length_end

-- a length that a record of this kind may have in this version
abbrev pub allows_length : ℕ → Option RecordKind → ℕ → Bool
allows_length version None n = true
allows_length version (Some kinds.Sent) n = nat_le n (longest_body version)
allows_length version (Some kinds.Recv) n = nat_le n (longest_body version)
allows_length version (Some kinds.Release) n = n == 2
allows_length version (Some kinds.Open) n = n == 0
allows_length version (Some kinds.Close) n = n == 0
allows_length version (Some kinds.Rest) n = n == 0

-- a record of this kind is allowed only on an open connection
abbrev pub needs_connection : Option RecordKind → Bool
needs_connection (Some kinds.Sent) = true
needs_connection (Some kinds.Recv) = true
needs_connection (Some kinds.Close) = true
needs_connection (Some kinds.Rest) = true
needs_connection _ = false

abbrev pub is_open_kind : Option RecordKind → Bool
is_open_kind (Some kinds.Open) = true
is_open_kind _ = false

abbrev pub is_release_kind : Option RecordKind → Bool
is_release_kind (Some kinds.Release) = true
is_release_kind _ = false

-- the fixed header ends here, and the packet is larger than the limit
abbrev pub is_too_large : ℕ → List ℕ → FixedHeader → Bool
is_too_large limit so_far (headers.Whole header size) = header == length so_far && nat_lt limit size
is_too_large limit so_far headers.Short = false
is_too_large limit so_far headers.Lost = false

-- reading a frame found a CONNECT of another protocol version
abbrev pub is_other_version : {A : Type 0} → Result A DecodeFault → Bool
is_other_version (Err (OtherVersion _)) = true
is_other_version (Err (Broken fault)) = false
is_other_version (Ok entry) = false

-- the packet is whole with this byte
abbrev pub ends_packet : Situation → Bool
ends_packet s = is_some (frame_size s.so_far)

-- The event is one too many on a connection whose CONNACK hasn't come (`is_too_early`). Between connections nothing is too early.
abbrev pub comes_too_early : Situation → Option Event → Bool
comes_too_early s event = is_too_early s.header.server s.connected s.connack_seen s.on_connection event

-- the refusal of the first line whose condition applies
abbrev pub first_that_applies : List (Bool × Refusal) → Option Refusal
first_that_applies [] = None
first_that_applies (line ∷ lines) = cond line.0 (Some line.1) (first_that_applies lines)

-- the refusal that applies at the first byte of a record of this kind, given whether the log has releases, whether a connection is open, and how many records came before it
abbrev pub first_byte_refusal : ℕ → (releases connected : Bool) → ℕ → RecordKind → Option Refusal
first_byte_refusal at releases connected records kind = first_that_applies (
    (is_open_kind (Some kind) && connected, refusals.Nested at)
    ∷ (needs_connection (Some kind) && not connected, refusals.NotOpen at)
    ∷ (is_release_kind (Some kind) && not releases, refusals.ReleaseUnrecorded at)
    ∷ (nat_lt 4294967295 (records + 1), refusals.TooLong at)
    ∷ [])

-- The conditions of the refusals of a byte after the header, in the order of their numbers.
abbrev pub conditions : ℕ → Situation → List (Bool × Refusal)
conditions limit s =
    (is_first s && is_none (kind_of s.part), refusals.Kind s.at)
    ∷ (ends_length s && not (allows_length s.header.version (kind_of s.part) (body_length s.part)), refusals.Length s.at)
    ∷ (is_first s && (is_open_kind (kind_of s.part) && s.connected), refusals.Nested s.at)
    ∷ (is_first s && (needs_connection (kind_of s.part) && not s.connected), refusals.NotOpen s.at)
    ∷ (is_first s && (is_release_kind (kind_of s.part) && not s.header.releases), refusals.ReleaseUnrecorded s.at)
    ∷ (is_too_large limit s.so_far (fixed_header_of s.so_far), refusals.TooLarge s.at)
    ∷ (ends_packet s && is_other_version (read_frame s.so_far), refusals.OtherVersion s.at)
    ∷ (comes_too_early s (event_in s.unfinished (head_length s.header.version) s.part s.so_far), refusals.TooManyEarly s.at)
    ∷ ((is_first s && nat_lt 4294967295 s.record_no) || (is_some (event_in s.unfinished (head_length s.header.version) s.part s.so_far) && nat_le 4294967295 s.events), refusals.TooLong s.at)
    ∷ []

unfoldable pub record_refusal : ℕ → Situation → Option Refusal
record_refusal limit s = first_that_applies (conditions limit s)

-- the refusal that applies first at the next byte of a log
unfoldable pub refusal_at : ℕ → List ℕ → ℕ → Option Refusal
refusal_at limit before byte = if nat_lt (length before) 8 then header_refusal (length before) byte else record_refusal limit (situation before byte)

-- the refusal of a log whose bytes are given the newest first
unfoldable pub refused_back : ℕ → List ℕ → Option Refusal
refused_back limit [] = None
refused_back limit (byte ∷ earlier) = option_or (refused_back limit earlier) (refusal_at limit (reverse earlier) byte)

-- The refusal of a log, if a condition applies at one of its bytes.
unfoldable pub refused : ℕ → List ℕ → Option Refusal
refused limit bytes = refused_back limit (reverse bytes)

-- The log ends inside its header or a record.
unfoldable pub is_cut_short : List ℕ → Bool
is_cut_short bytes = nat_lt (length bytes) 8 || nat_lt 0 (length (records bytes).rest)
