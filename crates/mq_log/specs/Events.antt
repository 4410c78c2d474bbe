-- The events of a log: each is completed by one byte of the log, and belongs to the record of that byte.
-- The laws `events_are_what_streams_hold` and `closes_say_what_was_unfinished` (src/joined_laws.rt) say the same by the stream of each direction, cut into frames.
use Rattle.std.specs.Prelude.{ℕ, ◌+◌, ◌==◌, nat_lt, cond, if◌then◌else◌, List, [], ◌∷◌, ◌++◌, length, drop, reverse, slice_index, Option, Some, None, option_map, is_some, Result, Ok, Err}
use Rattle.std.specs.Int.{w16, from_be_bytes}
use Rattle.mq_packet.specs.declared.rule.PacketRule.{PacketRule}
use Rattle.mq_packet.specs.declared.fault.DecodeFault.{DecodeFault}
use Rattle.mq_packet.specs.declared.fault.DecodeFault.TheVariants.{Broken, OtherVersion}
use Rattle.mq_log.specs.declared.kind.RecordKind.{RecordKind}
use Rattle.mq_log.specs.declared.kind.RecordKind.TheVariants as kinds
use Rattle.mq_log.specs.declared.kind.Direction.{Direction}
use Rattle.mq_log.specs.declared.kind.Direction.TheVariants as directions
use Rattle.mq_log.specs.declared.place.Place3.{Place3}
use Rattle.mq_packet.specs.declared.header.FixedHeader.{FixedHeader}
use Rattle.mq_packet.specs.declared.header.FixedHeader.TheVariants as headers
use Rattle.mq_packet.specs.Stream.{fixed_header_of, frame_size, is_lost}
use Rattle.mq_log.specs.Framing.{kind_of, direction_of, ahead_in, moment_in, begun_records, carried, stream}
use Rattle.mq_packet.specs.Entries.{Entry}
use Rattle.mq_packet.specs.Decoding.{decoded}

-- An item of one direction's stream of packets: a packet, with its size in bytes; the bytes of a packet that breaks a rule, from its first byte to its last, the rule,
-- and the offset at which they break it; or the point from which the stream can't be parsed.
pub data Item : Type 0 where
  packet : ℕ → Entry → Item
  bad : List ℕ → PacketRule → ℕ → Item
  lost : Item

-- The bytes so far of the packet that the tested end has begun to send on a connection, and hasn't sent whole, and of the one that it has begun to receive
-- (MQTT 5.0, section 2.1). A direction that has whole packets only, or is lost, has none.
pub record UnfinishedPackets : Type 0 where
  pub sent : List ℕ
  pub received : List ℕ

-- An event of a log. The end of a connection has the bytes of the packets that it leaves unfinished.
pub data Event : Type 0 where
  opened rested : Event
  closed : UnfinishedPackets → Event
  released : ℕ → Event
  sent received : Item → Event

-- an event with its place
pub record Placed : Type 0 where
  pub place : Place3
  pub event : Event

-- What a whole frame is, by what it says: a packet, or bytes that break a rule. A CONNECT of another protocol version is neither.
abbrev pub item_read : List ℕ → Result Entry DecodeFault → Option Item
item_read frame (Ok entry) = Some (packet (length frame) entry)
item_read frame (Err (Broken fault)) = Some (bad frame fault.rule fault.at)
item_read frame (Err (OtherVersion version)) = None

-- what follows a packet's fixed header
abbrev pub after_fixed_header : FixedHeader → List ℕ → List ℕ
after_fixed_header (headers.Whole header size) frame = drop header frame
after_fixed_header headers.Short frame = []
after_fixed_header headers.Lost frame = []

-- what a frame says
unfoldable pub read_frame : List ℕ → Result Entry DecodeFault
read_frame frame = decoded (slice_index frame 0) (after_fixed_header (fixed_header_of frame) frame)

-- The item that the last of these bytes completes, if they are the bytes so far of one packet: the packet is whole, or its
-- Remaining Length is invalid.
unfoldable pub item_at : List ℕ → Option Item
item_at so_far = cond (is_lost so_far) (Some lost) (cond (is_some (frame_size so_far)) (item_read so_far (read_frame so_far)) None)

-- The bytes so far of the packet that a direction's next byte belongs to, that byte included; none if the direction was lost before it.
abbrev pub packet_with : List ℕ → ℕ → List ℕ
packet_with before byte = cond (is_lost (stream before).rest) [] ((stream before).rest ++ byte ∷ [])

-- The bytes so far of the packet that the next byte of a record's body belongs to, if the record carries bytes in a direction; none if it doesn't.
abbrev pub packet_by : ℕ → Option Direction → List (List ℕ) → ℕ → List ℕ
packet_by ahead None parts byte = []
packet_by ahead (Some direction) parts byte = packet_with (carried ahead direction parts) byte

-- the newest record, as far as it has come
abbrev pub newest_record : List (List ℕ) → List ℕ
newest_record [] = []
newest_record (part ∷ before) = part

-- the bytes so far of the record that the next byte of a log belongs to, that byte included
unfoldable pub part_at : List ℕ → ℕ → List ℕ
part_at before byte = newest_record (begun_records (before ++ byte ∷ []))

-- the bytes so far of the packet that the next byte of a log belongs to, that byte included; none if it belongs to no packet, or the direction was lost before it
unfoldable pub packet_at : List ℕ → ℕ → List ℕ
packet_at before byte = cond (nat_lt (ahead_in before) (length (part_at before byte))) (packet_by (ahead_in before) (direction_of (kind_of (part_at before byte))) (begun_records before) byte) []

-- the moment of the record that the next byte of a log belongs to
unfoldable pub moment_at : List ℕ → ℕ → ℕ
moment_at before byte = moment_in (ahead_in before) (part_at before byte)

-- The bytes so far of the packet that a direction has begun and not ended, given all that it carried: what is left of its stream after the whole frames; none if it is lost.
abbrev pub unfinished_in : List ℕ → List ℕ
unfinished_in bytes = cond (is_lost (stream bytes).rest) [] (stream bytes).rest

-- what a log leaves unfinished on its latest connection
unfoldable pub unfinished_at : List ℕ → UnfinishedPackets
unfinished_at before = record {
  sent = unfinished_in (carried (ahead_in before) directions.Sent (begun_records before));
  received = unfinished_in (carried (ahead_in before) directions.Recv (begun_records before));
}

-- The event that the last byte of a part of a record completes, given what is unfinished on the connection, the length of a record's
-- head, and the record's packet so far: OPEN, CLOSE and REST have no body, that of RELEASE is a Packet Identifier, and SENT and RECV
-- give what their packets are.
abbrev pub event_by : UnfinishedPackets → ℕ → Option RecordKind → List ℕ → List ℕ → Option Event
event_by unfinished ahead (Some kinds.Open) part so_far = if length part == ahead then Some opened else None
event_by unfinished ahead (Some kinds.Close) part so_far = if length part == ahead then Some (closed unfinished) else None
event_by unfinished ahead (Some kinds.Rest) part so_far = if length part == ahead then Some rested else None
event_by unfinished ahead (Some kinds.Release) part so_far = if length part == ahead + 2 then Some (released (from_be_bytes w16 (drop ahead part))) else None
event_by unfinished ahead (Some kinds.Sent) part so_far = option_map sent (item_at so_far)
event_by unfinished ahead (Some kinds.Recv) part so_far = option_map received (item_at so_far)
event_by unfinished ahead None part so_far = None

-- the event that the head of a record completes, given the same: that of a kind that has no body
abbrev pub event_of_head : UnfinishedPackets → RecordKind → Option Event
event_of_head unfinished kinds.Open = Some opened
event_of_head unfinished kinds.Close = Some (closed unfinished)
event_of_head unfinished kinds.Rest = Some rested
event_of_head unfinished kinds.Release = None
event_of_head unfinished kinds.Sent = None
event_of_head unfinished kinds.Recv = None

unfoldable pub event_in : UnfinishedPackets → ℕ → List ℕ → List ℕ → Option Event
event_in unfinished ahead part so_far = event_by unfinished ahead (kind_of part) part so_far

-- the event that the next byte of a log completes
unfoldable pub event_at : List ℕ → ℕ → Option Event
event_at before byte = if nat_lt (length before) 8 then None else event_in (unfinished_at before) (ahead_in before) (part_at before byte) (packet_at before byte)

-- an event at its place, in front of the earlier ones
abbrev pub with_event : ℕ → ℕ → Option Event → List Placed → List Placed
with_event record_no moment None earlier = earlier
with_event record_no moment (Some event) earlier = record { place = record { position = length earlier + 1; record_no = record_no; moment = moment }; event = event } ∷ earlier

-- the events of a log whose bytes are given the newest first
unfoldable pub events_back : List ℕ → List Placed
events_back [] = []
events_back (byte ∷ earlier) = with_event (length (begun_records (reverse earlier ++ byte ∷ []))) (moment_at (reverse earlier) byte) (event_at (reverse earlier) byte) (events_back earlier)

-- The events of a log, the newest first.
unfoldable pub events : List ℕ → List Placed
events bytes = events_back (reverse bytes)
