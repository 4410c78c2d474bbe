-- What a reader of the log keeps from one byte to the next, as a function of all bytes so far. It looks at nothing else of them.
use Rattle.std.specs.Prelude.{ℕ, ◌+◌, ◌-◌, ◌==◌, nat_lt, Bool, true, false, ◌&&◌, ◌||◌, not, cond, if◌then◌else◌, List, [], ◌∷◌, ◌++◌, length, Option, Some, None, is_some}
use Rattle.mq_log.specs.declared.kind.Direction.{Direction}
use Rattle.mq_log.specs.declared.kind.Direction.TheVariants as directions
use Rattle.mq_log.specs.declared.refusal.Refusal.{Refusal}
use Rattle.mq_log.specs.declared.header.Header.{Header}
use Rattle.mq_log.specs.Connections.{begins_connection, ends_connection, is_answer, has_open_connection, is_connack_seen, events_before_open}
use Rattle.mq_packet.specs.Stream.{frame_size, is_lost}
use Rattle.mq_log.specs.Framing.{header_by, kind_of, direction_of, opens, record_size, records, ahead_in, head_length, moment_in, begun_records, carried, stream}
use Rattle.mq_log.specs.Events.{UnfinishedPackets, Event, Placed, event_in, events}
use Rattle.mq_log.specs.Refusals.{Situation, header_refusal, record_refusal}

-- one direction: the bytes of its unfinished packet, none if it is lost
pub record StreamState : Type 0 where
  pub unfinished : List ℕ
  pub lost : Bool

pub record Context : Type 0 where
  -- how many bytes came
  pub at : ℕ
  pub header : Header
  -- the bytes of the unfinished record, and how many whole ones come before it
  pub part : List ℕ
  pub records : ℕ
  pub sent : StreamState
  pub recv : StreamState
  -- of the events: how many, whether a connection is open, whether the latest one's CONNACK came, and how many events came before its OPEN
  pub events : ℕ
  pub connected : Bool
  pub connack_seen : Bool
  pub before_open : ℕ

-- what is kept of a direction that carried nothing
abbrev pub emptied : StreamState
emptied = record { unfinished = []; lost = false }

-- the length of a record's head, from what is kept
abbrev pub ahead_of : Context → ℕ
ahead_of c = head_length c.header.version

-- what is kept before the first byte
abbrev pub fresh : Context
fresh = record {
  at = 0;
  header = record { version = 0; server = false; releases = false };
  part = [];
  records = 0;
  sent = record { unfinished = []; lost = false };
  recv = record { unfinished = []; lost = false };
  events = 0;
  connected = false;
  connack_seen = false;
  before_open = 0;
}

-- what is kept of a direction that carried these bytes
abbrev pub state_with : List ℕ → StreamState
state_with rest = record { unfinished = cond (is_lost rest) [] rest; lost = is_lost rest }

unfoldable pub state_of : List ℕ → StreamState
state_of bytes = state_with (stream bytes).rest

-- what is kept of a log
unfoldable pub context : List ℕ → Context
context log = record {
  at = length log;
  header = header_by log;
  part = (records log).rest;
  records = length (records log).whole;
  sent = state_of (carried (ahead_in log) directions.Sent (begun_records log));
  recv = state_of (carried (ahead_in log) directions.Recv (begun_records log));
  events = length (events log);
  connected = has_open_connection (events log);
  connack_seen = is_connack_seen (header_by log).server (events log);
  before_open = events_before_open (events log);
}

-- The bytes so far of the next byte's packet, that byte included, from what is kept.
abbrev pub state_for : Context → Direction → StreamState
state_for c directions.Sent = c.sent
state_for c directions.Recv = c.recv

abbrev pub so_far_in : StreamState → ℕ → List ℕ
so_far_in state byte = cond state.lost [] (state.unfinished ++ byte ∷ [])

abbrev pub so_far_by : Option Direction → Context → ℕ → List ℕ
so_far_by None c byte = []
so_far_by (Some direction) c byte = so_far_in (state_for c direction) byte

unfoldable pub so_far_for : Context → ℕ → List ℕ
so_far_for c byte = cond (nat_lt (ahead_of c) (length (c.part ++ byte ∷ []))) (so_far_by (direction_of (kind_of (c.part ++ byte ∷ []))) c byte) []

-- what is unfinished on the connection, from what is kept
abbrev pub unfinished_of : Context → UnfinishedPackets
unfinished_of c = record { sent = c.sent.unfinished; received = c.recv.unfinished }

-- the situation of the next byte, from what is kept
unfoldable pub situated : Context → ℕ → Situation
situated c byte = record {
  at = c.at;
  header = c.header;
  part = c.part ++ byte ∷ [];
  record_no = c.records + 1;
  so_far = so_far_for c byte;
  unfinished = unfinished_of c;
  events = c.events;
  connected = c.connected;
  connack_seen = c.connack_seen;
  on_connection = c.events - c.before_open;
}

-- the refusal that applies first at the next byte
unfoldable pub refusal_for : ℕ → Context → ℕ → Option Refusal
refusal_for limit c byte = if nat_lt c.at 8 then header_refusal c.at byte else record_refusal limit (situated c byte)

-- the event that the next byte completes
unfoldable pub event_for : Context → ℕ → Option Event
event_for c byte = if nat_lt c.at 8 then None else event_in (unfinished_of c) (ahead_of c) (c.part ++ byte ∷ []) (so_far_for c byte)

-- that event, at its place, in a record of this moment
abbrev pub placed_with : Context → ℕ → Option Event → Option Placed
placed_with c moment None = None
placed_with c moment (Some event) = Some (record { place = record { position = c.events + 1; record_no = c.records + 1; moment = moment }; event = event })

unfoldable pub placed_for : Context → ℕ → Option Placed
placed_for c byte = placed_with c (moment_in (ahead_of c) (c.part ++ byte ∷ [])) (event_for c byte)

-- an event in front of the others, if there is one
abbrev pub put : Option Placed → List Placed → List Placed
put None log = log
put (Some e) log = e ∷ log

-- a direction after one more byte of its own
unfoldable pub state_after : StreamState → ℕ → StreamState
state_after state byte = cond state.lost state (cond (is_lost (state.unfinished ++ byte ∷ [])) (record { unfinished = []; lost = true })
    (cond (is_some (frame_size (state.unfinished ++ byte ∷ []))) (record { unfinished = []; lost = false }) (record { unfinished = state.unfinished ++ byte ∷ []; lost = false })))

-- a direction after one byte that goes this way
abbrev pub state_by : Direction → Option Direction → StreamState → ℕ → StreamState
state_by directions.Sent (Some directions.Sent) state byte = state_after state byte
state_by directions.Recv (Some directions.Recv) state byte = state_after state byte
state_by _ _ state byte = state

-- A direction after one more byte of a record, whose head has this length: the first byte of an OPEN empties it, and a body byte of this direction is added.
unfoldable pub state_then : ℕ → Direction → StreamState → List ℕ → ℕ → StreamState
state_then ahead direction state part byte = cond (opens (kind_of part)) (record { unfinished = []; lost = false })
    (cond (nat_lt ahead (length part)) (state_by direction (direction_of (kind_of part)) state byte) state)

-- what is kept after one more event, if there is one
abbrev pub with_completed : Context → Option Event → Context
with_completed c None = c
with_completed c (Some event) = record c {
  events = c.events + 1;
  connected = begins_connection event || (not (ends_connection event) && c.connected);
  connack_seen = is_answer c.header.server event || (not (begins_connection event) && c.connack_seen);
  before_open = if begins_connection event then c.events else c.before_open;
}

-- after one more byte of the header
abbrev pub after_header : Context → ℕ → Context
after_header c byte = record c {
  at = c.at + 1;
  header = record {
    version = if c.at == 4 then byte else c.header.version;
    server = if c.at == 5 then byte == 1 else c.header.server;
    releases = if c.at == 6 then byte == 1 else c.header.releases;
  };
}

-- after one more byte of a record, whose bytes so far are these
abbrev pub after_part : Context → List ℕ → ℕ → Context
after_part c part byte = record c {
  at = c.at + 1;
  part = cond (is_some (record_size (ahead_of c) part)) [] part;
  records = cond (is_some (record_size (ahead_of c) part)) (c.records + 1) c.records;
  sent = state_then (ahead_of c) directions.Sent c.sent part byte;
  recv = state_then (ahead_of c) directions.Recv c.recv part byte;
}

-- what is kept after the next byte
unfoldable pub after : Context → ℕ → Context
after c byte = if nat_lt c.at 8 then after_header c byte else with_completed (after_part c (c.part ++ byte ∷ []) byte) (event_for c byte)
