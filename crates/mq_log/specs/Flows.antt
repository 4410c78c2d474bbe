-- One direction while the body of a SENT or RECV record is read: what each byte of the body does.
use Rattle.std.specs.Prelude.{ℕ, ◌+◌, ◌-◌, nat_le, Bool, ◌&&◌, ◌||◌, cond, List, [], ◌∷◌, ◌++◌, Option, Some, None, option_map, is_some}
use Rattle.std.specs.Option.{option_or}
use Rattle.mq_log.specs.declared.kind.Direction.{Direction}
use Rattle.mq_log.specs.declared.kind.Direction.TheVariants as directions
use Rattle.mq_log.specs.declared.place.InRecord.{InRecord}
use Rattle.mq_log.specs.declared.refusal.Refusal.{Refusal}
use Rattle.mq_log.specs.declared.refusal.Refusal.TheVariants as refusals
use Rattle.mq_packet.specs.Stream.{fixed_header_of, frame_size}
use Rattle.mq_log.specs.Framing.{moment_in}
use Rattle.mq_log.specs.Events.{Item, Event, Placed, sent, received, read_frame, item_at}
use Rattle.mq_log.specs.Connections.{is_answer, is_too_early}
use Rattle.mq_log.specs.Refusals.{first_that_applies, is_too_large, is_other_version}
use Rattle.mq_log.specs.Context.{StreamState, Context, ahead_of, state_for, so_far_in, state_after, put}

-- what stays the same within a body: the direction, whether the tested end is a server, and the record
pub record BodyContext : Type 0 where
  pub direction : Direction
  pub server : Bool
  pub in_record : InRecord

-- what else is kept: how many bytes of the log came, the direction's state, how many events there are, whether a connection is open, whether its CONNACK came, and how many events came before its OPEN
pub record Flow : Type 0 where
  pub at : ℕ
  pub state : StreamState
  pub events : ℕ
  pub connected : Bool
  pub connack_seen : Bool
  pub before_open : ℕ

-- the event of an item in this direction
abbrev pub item_event : Direction → Item → Event
item_event directions.Sent item = sent item
item_event directions.Recv item = received item

-- the event that the next byte completes
unfoldable pub flow_event : BodyContext → Flow → ℕ → Option Event
flow_event context f byte = option_map (item_event context.direction) (item_at (so_far_in f.state byte))

-- the event comes on a connection that has as many events as it may have without its CONNACK
abbrev pub flows_too_early : BodyContext → Flow → Option Event → Bool
flows_too_early context f event = is_too_early context.server f.connected f.connack_seen (f.events - f.before_open) event

-- the refusal that applies first at the next byte
unfoldable pub flow_refusal : ℕ → BodyContext → Flow → ℕ → Option Refusal
flow_refusal limit context f byte = first_that_applies (
    (is_too_large limit (so_far_in f.state byte) (fixed_header_of (so_far_in f.state byte)), refusals.TooLarge f.at)
    ∷ (is_some (frame_size (so_far_in f.state byte)) && is_other_version (read_frame (so_far_in f.state byte)), refusals.OtherVersion f.at)
    ∷ (flows_too_early context f (flow_event context f byte), refusals.TooManyEarly f.at)
    ∷ (is_some (flow_event context f byte) && nat_le 4294967295 f.events, refusals.TooLong f.at)
    ∷ [])

-- that event at its place
abbrev pub flow_placed_with : BodyContext → Flow → Option Event → Option Placed
flow_placed_with context f None = None
flow_placed_with context f (Some event) = Some (record { place = record { position = f.events + 1; record_no = context.in_record.record_no; moment = context.in_record.moment }; event = event })

unfoldable pub flow_placed : BodyContext → Flow → ℕ → Option Placed
flow_placed context f byte = flow_placed_with context f (flow_event context f byte)

-- a flow after an event, if there is one
abbrev pub flow_with : BodyContext → Flow → Option Event → Flow
flow_with context f None = f
flow_with context f (Some event) = record f { events = f.events + 1; connack_seen = is_answer context.server event || f.connack_seen }

-- what is kept after the next byte
unfoldable pub flow_after : BodyContext → Flow → ℕ → Flow
flow_after context f byte = flow_with context (record f { at = f.at + 1; state = state_after f.state byte }) (flow_event context f byte)

-- what is kept after these bytes, the refusal that applies first at one of them, and the events that they complete, the newest first
abbrev pub flow_after_bytes : BodyContext → Flow → List ℕ → Flow
flow_after_bytes context f [] = f
flow_after_bytes context f (byte ∷ bytes) = flow_after_bytes context (flow_after context f byte) bytes

abbrev pub flow_refused : ℕ → BodyContext → Flow → List ℕ → Option Refusal
flow_refused limit context f [] = None
flow_refused limit context f (byte ∷ bytes) = option_or (flow_refusal limit context f byte) (flow_refused limit context (flow_after context f byte) bytes)

abbrev pub flow_events : BodyContext → Flow → List ℕ → List Placed
flow_events context f [] = []
flow_events context f (byte ∷ bytes) = flow_events context (flow_after context f byte) bytes ++ put (flow_placed context f byte) []

-- the direction that a body carries, from what is kept of the log
abbrev pub context_in : Context → Direction → BodyContext
context_in c direction = record { direction = direction; server = c.header.server; in_record = record { record_no = c.records + 1; moment = moment_in (ahead_of c) c.part } }

abbrev pub flow_in : Context → Direction → Flow
flow_in c direction = record { at = c.at; state = state_for c direction; events = c.events; connected = c.connected; connack_seen = c.connack_seen; before_open = c.before_open }

-- a direction after bytes of this one: what the flow keeps of it, or what was kept before if it is the other one
abbrev pub state_after_body : Direction → Direction → StreamState → StreamState → StreamState
state_after_body directions.Sent directions.Sent new old = new
state_after_body directions.Recv directions.Recv new old = new
state_after_body _ _ new old = old

-- what is kept of the log after bytes of a body, from what the flow keeps after them; the flag says whether the record is then whole
abbrev pub flowed : Context → Direction → Bool → Flow → List ℕ → Context
flowed c direction whole f bytes = record c {
  at = f.at;
  part = cond whole [] (c.part ++ bytes);
  records = cond whole (c.records + 1) c.records;
  sent = state_after_body directions.Sent direction f.state c.sent;
  recv = state_after_body directions.Recv direction f.state c.recv;
  events = f.events;
  connack_seen = f.connack_seen;
}
