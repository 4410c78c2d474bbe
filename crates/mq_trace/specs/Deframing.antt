-- One direction in memory: what a step takes in, and what stops it.
use Rattle.std.specs.Prelude.{◌≡◌, ℕ, ◌+◌, ◌<◌, ◌⊎◌, nat_le, Bool, false, ◌&&◌, List, [], ◌∷◌, ◌++◌, length, Option, Some, None, option_map, is_some}
use Rattle.mq_packet.specs.Stream.{frame_size, is_lost}
use Rattle.mq_log.specs.declared.kind.Direction.{Direction}
use Rattle.mq_log.specs.declared.refusal.Refusal.{Refusal}
use Rattle.mq_log.specs.declared.refusal.Refusal.TheVariants as refusals
use Rattle.mq_trace.specs.declared.connections.Connections.{Connections}
use Rattle.mq_trace.specs.declared.deframer.BodyContext.{BodyContext as ContextInMemory}
use Rattle.mq_log.specs.Events.{Event, Placed, item_read, read_frame}
use Rattle.mq_log.specs.Refusals.{first_that_applies, is_other_version}
use Rattle.mq_log.specs.Context.{StreamState, emptied, so_far_in}
use Rattle.mq_log.specs.Reception.{AreEvents}
use Rattle.mq_log.specs.Flows.{BodyContext, Flow, item_event, flow_placed_with, flows_too_early, flow_refused, flow_after_bytes, flow_events}
use Rattle.mq_trace.specs.Emission.{connections_with, RefusedBySink}

abbrev pub body_context : ContextInMemory → BodyContext
body_context context = record { direction = context.direction; server = context.server; in_record = context.in_record }

abbrev pub flow_of : ℕ → StreamState → Connections → Flow
flow_of at state c = record { at = at; state = state; events = c.events; connected = c.connected; connack_seen = c.connack_seen; before_open = c.before_open }

-- the event of a whole packet
abbrev pub frame_event : Direction → List ℕ → Option Event
frame_event direction frame = option_map (item_event direction) (item_read frame (read_frame frame))

-- the refusal that applies at the last byte of a whole packet
abbrev pub frame_refusal : ℕ → BodyContext → Flow → List ℕ → Option Refusal
frame_refusal at context f frame = first_that_applies (
    (is_other_version (read_frame frame), refusals.OtherVersion at)
    ∷ (flows_too_early context f (frame_event context.direction frame), refusals.TooManyEarly at)
    ∷ (is_some (frame_event context.direction frame) && nat_le 4294967295 f.events, refusals.TooLong at)
    ∷ [])

-- that refusal, and that event at its place, where nothing is unfinished before the packet
abbrev pub refusal_at_frame : ℕ → ContextInMemory → Connections → List ℕ → Option Refusal
refusal_at_frame at context c frame = frame_refusal at (body_context context) (flow_of at emptied c) frame

abbrev pub placed_frame : ℕ → ContextInMemory → Connections → List ℕ → Option Placed
placed_frame at context c frame = flow_placed_with (body_context context) (flow_of at emptied c) (frame_event context.direction frame)

-- what is kept of the events after one more, if there is one
abbrev pub connections_then : Bool → Connections → Option Event → Connections
connections_then server c None = c
connections_then server c (Some event) = connections_with server c event

-- A byte may need memory, given the bytes so far of its packet, the byte included: it belongs to one, of which more is to come.
pub record NeedsMemory (so_far : List ℕ) : Type 0 where
  pub packet : 0 < length so_far
  pub unended : frame_size so_far ≡ None
  pub unlost : is_lost so_far ≡ false

-- Why a byte isn't taken in, given the bytes so far of its packet, the refusal that applies at it and what it completes: it is refused, or none applies and there
-- was no memory, and the sink received nothing; or none applies, and the sink refused what it completes.
abbrev pub FlowWhy : {S : Type 0} → (S → S → List Placed → Refusal → Type 0) → ℕ → List ℕ → Option Refusal → List Placed → S → S → Refusal → Type 0
FlowWhy declines at so_far met completed old new refusal =
    ((met ≡ Some refusal) × (new ≡ old))
    ⊎ ((refusal ≡ refusals.Memory at) × (new ≡ old) × (met ≡ None) × NeedsMemory so_far)
    ⊎ ((met ≡ None) × (length completed ≡ 1) × RefusedBySink declines at completed old new refusal)

-- Bytes of a direction aren't all taken in: one of them isn't, and none before it is refused or completes anything.
pub record FlowStops {S : Type 0} (declines : S → S → List Placed → Refusal → Type 0) (limit : ℕ) (context : BodyContext) (f : Flow) (bytes : List ℕ) (old new : S) (refusal : Refusal) : Type 0 where
  pub taken : List ℕ
  pub byte : ℕ
  pub later : List ℕ
  pub is : bytes ≡ taken ++ byte ∷ later
  pub unrefused : flow_refused limit context f taken ≡ None
  pub completes_none : flow_events context f taken ≡ []
  pub why : FlowWhy declines (f.at + length taken) (so_far_in (flow_after_bytes context f taken).state byte) (flow_refused limit context f (taken ++ byte ∷ [])) (flow_events context f (taken ++ byte ∷ [])) old new refusal

-- These bytes bring a direction from one state to another: none of them is refused, and a sink that had received what came before has received the events too that they complete.
pub record FlowComes {S : Type 0} (agrees : S → List Placed → Type 0) (limit : ℕ) (context : BodyContext) (f f' : Flow) (bytes : List ℕ) (old new : S) : Type 0 where
  pub unrefused : flow_refused limit context f bytes ≡ None
  pub kept : flow_after_bytes context f bytes ≡ f'
  pub emitted : (earlier : List Placed) → agrees old earlier → AreEvents (flow_events context f bytes ++ earlier) → agrees new (flow_events context f bytes ++ earlier)
