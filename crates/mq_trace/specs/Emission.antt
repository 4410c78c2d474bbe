-- Emitting an event to a sink: which refusals can apply, and what is kept after it.
use Rattle.std.specs.Prelude.{◌≡◌, ℕ, ◌+◌, ◌-◌, ◌⊎◌, nat_le, Bool, true, false, ◌&&◌, ◌||◌, not, if◌then◌else◌, List, [], ◌∷◌, Option, Some, None}
use Rattle.mq_log.specs.declared.place.InRecord.{InRecord}
use Rattle.mq_log.specs.declared.refusal.Refusal.{Refusal}
use Rattle.mq_log.specs.declared.refusal.Refusal.TheVariants as refusals
use Rattle.mq_trace.specs.declared.connections.Connections.{Connections}
use Rattle.mq_trace.specs.declared.connections.Effect.{Effect}
use Rattle.mq_trace.specs.declared.connections.Effect.TheVariants as effects
use Rattle.mq_log.specs.Events.{Event, Placed, opened, closed, rested, released, sent, received}
use Rattle.mq_log.specs.Connections.{begins_connection, ends_connection, is_answer, is_too_early}
use Rattle.mq_log.specs.Refusals.{first_that_applies}
use Rattle.mq_log.specs.Refusing.{moved}

-- what an event does to its connection; the flag says whether the tested end is a server
abbrev pub effect_of : Bool → Event → Effect
effect_of server opened = effects.Begins
effect_of server (closed unfinished) = effects.Ends
effect_of server rested = effects.Nothing
effect_of server (released identifier) = effects.Nothing
effect_of server (sent item) = if is_answer server (sent item) then effects.Answers else effects.Nothing
effect_of server (received item) = if is_answer server (received item) then effects.Answers else effects.Nothing

-- an event with this effect may come however many came before it without a CONNACK
abbrev pub decides : Effect → Bool
decides effects.Begins = false
decides effects.Answers = true
decides effects.Ends = true
decides effects.Nothing = false

-- the refusal that applies to an event that this byte completes; the flag says whether the tested end is a server
abbrev pub event_refusal : ℕ → Bool → Connections → Event → Option Refusal
event_refusal at server connections event = first_that_applies (
    (is_too_early server connections.connected connections.connack_seen (connections.events - connections.before_open) (Some event), refusals.TooManyEarly at)
    ∷ (nat_le 4294967295 connections.events, refusals.TooLong at)
    ∷ [])

-- what is kept of the events after one more
abbrev pub connections_with : Bool → Connections → Event → Connections
connections_with server connections event = record {
  events = connections.events + 1;
  connected = begins_connection event || (not (ends_connection event) && connections.connected);
  connack_seen = is_answer server event || (not (begins_connection event) && connections.connack_seen);
  before_open = if begins_connection event then connections.events else connections.before_open;
}

-- the event at the next place, in this record
abbrev pub next_placed : Connections → InRecord → Event → Placed
next_placed connections in_record event = record { place = record { position = connections.events + 1; record_no = in_record.record_no; moment = in_record.moment }; event = event }

-- The sink refused what this byte completed: one event, given as a list.
pub record RefusedBySink {S : Type 0} (declines : S → S → List Placed → Refusal → Type 0) (at : ℕ) (completed : List Placed) (old new : S) (refusal : Refusal) : Type 0 where
  pub own : Refusal
  pub refused : declines old new completed own
  pub is : refusal ≡ moved own at

-- Why what a byte completes wasn't emitted: a refusal's condition applies at the byte, and the sink received nothing; or none does, and the sink refused it.
abbrev pub NotEmitted : {S : Type 0} → (S → S → List Placed → Refusal → Type 0) → ℕ → Option Refusal → List Placed → S → S → Refusal → Type 0
NotEmitted declines at met completed old new refusal = ((met ≡ Some refusal) × (new ≡ old)) ⊎ ((met ≡ None) × RefusedBySink declines at completed old new refusal)
