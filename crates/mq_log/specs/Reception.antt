-- What a sink receives of a log.
use Rattle.std.specs.Prelude.{◌≡◌, ℕ, List, ◌++◌, None, unwrap_or}
use Rattle.mq_packet.specs.declared.packet.Packet.{Packet}
use Rattle.mq_packet.specs.Reading.{view}
use Rattle.mq_packet.specs.Sizes.{size_with, remaining_length}
use Rattle.mq_log.specs.declared.place.Place3.{Place3}
use Rattle.mq_log.specs.declared.refusal.Refusal.{Refusal}
use Rattle.mq_log.specs.declared.event.Item.{Item as EmittedItem}
use Rattle.mq_log.specs.declared.event.Item.TheVariants as items
use Rattle.mq_log.specs.declared.event.UnfinishedPackets.{UnfinishedPackets as EmittedPackets}
use Rattle.mq_log.specs.declared.event.Event.{Event as EmittedEvent}
use Rattle.mq_log.specs.declared.event.Event.TheVariants as emitted
use Rattle.mq_log.specs.declared.kind.Direction.{Direction}
use Rattle.mq_log.specs.Flows.{item_event}
use Rattle.mq_log.specs.Events.{Item, UnfinishedPackets, Event, Placed, packet, bad, lost, opened, closed, rested, released, sent, received, events}
use Rattle.mq_log.specs.Refusals.{refused}

-- an item and an event, apart from where their bytes are in memory
abbrev pub item_of : EmittedItem → Item
item_of (items.Packet p) = packet (unwrap_or (size_with (remaining_length p)) 0) (view p)
item_of (items.Bad bytes rule at) = bad bytes.now rule at
item_of items.Lost = lost

-- the bytes of unfinished packets, likewise
abbrev pub packets_of : EmittedPackets → UnfinishedPackets
packets_of unfinished = record { sent = unfinished.sent.now; received = unfinished.received.now }

abbrev pub event_of : EmittedEvent → Event
event_of emitted.Open = opened
event_of (emitted.Close unfinished) = closed (packets_of unfinished)
event_of emitted.Rest = rested
event_of (emitted.Release identifier) = released identifier
event_of (emitted.Sent item) = sent (item_of item)
event_of (emitted.Recv item) = received (item_of item)

-- the event at its place
abbrev pub placed_at : Place3 → EmittedEvent → Placed
placed_at place event = record { place = place; event = event_of event }

-- the event of a packet in this direction, at its place
abbrev pub packet_event_at : Place3 → Direction → Packet → Placed
packet_event_at place direction p = record { place = place; event = item_event direction (item_of (items.Packet p)) }

-- These are the events of some log that isn't refused, the newest first.
pub record AreEvents (placed : List Placed) : Type 0 where
  pub limit : ℕ
  pub log : List ℕ
  pub unrefused : refused limit log ≡ None
  pub are : placed ≡ events log

-- A sink refused these events: if it had received some earlier events, which these follow in a log, it is in the state of having refused after the earlier ones.
abbrev pub Declines : {S : Type 0} → (S → List Placed → Type 0) → (S → List Placed → Refusal → Type 0) → S → S → List Placed → Refusal → Type 0
Declines agrees refuses old new completed own = (earlier : List Placed) → agrees old earlier → AreEvents (completed ++ earlier) → refuses new earlier own
