-- What events make of a connection.
use Rattle.std.specs.Prelude.{ℕ, ◌+◌, nat_le, Bool, true, false, ◌||◌, ◌&&◌, not, if◌then◌else◌, List, [], ◌∷◌, length, Option, Some, None}
use Rattle.mq_packet.specs.declared.packet.PacketType.{PacketType}
use Rattle.mq_packet.specs.declared.packet.PacketType.TheVariants as types
use Rattle.mq_packet.specs.Entries.{Entry}
use Rattle.mq_packet.specs.Canonical.{type_of}
use Rattle.mq_log.specs.Events.{Item, Event, Placed, packet, bad, lost, opened, closed, sent, received}

-- a connection begins, and ends
abbrev pub begins_connection : Event → Bool
begins_connection opened = true
begins_connection _ = false

abbrev pub ends_connection : Event → Bool
ends_connection (closed unfinished) = true
ends_connection _ = false

-- what a packet is by its type: a CONNACK (MQTT 5.0, section 3.2)
abbrev pub is_connack_type : PacketType → Bool
is_connack_type types.Connack = true
is_connack_type _ = false

-- a packet that needs a session: a PUBLISH, a SUBSCRIBE, an UNSUBSCRIBE, or what acknowledges one (MQTT 5.0, section 4.1)
abbrev pub is_session_type : PacketType → Bool
is_session_type types.Connect = false
is_session_type types.Connack = false
is_session_type types.Publish = true
is_session_type types.Puback = true
is_session_type types.Pubrec = true
is_session_type types.Pubrel = true
is_session_type types.Pubcomp = true
is_session_type types.Subscribe = true
is_session_type types.Suback = true
is_session_type types.Unsubscribe = true
is_session_type types.Unsuback = true
is_session_type types.Pingreq = false
is_session_type types.Pingresp = false
is_session_type types.Disconnect = false
is_session_type types.Auth = false

abbrev pub is_connack : Entry → Bool
is_connack entry = is_connack_type (type_of entry)

-- the item is a packet that passes the test
abbrev pub is_packet : (Entry → Bool) → Item → Bool
is_packet test (packet size entry) = test entry
is_packet test (bad bytes rule at) = false
is_packet test lost = false

-- A CONNACK from the server, which a tested client receives and a tested server sends.
abbrev pub is_answer : Bool → Event → Bool
is_answer true (sent item) = is_packet is_connack item
is_answer false (received item) = is_packet is_connack item
is_answer _ _ = false

-- some event passes the first test, and no event after it passes the second; the newest event comes first
abbrev pub event_since : (Event → Bool) → (Event → Bool) → List Placed → Bool
event_since starts stops [] = false
event_since starts stops (e ∷ past) = starts e.event || (not (stops e.event) && event_since starts stops past)

-- a connection is open
abbrev pub has_open_connection : List Placed → Bool
has_open_connection log = event_since begins_connection ends_connection log

-- The CONNACK of the latest connection has come; the flag says whether the tested end is a server.
abbrev pub is_connack_seen : Bool → List Placed → Bool
is_connack_seen server log = event_since (is_answer server) begins_connection log

-- How many events there are since the latest OPEN, that one included: those of its connection, while it is open.
abbrev pub events_on_connection : List Placed → ℕ
events_on_connection [] = 0
events_on_connection (e ∷ past) = if begins_connection e.event then 1 else events_on_connection past + 1

-- how many events there are before the latest OPEN; 0 if there is none
abbrev pub events_before_open : List Placed → ℕ
events_before_open [] = 0
events_before_open (e ∷ past) = if begins_connection e.event then length past else events_before_open past

-- How many events a connection may have without its CONNACK, its OPEN counted.
abbrev pub most_early_events : ℕ
most_early_events = 4096

-- An event, if there is one, comes too early, given whether the tested end is a server, whether a connection is open, whether its CONNACK came, and how many events it has.
-- It does if the connection is open, its CONNACK hasn't come, it has as many events as it may have without one, and the event is neither its CLOSE nor its CONNACK.
abbrev pub is_too_early : (server connected connack_seen : Bool) → ℕ → Option Event → Bool
is_too_early server connected connack_seen count None = false
is_too_early server connected connack_seen count (Some event) =
    (connected && (not connack_seen && nat_le most_early_events count)) && not (ends_connection event || is_answer server event)
