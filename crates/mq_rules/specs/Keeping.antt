-- What is kept of the latest connection: what it is after these events, and how one more event updates it.
use Rattle.std.specs.Prelude.{ℕ, ◌-◌, ◌==◌, Bool, true, false, ◌&&◌, ◌||◌, not, cond, List, None, is_some, is_none, unwrap_or}
use Rattle.std.specs.Option.{option_and_then, option_or}
use Rattle.mq_packet.specs.declared.packet.PacketType.TheVariants as types
use Rattle.mq_rules.specs.declared.role.Role.{Role}
use Rattle.mq_rules.specs.declared.note.Note.{Note}
use Rattle.mq_rules.specs.declared.note.Seen.{Seen}
use Rattle.mq_rules.specs.declared.packet_note.PacketFields.{PacketFields}
use Rattle.mq_rules.specs.declared.packet_note.PacketFields.TheVariants.{Connect, Connack, Disconnect}
use Rattle.mq_rules.specs.declared.connection_state.ConnectionState.{ConnectionState}
use Rattle.mq_rules.specs.Words.{is_some_and}
use Rattle.mq_rules.specs.Notes.{is_open, is_typed, sent_item, sent_fields, received_fields, sends_type, receives_type, connect_of, connack_of, client_disconnect, decides}
use Rattle.mq_rules.specs.Moments.{note, some, first_found}
use Rattle.mq_rules.specs.Connections.{begun, connection, first_connect, first_connack, accepted, is_alive_after}
use Rattle.mq_rules.specs.Pasts.{sends_typed, is_sent_disconnect, is_sent_refusal}

-- ---- what is kept after these events

unfoldable pub kept : Role → List Seen → ConnectionState
kept role past = record {
  has_begun = not (begun past == 0);
  was_alive = is_alive_after role (begun past - 1) past;
  fate = first_found (decides role) (connection past);
  connect = first_connect role (connection past);
  connack = first_connack role (connection past);
  disconnect = first_found (client_disconnect role) (connection past);
  has_sent = some sends_typed (connection past);
  has_sent_connect = some (λ m. sends_type types.Connect (note m)) (connection past);
  has_sent_connack = some (λ m. sends_type types.Connack (note m)) (connection past);
  has_received_connect = some (λ m. receives_type types.Connect (note m)) (connection past);
  has_sent_disconnect = some (λ m. is_sent_disconnect (note m)) (connection past);
  has_sent_refusal = some (λ m. is_sent_refusal (note m)) (connection past);
}

-- ---- one more event

-- the Session Expiry Interval of the connection, in seconds (MQTT 5.0, sections 3.1.2.11.2, 3.2.2.3.2 and 3.14.2.2.2)
abbrev pub expiry : ConnectionState → ℕ
expiry s = unwrap_or (option_or (option_and_then (λ d. d.session_expiry) s.disconnect)
    (option_or (option_and_then (λ a. a.session_expiry) s.connack) (option_and_then (λ c. c.session_expiry) s.connect))) 0

-- the session is alive after the connection (MQTT 5.0, section 4.1)
abbrev pub stays_alive : ConnectionState → Bool
stays_alive s = s.has_begun && cond (accepted s.fate) (not (expiry s == 0)) ((is_some s.connect && is_none s.connack) || s.was_alive)

-- at an OPEN a new connection begins
abbrev pub begun_if : Bool → ConnectionState → ConnectionState
begun_if false s = s
begun_if true s = record {
  has_begun = true;
  was_alive = stays_alive s;
  fate = None;
  connect = None;
  connack = None;
  disconnect = None;
  has_sent = false;
  has_sent_connect = false;
  has_sent_connack = false;
  has_received_connect = false;
  has_sent_disconnect = false;
  has_sent_refusal = false;
}

-- what the event adds
abbrev pub followed : Role → ConnectionState → Note → ConnectionState
followed role s n = record {
  has_begun = s.has_begun;
  was_alive = s.was_alive;
  fate = option_or s.fate (decides role n);
  connect = option_or s.connect (connect_of role n);
  connack = option_or s.connack (connack_of role n);
  disconnect = option_or s.disconnect (client_disconnect role n);
  has_sent = s.has_sent || is_some_and is_typed (sent_item n);
  has_sent_connect = s.has_sent_connect || sends_type types.Connect n;
  has_sent_connack = s.has_sent_connack || sends_type types.Connack n;
  has_received_connect = s.has_received_connect || receives_type types.Connect n;
  has_sent_disconnect = s.has_sent_disconnect || is_sent_disconnect n;
  has_sent_refusal = s.has_sent_refusal || is_sent_refusal n;
}

abbrev pub connection_after : Role → ConnectionState → Note → ConnectionState
connection_after role s n = followed role (begun_if (is_open n) s) n

-- a packet other than CONNECT, CONNACK and DISCONNECT, and an event at which such a packet was sent or received: of what is kept it
-- changes only that the tested end has sent something
abbrev pub is_ordinary_in : PacketFields → Bool
is_ordinary_in (Connect c method) = false
is_ordinary_in (Connack c method) = false
is_ordinary_in (Disconnect d) = false
is_ordinary_in _ = true

abbrev pub is_ordinary : Note → Bool
is_ordinary n = is_some_and is_ordinary_in (sent_fields n) || is_some_and is_ordinary_in (received_fields n)
