-- Statements on the past of a connection (C01 to C23). They are judged on every connection; each says at which moments it is put to the test (`applies`), and at which
-- of these it is false (`breaks`), by what comes before it on its connection. In C01 to C06 bytes that break a rule count by their type; elsewhere only packets count.
use Rattle.std.specs.Prelude.{ℕ, ◌-◌, ◌==◌, nat_lt, Bool, true, ◌&&◌, ◌||◌, not, length, Option, is_some, unwrap_or}
use Rattle.std.specs.Option.{option_and_then}
use Rattle.std.specs.List.{list_any}
use Rattle.mq_packet.specs.declared.packet.PacketType.TheVariants as types
use Rattle.mq_rules.specs.declared.role.Role.{Role}
use Rattle.mq_rules.specs.declared.role.Role.TheVariants.{Client, Server}
use Rattle.mq_rules.specs.declared.note.Note.{Note}
use Rattle.mq_rules.specs.declared.packet_note.ConnectNote.{ConnectNote}
use Rattle.mq_rules.specs.declared.packet_note.ConnackNote.{ConnackNote}
use Rattle.mq_rules.specs.Words.{is_some_and, is_id, only}
use Rattle.mq_rules.specs.Notes.{is_close, is_rest, is_typed, sent_item, sent_packet, sent_publish, sent_disconnect, sent_connack, type_number_in, foreign_types, sends_type, receives_type, refuses, may_explain, resumed_by, qos_number}
use Rattle.mq_rules.specs.Moments.{Moment, note, some}
use Rattle.mq_rules.specs.Connections.{begun, connection, first_connect, first_connack, is_alive_after}

-- ---- words

-- a packet, or bytes that break a rule, is sent
abbrev pub sends_typed : Moment → Bool
sends_typed k = is_some_and is_typed (sent_item (note k))

-- the same; or the connection closes, as it does if nothing more is sent
abbrev pub sends_or_closes : Moment → Bool
sends_or_closes k = sends_typed k || is_close (note k)

-- before the moment, on its connection, some moment passes the test
abbrev pub came_before : (Note → Bool) → Moment → Bool
came_before test k = some (λ j. test (note j)) (connection k.past)

abbrev pub is_sent_disconnect : Note → Bool
is_sent_disconnect n = is_some (sent_disconnect n)

abbrev pub is_sent_refusal : Note → Bool
is_sent_refusal n = is_some_and (λ c. refuses c.code) (sent_connack n)

abbrev pub says_session_present : Note → Bool
says_session_present n = is_some_and (λ c. c.session_present) (sent_connack n)

abbrev pub accepts_so : Note → Bool
accepts_so n = is_some_and (λ c. c.code == 0) (sent_connack n)

-- the connection's CONNECT, and its CONNACK, if they came before the moment
abbrev pub connect_before : Role → Moment → Option ConnectNote
connect_before role k = first_connect role (connection k.past)

abbrev pub connack_before : Role → Moment → Option ConnackNote
connack_before role k = first_connack role (connection k.past)

-- the session is alive before the connection of the moment
abbrev pub is_alive : Role → Moment → Bool
is_alive role k = is_alive_after role (begun k.past - 1) k.past

-- ---- what the peer announced, on the same connection and before the moment: the server in its CONNACK, the client in its CONNECT

-- Maximum Packet Size, in bytes; None means no bound (MQTT 5.0, sections 3.1.2.11.4 and 3.2.2.3.6)
abbrev pub peer_maximum_packet_size : Role → Moment → Option ℕ
peer_maximum_packet_size Client k = option_and_then (λ a. a.maximum_packet_size) (connack_before Client k)
peer_maximum_packet_size Server k = option_and_then (λ c. c.maximum_packet_size) (connect_before Server k)

-- Topic Alias Maximum, 0 by default (MQTT 5.0, sections 3.1.2.11.5 and 3.2.2.3.8)
abbrev pub peer_topic_alias_maximum : Role → Moment → ℕ
peer_topic_alias_maximum Client k = unwrap_or (option_and_then (λ a. a.topic_alias_maximum) (connack_before Client k)) 0
peer_topic_alias_maximum Server k = unwrap_or (option_and_then (λ c. c.topic_alias_maximum) (connect_before Server k)) 0

-- Maximum QoS, 2 by default: only a server announces it (MQTT 5.0, section 3.2.2.3.4)
abbrev pub peer_maximum_qos : Role → Moment → ℕ
peer_maximum_qos Client k = unwrap_or (option_and_then (λ a. a.maximum_qos) (connack_before Client k)) 2
peer_maximum_qos Server k = 2

-- Receive Maximum, 65,535 by default (MQTT 5.0, sections 3.1.2.11.3 and 3.2.2.3.3)
abbrev pub peer_receive_maximum : Role → Moment → ℕ
peer_receive_maximum Client k = unwrap_or (option_and_then (λ a. a.receive_maximum) (connack_before Client k)) 65535
peer_receive_maximum Server k = unwrap_or (option_and_then (λ c. c.receive_maximum) (connect_before Server k)) 65535

-- A client looks at what the server announced only after its CONNACK; a server may look at once.
abbrev pub knows_peer : Role → Moment → Bool
knows_peer Client k = is_some (connack_before Client k)
knows_peer Server k = true

-- ---- the statements

-- C01: whatever is sent, its type isn't one that only the other end may send.
unfoldable pub applies_C01 : Moment → Bool
applies_C01 k = is_some_and (λ type. not (type == 0)) (option_and_then type_number_in (sent_item (note k)))

unfoldable pub breaks_C01 : Role → Moment → Bool
breaks_C01 role k = list_any (λ type. sends_type type (note k)) (foreign_types role)

-- C02: the first packet that a client sends on the connection is a CONNECT.
unfoldable pub applies_C02 : Moment → Bool
applies_C02 k = sends_typed k && not (some sends_typed (connection k.past))

unfoldable pub breaks_C02 : Moment → Bool
breaks_C02 k = sends_typed k && (not (sends_type types.Connect (note k)) && not (some sends_typed (connection k.past)))

-- C03: whenever a CONNECT is sent, none was sent before.
unfoldable pub applies_C03 : Moment → Bool
applies_C03 k = sends_type types.Connect (note k)

unfoldable pub breaks_C03 : Moment → Bool
breaks_C03 k = sends_type types.Connect (note k) && came_before (sends_type types.Connect) k

-- C04: whenever a CONNACK is sent, a CONNECT was received before.
unfoldable pub applies_C04 : Moment → Bool
applies_C04 k = sends_type types.Connack (note k)

unfoldable pub breaks_C04 : Moment → Bool
breaks_C04 k = sends_type types.Connack (note k) && not (came_before (receives_type types.Connect) k)

-- C05: whatever is sent but an AUTH, while no CONNACK was, is a CONNACK.
unfoldable pub applies_C05 : Moment → Bool
applies_C05 k = sends_typed k && (not (sends_type types.Auth (note k)) && not (came_before (sends_type types.Connack) k))

unfoldable pub breaks_C05 : Moment → Bool
breaks_C05 k = sends_typed k && (not (sends_type types.Connack (note k) || sends_type types.Auth (note k)) && not (came_before (sends_type types.Connack) k))

-- C06: whenever a CONNACK is sent, none was sent before.
unfoldable pub applies_C06 : Moment → Bool
applies_C06 k = sends_type types.Connack (note k)

unfoldable pub breaks_C06 : Moment → Bool
breaks_C06 k = sends_type types.Connack (note k) && came_before (sends_type types.Connack) k

-- C07: whenever a CONNACK answers a CONNECT with Clean Start 1, it doesn't have Session Present 1.
unfoldable pub applies_C07 : Moment → Bool
applies_C07 k = is_some (sent_connack (note k)) && is_some_and (λ c. c.clean_start) (connect_before Server k)

unfoldable pub breaks_C07 : Moment → Bool
breaks_C07 k = says_session_present (note k) && is_some_and (λ c. c.clean_start) (connect_before Server k)

-- C08: whenever a CONNACK of code 0x00 has Session Present 1, or answers Clean Start 0 while no session is alive, it has Session Present 1 only if one is alive.
unfoldable pub applies_C08 : Moment → Bool
applies_C08 k = accepts_so (note k) && (says_session_present (note k) || (is_some_and (λ c. not c.clean_start) (connect_before Server k) && not (is_alive Server k)))

unfoldable pub breaks_C08 : Moment → Bool
breaks_C08 k = says_session_present (note k) && (accepts_so (note k) && not (is_alive Server k))

-- C09: whenever a CONNACK has another code than 0x00, it doesn't have Session Present 1.
unfoldable pub applies_C09 : Moment → Bool
applies_C09 k = is_some (sent_connack (note k)) && not (accepts_so (note k))

unfoldable pub breaks_C09 : Moment → Bool
breaks_C09 k = says_session_present (note k) && not (accepts_so (note k))

-- C10: whenever a CONNACK of code 0x00 answers an empty Client Identifier, it assigns one.
unfoldable pub applies_C10 : Moment → Bool
applies_C10 k = accepts_so (note k) && is_some_and (λ c. c.is_unnamed) (connect_before Server k)

unfoldable pub breaks_C10 : Moment → Bool
breaks_C10 k = accepts_so (note k) && (not (is_some_and (λ c. c.has_assigned_identifier) (sent_connack (note k))) && is_some_and (λ c. c.is_unnamed) (connect_before Server k))

-- C11: once a DISCONNECT was sent, no packet is, nor bytes that break a rule, up to the CLOSE. A direction that is lost doesn't count.
unfoldable pub applies_C11 : Moment → Bool
applies_C11 k = sends_or_closes k && came_before is_sent_disconnect k

unfoldable pub breaks_C11 : Moment → Bool
breaks_C11 k = sends_typed k && came_before is_sent_disconnect k

-- C12: once a CONNACK of 0x80 or more was sent, no packet is, nor bytes that break a rule, up to the CLOSE. A direction that is lost doesn't count.
unfoldable pub applies_C12 : Moment → Bool
applies_C12 k = sends_or_closes k && came_before is_sent_refusal k

unfoldable pub breaks_C12 : Moment → Bool
breaks_C12 k = sends_typed k && came_before is_sent_refusal k

-- C13: after a CONNACK that resumed a session, though Clean Start was 1 or the session wasn't alive, no packet but a DISCONNECT is sent, up to the CLOSE.
unfoldable pub applies_C13 : Moment → Bool
applies_C13 k = (is_some (sent_packet (note k)) || is_close (note k)) && (is_some_and resumed_by (connack_before Client k)
    && (is_some_and (λ c. c.clean_start) (connect_before Client k) || not (is_alive Client k)))

unfoldable pub breaks_C13 : Moment → Bool
breaks_C13 k = is_some (sent_packet (note k)) && (not (is_sent_disconnect (note k)) && (is_some_and resumed_by (connack_before Client k)
    && (is_some_and (λ c. c.clean_start) (connect_before Client k) || not (is_alive Client k))))

-- C14: whenever a packet is sent to a peer that announced a Maximum Packet Size, it isn't larger.
unfoldable pub applies_C14 : Role → Moment → Bool
applies_C14 role k = is_some (sent_packet (note k)) && is_some (peer_maximum_packet_size role k)

unfoldable pub breaks_C14 : Role → Moment → Bool
breaks_C14 role k = is_some_and (λ p. is_some_and (λ most. nat_lt most p.size) (peer_maximum_packet_size role k)) (sent_packet (note k))

-- C15: whenever a PUBLISH is sent with a Topic Alias, that isn't above the peer's Topic Alias Maximum.
unfoldable pub applies_C15 : Role → Moment → Bool
applies_C15 role k = knows_peer role k && is_some (option_and_then (λ p. p.topic_alias) (sent_publish (note k)))

unfoldable pub breaks_C15 : Role → Moment → Bool
breaks_C15 role k = knows_peer role k && is_some_and (λ alias. nat_lt (peer_topic_alias_maximum role k) alias) (option_and_then (λ p. p.topic_alias) (sent_publish (note k)))

-- the Topic Alias that a PUBLISH with a Topic Name sets, and the one that a PUBLISH without one uses
abbrev pub set_alias : Note → Option ℕ
set_alias n = option_and_then (λ p. only (not (length p.topic == 0)) p.topic_alias) (sent_publish n)

abbrev pub used_alias : Note → Option ℕ
used_alias n = option_and_then (λ p. only (length p.topic == 0) p.topic_alias) (sent_publish n)

-- C16: whenever a PUBLISH is sent with a Topic Alias and an empty Topic Name, one before had that alias and a Topic Name.
unfoldable pub applies_C16 : Moment → Bool
applies_C16 k = is_some (used_alias (note k))

unfoldable pub breaks_C16 : Moment → Bool
breaks_C16 k = is_some_and (λ alias. not (came_before (λ n. is_id alias (set_alias n)) k)) (used_alias (note k))

-- C17: whenever a PUBLISH is sent to a server that announced a Maximum QoS, its QoS isn't above that.
unfoldable pub applies_C17 : Moment → Bool
applies_C17 k = is_some (sent_publish (note k)) && is_some (option_and_then (λ a. a.maximum_qos) (connack_before Client k))

unfoldable pub breaks_C17 : Moment → Bool
breaks_C17 k = is_some_and (λ p. nat_lt (peer_maximum_qos Client k) (qos_number p.qos)) (sent_publish (note k))

-- C18: whenever a client sends a PUBLISH, it has no Subscription Identifier.
unfoldable pub applies_C18 : Moment → Bool
applies_C18 k = is_some (sent_publish (note k))

unfoldable pub breaks_C18 : Moment → Bool
breaks_C18 k = is_some_and (λ p. p.has_subscription_identifier) (sent_publish (note k))

-- C19: whenever a server sends a DISCONNECT, it has no Session Expiry Interval.
unfoldable pub applies_C19 : Moment → Bool
applies_C19 k = is_some (sent_disconnect (note k))

unfoldable pub breaks_C19 : Moment → Bool
breaks_C19 k = is_some_and (λ d. is_some d.session_expiry) (sent_disconnect (note k))

-- C20: whenever a client sends a DISCONNECT with a Session Expiry Interval other than 0, that of the CONNECT was neither 0 nor absent.
unfoldable pub applies_C20 : Moment → Bool
applies_C20 k = is_some_and (λ d. is_some_and (λ seconds. not (seconds == 0)) d.session_expiry) (sent_disconnect (note k))

unfoldable pub breaks_C20 : Moment → Bool
breaks_C20 k = is_some_and (λ d. is_some_and (λ seconds. not (seconds == 0)) d.session_expiry) (sent_disconnect (note k))
    && is_some_and (λ c. unwrap_or c.session_expiry 0 == 0) (connect_before Client k)

-- C21: whenever another packet than PUBLISH, CONNACK and DISCONNECT is sent, and Request Problem Information was 0, it has neither a Reason String nor a User Property.
unfoldable pub applies_C21 : Moment → Bool
applies_C21 k = is_some_and (λ p. not (may_explain p.fields)) (sent_packet (note k)) && is_some_and (λ c. is_id 0 c.request_problem_information) (connect_before Server k)

unfoldable pub breaks_C21 : Moment → Bool
breaks_C21 k = is_some_and (λ p. (p.has_reason_string || p.has_user_property) && not (may_explain p.fields)) (sent_packet (note k))
    && is_some_and (λ c. is_id 0 c.request_problem_information) (connect_before Server k)

-- C22: whenever a CONNACK is sent with Response Information, Request Response Information was 1.
unfoldable pub applies_C22 : Moment → Bool
applies_C22 k = is_some_and (λ c. c.has_response_information) (sent_connack (note k))

unfoldable pub breaks_C22 : Moment → Bool
breaks_C22 k = is_some_and (λ c. c.has_response_information) (sent_connack (note k))
    && is_some_and (λ c. not (is_id 1 c.request_response_information)) (connect_before Server k)

-- what an end sends before it closes the connection: a DISCONNECT, and for a server a CONNACK of 0x80 or more
abbrev pub is_last_sent : Role → Note → Bool
is_last_sent Client n = is_sent_disconnect n
is_last_sent Server n = is_sent_disconnect n || is_sent_refusal n

-- C23: once the end has sent such a packet, it is never at rest, up to the CLOSE.
unfoldable pub applies_C23 : Role → Moment → Bool
applies_C23 role k = (is_rest (note k) || is_close (note k)) && came_before (is_last_sent role) k

unfoldable pub breaks_C23 : Role → Moment → Bool
breaks_C23 role k = is_rest (note k) && came_before (is_last_sent role) k
