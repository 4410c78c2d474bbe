-- Further statements on a connection, of which a later REST on it shows whether they are false (C24, D01 to D03, D05). They are judged on every connection, but only if the further
-- statements are asked for. A REST shows that the connection is still open, though the server had nothing more to send.
use Rattle.std.specs.Prelude.{nat_lt, Bool, true, false, ◌&&◌, ◌||◌, not, is_some}
use Rattle.mq_packet.specs.declared.packet.PacketType.TheVariants as types
use Rattle.mq_packet.specs.declared.rule.PacketRule.{PacketRule}
use Rattle.mq_packet.specs.declared.rule.PacketRule.TheVariants.{W03, W08, W09, W13, W14, W15, W20}
use Rattle.mq_rules.specs.declared.role.Role.TheVariants.{Server}
use Rattle.mq_rules.specs.declared.note.Note.{Note}
use Rattle.mq_rules.specs.declared.note.ItemNote.{ItemNote}
use Rattle.mq_rules.specs.declared.note.ItemNote.TheVariants as items
use Rattle.mq_rules.specs.declared.packet_note.ConnectNote.{ConnectNote}
use Rattle.mq_rules.specs.Words.{is_some_and}
use Rattle.mq_rules.specs.Notes.{client_disconnect, connect_of, is_broken, is_close, is_rest, received_item, receives_type, sends_type, sent_connack, sent_item}
use Rattle.mq_rules.specs.Moments.{Moment, note, since, some}
use Rattle.mq_rules.specs.Connections.{connection}
use Rattle.mq_rules.specs.Pasts.{came_before, is_sent_disconnect, is_sent_refusal}
use Rattle.mq_rules.specs.ProtocolErrors.{is_protocol_error}
use Rattle.mq_rules.specs.ReceiveMaximum.{exceeds_maximum, refuses_message}

-- ---- words

-- the first moment of its connection that passes the test
abbrev pub is_first_of : (Moment → Bool) → Moment → Bool
is_first_of test m = test m && not (some test (connection m.past))

-- The server says that it closes the connection: it sends a DISCONNECT, or a CONNACK of 0x80 or more (MQTT 5.0, sections 3.14.4 and 3.2.2.2). Whether it then closes is C23.
abbrev pub says_goodbye : Note → Bool
says_goodbye n = is_sent_disconnect n || is_sent_refusal n

-- either end says that it closes the connection: the server says so, or it receives a DISCONNECT
abbrev pub ends_talk : Note → Bool
ends_talk n = is_some (client_disconnect Server n) || says_goodbye n

-- What the server does now shows what comes of an error before it on the connection: it says that it closes the connection; the connection closes; or the server is at rest.
abbrev pub shows_outcome : Note → Bool
shows_outcome n = says_goodbye n || (is_close n || is_rest n)

-- at this REST the connection is open, and the server hasn't said that it closes it
abbrev pub stays_open : Moment → Bool
stays_open t = is_rest (note t) && not (came_before says_goodbye t)

-- ---- words on a CONNECT

-- a CONNECT, or bytes of one that break a rule, is received
abbrev pub receives_connect : Moment → Bool
receives_connect m = receives_type types.Connect (note m)

-- A CONNECT is received on a connection on which one was received before. Bytes that break a rule count by their type.
abbrev pub repeats_connect : Moment → Bool
repeats_connect m = receives_connect m && came_before (receives_type types.Connect) m

-- the second CONNECT on its connection: a CONNECT is received, one was before, and none of those before was such a repeated one
abbrev pub is_second_connect : Moment → Bool
is_second_connect m = is_first_of repeats_connect m

-- The client takes a CONNACK: its Maximum Packet Size, if it has one, isn't below the 5 bytes of the smallest (MQTT 5.0, sections 3.1.2.11.4 and 3.2).
abbrev pub takes_connack : ConnectNote → Bool
takes_connack c = not (is_some_and (λ size. nat_lt size 5) c.maximum_packet_size)

-- ---- words on what comes of a CONNECT

-- The CONNECT is answered, or may have been the last that the server looked at: the server sends a CONNACK; either end says that it closes the connection; or what one of them
-- sends breaks a rule, so that the other one may close.
abbrev pub settles_connect : Note → Bool
settles_connect n = is_some (sent_connack n) || (ends_talk n || (is_some_and is_broken (sent_item n) || is_some_and is_broken (received_item n)))

-- the server waits for the client: it sent an AUTH, and received none after it (MQTT 5.0, section 4.12)
abbrev pub waits_for_auth : Moment → Bool
waits_for_auth t = since (λ j. sends_type types.Auth (note j)) (λ j. receives_type types.Auth (note j)) (connection t.past)

-- the server is at rest, though a CONNECT before it would still have to be answered
abbrev pub leaves_unanswered : Moment → Bool
leaves_unanswered t = is_rest (note t) && (not (came_before settles_connect t) && not (waits_for_auth t))

-- ---- words on a Malformed Packet (MQTT 5.0, section 4.13.1)

-- A packet that breaks this rule can't be read as the standard lays it out. The others can be read all the same: a length in more bytes than it needs (W03), DUP 1 at QoS 0, a
-- Packet Identifier of 0, an unknown Reason Code (W08, W09, W13), a topic or filter with characters that it may not have, which a Reason Code can refuse (W14, W15), and reserved
-- flags of a CONNACK, which no server receives (W20).
abbrev pub is_of_format : PacketRule → Bool
is_of_format W03 = false
is_of_format W08 = false
is_of_format W09 = false
is_of_format W13 = false
is_of_format W14 = false
is_of_format W15 = false
is_of_format W20 = false
is_of_format _ = true

-- bytes that break such a rule; or bytes that can't be cut into packets
abbrev pub is_malformed : ItemNote → Bool
is_malformed (items.Packet p) = false
is_malformed (items.Bad first rule at large) = is_of_format rule
is_malformed items.Lost = true

abbrev pub receives_malformed : Note → Bool
receives_malformed n = is_some_and is_malformed (received_item n)

-- ---- the statements

-- With this moment the server owes a CONNACK: it is the first CONNECT, and the client takes one.
abbrev pub owes_C24 : Moment → Bool
owes_C24 m = is_first_of receives_connect m && is_some_and takes_connack (connect_of Server (note m))

-- C24: whenever the first CONNECT of a connection is received, no REST comes there before a CONNACK, unless the server waits for an AUTH.
unfoldable pub applies_C24 : Moment → Moment → Bool
applies_C24 t m = owes_C24 m && (is_some (sent_connack (note t)) || leaves_unanswered t)

unfoldable pub shows_C24 : Moment → Moment → Bool
shows_C24 t m = owes_C24 m && leaves_unanswered t

-- With this moment the server owes to close the connection: it is the first Malformed Packet, and neither end had said that it closes the connection.
abbrev pub owes_D01 : Moment → Bool
owes_D01 m = is_first_of (λ j. receives_malformed (note j)) m && not (came_before ends_talk m)

-- D01: whenever a Malformed Packet is received, the first on its connection, no REST comes after it there before the server says that it closes the connection.
unfoldable pub applies_D01 : Moment → Moment → Bool
applies_D01 t m = owes_D01 m && shows_outcome (note t)

unfoldable pub shows_D01 : Moment → Moment → Bool
shows_D01 t m = owes_D01 m && stays_open t

-- the same: it is the second CONNECT
abbrev pub owes_D02 : Moment → Bool
owes_D02 m = is_second_connect m && not (came_before ends_talk m)

-- D02: whenever the second CONNECT is received on a connection, no REST comes after it there before the server says that it closes the connection.
unfoldable pub applies_D02 : Moment → Moment → Bool
applies_D02 t m = owes_D02 m && shows_outcome (note t)

unfoldable pub shows_D02 : Moment → Moment → Bool
shows_D02 t m = owes_D02 m && stays_open t

-- the same: it is the first Protocol Error
abbrev pub owes_D03 : Moment → Bool
owes_D03 m = is_first_of is_protocol_error m && not (came_before ends_talk m)

-- D03: whenever a packet is received that is a Protocol Error, the first on its connection, no REST comes after it there before the server says that it closes the connection.
unfoldable pub applies_D03 : Moment → Moment → Bool
applies_D03 t m = owes_D03 m && shows_outcome (note t)

unfoldable pub shows_D03 : Moment → Moment → Bool
shows_D03 t m = owes_D03 m && stays_open t

-- the same: it is the first PUBLISH that exceeds the Receive Maximum
abbrev pub owes_D05 : Moment → Bool
owes_D05 m = is_first_of exceeds_maximum m && not (came_before ends_talk m)

-- no message of QoS 2 was refused on the moment's connection before it
abbrev pub is_unrefused : Moment → Bool
is_unrefused t = not (came_before refuses_message t)

-- D05: whenever a PUBLISH is received that exceeds the Receive Maximum, the first on its connection, no REST comes after it there before the server says that it closes the connection,
-- or refuses a message of QoS 2. A refusal that comes before the PUBLISH in the log may have been sent for it.
unfoldable pub applies_D05 : Moment → Moment → Bool
applies_D05 t m = owes_D05 m && (shows_outcome (note t) && is_unrefused t)

unfoldable pub shows_D05 : Moment → Moment → Bool
shows_D05 t m = owes_D05 m && (stays_open t && is_unrefused t)
