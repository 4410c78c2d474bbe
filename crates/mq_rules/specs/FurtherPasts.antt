-- Further statements on one packet and on the past of its connection (F01 to F06, V03, V04, V06, A01 to A03). They are judged as C01 to C23 are, on every connection, but
-- only if the further statements are asked for. In A01 bytes that break a rule count by their type; elsewhere only packets count.
use Rattle.std.specs.Prelude.{ℕ, ◌==◌, nat_le, nat_lt, Bool, ◌&&◌, ◌||◌, not, List, Option, is_some}
use Rattle.std.specs.Option.{option_and_then}
use Rattle.std.specs.Str.{bytes_eq}
use Rattle.mq_packet.specs.declared.packet.PacketType.TheVariants as types
use Rattle.mq_rules.specs.declared.role.Role.{Role}
use Rattle.mq_rules.specs.declared.role.Role.TheVariants.{Client, Server}
use Rattle.mq_rules.specs.declared.note.Note.{Note}
use Rattle.mq_rules.specs.declared.packet_note.PacketNote.{PacketNote}
use Rattle.mq_rules.specs.declared.packet_note.ConnectNote.{ConnectNote}
use Rattle.mq_rules.specs.declared.packet_note.ConnackNote.{ConnackNote}
use Rattle.mq_rules.specs.declared.packet_note.WillNote.{WillNote}
use Rattle.mq_rules.specs.Words.{is_some_and, is_id}
use Rattle.mq_rules.specs.Notes.{connect_method, is_auth, is_typed, qos_number, received_item, receives_type, sends_type, sent_connack, sent_disconnect, sent_method, sent_packet, sent_publish, sent_receipt_code, sent_wishes, sends_auth}
use Rattle.mq_rules.specs.Moments.{Moment, note, first_found}
use Rattle.mq_rules.specs.Connections.{connection}
use Rattle.mq_rules.specs.Pasts.{came_before, connack_before, connect_before, sends_typed}

-- ---- words

-- the Will of a CONNECT, if it has one (MQTT 5.0, section 3.1.2.5)
abbrev pub will_in : Option ConnectNote → Option WillNote
will_in connect = option_and_then (λ c. c.will) connect

-- there is a CONNECT, and it has an Authentication Method, or none (MQTT 5.0, section 3.1.2.11.9)
abbrev pub has_method : Option ConnectNote → Bool
has_method connect = is_some_and (λ c. c.has_authentication_method) connect

abbrev pub lacks_method : Option ConnectNote → Bool
lacks_method connect = is_some_and (λ c. not c.has_authentication_method) connect

-- the Authentication Method of the CONNECT before the moment on its connection, if there is a CONNECT and it has one (MQTT 5.0, section 3.1.2.11.9)
abbrev pub method_before : Role → Moment → Option (List ℕ)
method_before role k = option_and_then (λ method. method) (first_found (connect_method role) (connection k.past))

-- An AUTH that has more than its fixed header, which is two bytes: one without more leaves all out, as the standard allows (MQTT 5.0, section 3.15.2.1). Such an AUTH is sent.
abbrev pub is_full_auth : PacketNote → Bool
is_full_auth p = is_auth p.fields && nat_lt 2 p.size

abbrev pub sends_full_auth : Note → Bool
sends_full_auth n = is_some_and is_full_auth (sent_packet n)

-- A packet is sent that has to name the method of the CONNECT: such an AUTH, or from a server a CONNACK that accepts the connection (MQTT 5.0, section 4.12).
abbrev pub has_to_name : Role → Note → Bool
has_to_name Client n = sends_full_auth n
has_to_name Server n = sends_full_auth n || is_some_and (λ c. c.code == 0) (sent_connack n)

-- the packet that is sent has this Authentication Method
abbrev pub names_method : Note → List ℕ → Bool
names_method n method = is_some_and (bytes_eq method) (sent_method n)

-- A CONNACK is heard: something of that type is received, or what can't be cut into packets, which has no type and may be one.
abbrev pub hears_connack : Note → Bool
hears_connack n = receives_type types.Connack n || is_some_and (λ item. not (is_typed item)) (received_item n)

-- On the moment's connection a client sent a CONNECT with an Authentication Method before it, and heard no CONNACK (MQTT 5.0, section 3.1.2.11.9).
abbrev pub is_authenticating : Moment → Bool
is_authenticating k = has_method (connect_before Client k) && not (came_before hears_connack k)

-- There is a CONNACK, by which the server keeps no retained messages, or takes no wildcards, no Subscription Identifiers or no shared subscriptions (MQTT 5.0, sections
-- 3.2.2.3.5 and 3.2.2.3.11 to 3.2.2.3.13).
abbrev pub lacks_retain : Option ConnackNote → Bool
lacks_retain connack = is_some_and (λ c. is_id 0 c.retain_available) connack

abbrev pub lacks_wildcards : Option ConnackNote → Bool
lacks_wildcards connack = is_some_and (λ c. is_id 0 c.wildcard_subscription_available) connack

abbrev pub lacks_identifiers : Option ConnackNote → Bool
lacks_identifiers connack = is_some_and (λ c. is_id 0 c.subscription_identifier_available) connack

abbrev pub lacks_shares : Option ConnackNote → Bool
lacks_shares connack = is_some_and (λ c. is_id 0 c.shared_subscription_available) connack

-- Reason Codes of a DISCONNECT that only a server may send: 0x87, 0x89, 0x8B, 0x8D, 0x8E, 0x8F, and 0x9A to 0xA2; and the one that only a client may: 0x04 (MQTT 5.0,
-- section 3.14.2.1)
abbrev pub is_code_of_servers : ℕ → Bool
is_code_of_servers code =
    (code == 135) || ((code == 137) || ((code == 139) || ((code == 141) || ((code == 142) || ((code == 143) || (nat_le 154 code && nat_le code 162))))))

abbrev pub is_code_of_clients : ℕ → Bool
is_code_of_clients code = code == 4

-- the Reason Code of a PUBACK or PUBREC that only a server may send: 0x10, No matching subscribers (MQTT 5.0, sections 3.4.2.1 and 3.5.2.1)
abbrev pub is_receipt_of_servers : ℕ → Bool
is_receipt_of_servers code = code == 16

-- ---- the statements

-- F01: whenever a PUBLISH with DUP 0 is sent after a CONNACK with Retain Available 0, it has RETAIN 0.
unfoldable pub applies_F01 : Moment → Bool
applies_F01 k = is_some_and (λ p. not p.duplicate) (sent_publish (note k)) && lacks_retain (connack_before Client k)

unfoldable pub breaks_F01 : Moment → Bool
breaks_F01 k = is_some_and (λ p. not p.duplicate && p.retain) (sent_publish (note k)) && lacks_retain (connack_before Client k)

-- F02: whenever a SUBSCRIBE is sent after a CONNACK with Wildcard Subscription Available 0, no filter has a wildcard; one of a shared subscription has none after its name.
unfoldable pub applies_F02 : Moment → Bool
applies_F02 k = is_some (sent_wishes (note k)) && lacks_wildcards (connack_before Client k)

unfoldable pub breaks_F02 : Moment → Bool
breaks_F02 k = is_some_and (λ w. w.has_wildcard) (sent_wishes (note k)) && lacks_wildcards (connack_before Client k)

-- F03: whenever a SUBSCRIBE is sent after a CONNACK with Subscription Identifier Available 0, it has no Subscription Identifier.
unfoldable pub applies_F03 : Moment → Bool
applies_F03 k = is_some (sent_wishes (note k)) && lacks_identifiers (connack_before Client k)

unfoldable pub breaks_F03 : Moment → Bool
breaks_F03 k = is_some_and (λ w. is_some w.subscription_identifier) (sent_wishes (note k)) && lacks_identifiers (connack_before Client k)

-- F04: whenever a SUBSCRIBE is sent after a CONNACK with Shared Subscription Available 0, no filter asks for a shared subscription.
unfoldable pub applies_F04 : Moment → Bool
applies_F04 k = is_some (sent_wishes (note k)) && lacks_shares (connack_before Client k)

unfoldable pub breaks_F04 : Moment → Bool
breaks_F04 k = is_some_and (λ w. w.has_share) (sent_wishes (note k)) && lacks_shares (connack_before Client k)

-- F05: whenever a CONNACK with a Maximum QoS, or of code 0x9B (QoS not supported), answers a CONNECT with a Will, it accepts only a Will QoS up to that maximum.
unfoldable pub applies_F05 : Moment → Bool
applies_F05 k = is_some_and (λ c. is_some c.maximum_qos || (c.code == 155)) (sent_connack (note k)) && is_some (will_in (connect_before Server k))

unfoldable pub breaks_F05 : Moment → Bool
breaks_F05 k = is_some_and (λ c. (c.code == 0) && is_some_and (λ w. is_some_and (λ most. nat_lt most (qos_number w.qos)) c.maximum_qos) (will_in (connect_before Server k))) (sent_connack (note k))

-- F06: whenever a CONNACK with Retain Available 0, or of code 0x9A (Retain not supported), answers a CONNECT with a Will, it accepts only Will Retain 0.
unfoldable pub applies_F06 : Moment → Bool
applies_F06 k = is_some_and (λ c. is_id 0 c.retain_available || (c.code == 154)) (sent_connack (note k)) && is_some (will_in (connect_before Server k))

unfoldable pub breaks_F06 : Moment → Bool
breaks_F06 k = is_some_and (λ c. (c.code == 0) && is_id 0 c.retain_available) (sent_connack (note k)) && is_some_and (λ w. w.retain) (will_in (connect_before Server k))

-- V03: whenever a SUBSCRIBE is sent that asks for a shared subscription, each has a name without wildcards and a filter after it.
unfoldable pub applies_V03 : Moment → Bool
applies_V03 k = is_some_and (λ w. w.has_share) (sent_wishes (note k))

unfoldable pub breaks_V03 : Moment → Bool
breaks_V03 k = is_some_and (λ w. w.has_share && w.has_misnamed_share) (sent_wishes (note k))

-- V04: whenever a SUBSCRIBE is sent that asks for a shared subscription, none has No Local 1.
unfoldable pub applies_V04 : Moment → Bool
applies_V04 k = is_some_and (λ w. w.has_share) (sent_wishes (note k))

unfoldable pub breaks_V04 : Moment → Bool
breaks_V04 k = is_some_and (λ w. w.has_share && w.has_no_local_share) (sent_wishes (note k))

-- V06: whenever a DISCONNECT is sent, or by a client a PUBACK or PUBREC, its Reason Code isn't one that only the other end may send.
unfoldable pub applies_V06 : Role → Moment → Bool
applies_V06 Client k = is_some (sent_disconnect (note k)) || is_some (sent_receipt_code (note k))
applies_V06 Server k = is_some (sent_disconnect (note k))

unfoldable pub breaks_V06 : Role → Moment → Bool
breaks_V06 Client k = is_some_and (λ d. is_code_of_servers d.code) (sent_disconnect (note k)) || is_some_and is_receipt_of_servers (sent_receipt_code (note k))
breaks_V06 Server k = is_some_and (λ d. is_code_of_clients d.code) (sent_disconnect (note k))

-- A01: whatever is sent but a CONNECT, after a CONNECT with an Authentication Method and before a CONNACK was heard, is an AUTH or a DISCONNECT.
unfoldable pub applies_A01 : Moment → Bool
applies_A01 k = sends_typed k && (not (sends_type types.Connect (note k)) && is_authenticating k)

unfoldable pub breaks_A01 : Moment → Bool
breaks_A01 k = sends_typed k && (not (sends_type types.Connect (note k) || (sends_type types.Auth (note k) || sends_type types.Disconnect (note k))) && is_authenticating k)

-- A02: whenever an AUTH is sent after the CONNECT, or by a server a CONNACK with an Authentication Method, the CONNECT had a method.
unfoldable pub applies_A02 : Role → Moment → Bool
applies_A02 Client k = sends_auth (note k) && is_some (connect_before Client k)
applies_A02 Server k = (sends_auth (note k) && is_some (connect_before Server k)) || (is_some (sent_connack (note k)) && lacks_method (connect_before Server k))

unfoldable pub breaks_A02 : Role → Moment → Bool
breaks_A02 Client k = sends_auth (note k) && lacks_method (connect_before Client k)
breaks_A02 Server k = (sends_auth (note k) || is_some_and (λ c. c.has_authentication_method) (sent_connack (note k))) && lacks_method (connect_before Server k)

-- A03: whenever an AUTH with more than its fixed header is sent after a CONNECT with an Authentication Method, or by a server an accepting CONNACK, it has that method.
unfoldable pub applies_A03 : Role → Moment → Bool
applies_A03 role k = has_to_name role (note k) && is_some (method_before role k)

unfoldable pub breaks_A03 : Role → Moment → Bool
breaks_A03 role k = has_to_name role (note k) && is_some_and (λ method. not (names_method (note k) method)) (method_before role k)
