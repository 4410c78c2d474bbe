-- Packets that are Protocol Errors where a server receives them: they can be read, but aren't allowed there (MQTT 5.0, sections 1.2 and 4.13.1). A SUBSCRIBE with a filter that the
-- server doesn't take, since it has no wildcards or shared subscriptions, isn't among them: a SUBACK may refuse that filter alone (section 3.9.3). Only packets count: bytes that
-- break a rule are what D01 is about, and a second CONNECT is what D02 is about.
use Rattle.std.specs.Prelude.{ℕ, ◌==◌, nat_lt, Bool, true, false, ◌&&◌, ◌||◌, not, Option, is_some, unwrap_or}
use Rattle.std.specs.Option.{option_and_then}
use Rattle.mq_packet.specs.declared.packet.PacketType.TheVariants as types
use Rattle.mq_rules.specs.declared.role.Role.TheVariants.{Server}
use Rattle.mq_rules.specs.declared.note.Note.{Note}
use Rattle.mq_rules.specs.declared.note.ItemNote.{ItemNote}
use Rattle.mq_rules.specs.declared.packet_note.PacketNote.{PacketNote}
use Rattle.mq_rules.specs.declared.packet_note.PacketFields.{PacketFields}
use Rattle.mq_rules.specs.declared.packet_note.PacketFields.TheVariants.{Connack, Suback, Unsuback, Pingresp}
use Rattle.mq_rules.specs.declared.packet_note.ConnectNote.{ConnectNote}
use Rattle.mq_rules.specs.declared.packet_note.ConnackNote.{ConnackNote}
use Rattle.mq_rules.specs.declared.packet_note.PublishNote.{PublishNote}
use Rattle.mq_rules.specs.declared.packet_note.WishesNote.{WishesNote}
use Rattle.mq_rules.specs.declared.packet_note.DisconnectNote.{DisconnectNote}
use Rattle.mq_rules.specs.Words.{is_some_and, is_id, only}
use Rattle.mq_rules.specs.Notes.{connect_in, disconnect_in, is_auth, is_broken, is_of_type, publish_in, qos_number, received_item, received_packet, received_publish, receives_type, wishes_in}
use Rattle.mq_rules.specs.Moments.{Moment, note}
use Rattle.mq_rules.specs.Pasts.{came_before, connack_before, connect_before}
use Rattle.mq_rules.specs.FurtherPasts.{lacks_identifiers, lacks_method, lacks_retain}

-- ---- Topic Aliases (MQTT 5.0, section 3.3.2.3.4)

-- the Topic Alias that the client sets: a PUBLISH is received with it and a Topic Name
abbrev pub alias_received : Note → Option ℕ
alias_received n = option_and_then (λ p. only (not p.uses_alias) p.topic_alias) (received_publish n)

-- bytes of a PUBLISH that break a rule: the server may have read them all the same, and a Topic Alias that they set
abbrev pub is_broken_publish : ItemNote → Bool
is_broken_publish item = is_broken item && is_of_type types.Publish item

abbrev pub receives_broken_publish : Note → Bool
receives_broken_publish n = is_some_and is_broken_publish (received_item n)

-- the client set the Topic Alias on the moment's connection before it, or may have done so
abbrev pub was_set_before : Moment → ℕ → Bool
was_set_before k alias = came_before receives_broken_publish k || came_before (λ n. is_id alias (alias_received n)) k

-- ---- errors whatever the server announced

-- a packet that only a server sends (MQTT 5.0, section 2.1.2)
abbrev pub is_of_servers : PacketFields → Bool
is_of_servers (Connack c method) = true
is_of_servers (Suback identifier codes) = true
is_of_servers (Unsuback identifier codes) = true
is_of_servers Pingresp = true
is_of_servers _ = false

-- something else than a CONNECT, though none came before (MQTT 5.0, section 3.1); the flag says whether one did
abbrev pub precedes_connect : Bool → PacketFields → Bool
precedes_connect connected fields = not connected && not (is_some (connect_in fields))

-- an AUTH, though the CONNECT had no Authentication Method (MQTT 5.0, section 4.12)
abbrev pub authenticates_unasked : Option ConnectNote → PacketFields → Bool
authenticates_unasked connect fields = is_auth fields && lacks_method connect

-- a DISCONNECT with a Session Expiry Interval other than 0, though that of the CONNECT was 0, or absent (MQTT 5.0, section 3.14.2.2.2)
abbrev pub has_interval : DisconnectNote → Bool
has_interval d = is_some_and (λ seconds. not (seconds == 0)) d.session_expiry

abbrev pub has_no_interval : ConnectNote → Bool
has_no_interval c = unwrap_or c.session_expiry 0 == 0

abbrev pub prolongs_session : Option ConnectNote → PacketFields → Bool
prolongs_session connect fields = is_some_and has_interval (disconnect_in fields) && is_some_and has_no_interval connect

-- one of these
abbrev pub is_out_of_place : Bool → Option ConnectNote → PacketFields → Bool
is_out_of_place connected connect fields =
    is_of_servers fields || (precedes_connect connected fields || (authenticates_unasked connect fields || prolongs_session connect fields))

-- ---- errors by what the CONNACK announced, which accepted the connection

-- a packet above the server's Maximum Packet Size (MQTT 5.0, section 3.2.2.3.6)
abbrev pub is_too_large : Option ConnackNote → PacketNote → Bool
is_too_large connack p = is_some_and (λ most. nat_lt most p.size) (option_and_then (λ a. a.maximum_packet_size) connack)

-- a PUBLISH whose Topic Alias is above the server's Topic Alias Maximum, 0 by default (MQTT 5.0, section 3.2.2.3.8)
abbrev pub has_high_alias : Option ConnackNote → PublishNote → Bool
has_high_alias connack p = is_some_and (λ alias. nat_lt (unwrap_or (option_and_then (λ a. a.topic_alias_maximum) connack) 0) alias) p.topic_alias

-- one whose Topic Alias stands for a Topic Name, but is none of these, which are set (MQTT 5.0, section 3.3.2.3.4)
abbrev pub is_unset : (ℕ → Bool) → Option ℕ → Bool
is_unset set alias = is_some_and (λ alias. not (set alias)) alias

abbrev pub has_unset_alias : (ℕ → Bool) → PublishNote → Bool
has_unset_alias set p = p.uses_alias && is_unset set p.topic_alias

-- one above the server's Maximum QoS, 2 by default (MQTT 5.0, section 3.2.2.3.4)
abbrev pub has_high_qos : Option ConnackNote → PublishNote → Bool
has_high_qos connack p = nat_lt (unwrap_or (option_and_then (λ a. a.maximum_qos) connack) 2) (qos_number p.qos)

-- one with RETAIN 1 where Retain Available is 0 (MQTT 5.0, section 3.2.2.3.5)
abbrev pub retains_in_vain : Option ConnackNote → PublishNote → Bool
retains_in_vain connack p = p.retain && lacks_retain connack

-- one of these, or a PUBLISH with a Subscription Identifier, which only a server sends (MQTT 5.0, section 3.3.4)
abbrev pub is_wrong_publish : (ℕ → Bool) → Option ConnackNote → PublishNote → Bool
is_wrong_publish set connack p =
    has_high_alias connack p || (has_unset_alias set p || (p.has_subscription_identifier || (has_high_qos connack p || retains_in_vain connack p)))

-- a SUBSCRIBE with No Local for a shared subscription (MQTT 5.0, section 3.8.3.1), or with a Subscription Identifier where those are unavailable (section 3.2.2.3.12)
abbrev pub is_wrong_subscribe : Option ConnackNote → WishesNote → Bool
is_wrong_subscribe connack w = w.has_no_local_share || (is_some w.subscription_identifier && lacks_identifiers connack)

-- the CONNACK is there, and accepts the connection
abbrev pub accepts_connection : Option ConnackNote → Bool
accepts_connection connack = is_some_and (λ a. a.code == 0) connack

-- one of these
abbrev pub breaks_terms : (ℕ → Bool) → Option ConnackNote → PacketNote → Bool
breaks_terms set connack p =
    accepts_connection connack
    && (is_too_large connack p || (is_some_and (is_wrong_publish set connack) (publish_in p.fields) || is_some_and (is_wrong_subscribe connack) (wishes_in p.fields)))

-- ---- a Protocol Error

-- A packet is one, where a CONNECT was received before or not, with this one, this CONNACK was sent before, and these Topic Aliases are set.
abbrev pub is_error : Bool → Option ConnectNote → Option ConnackNote → (ℕ → Bool) → PacketNote → Bool
is_error connected connect connack set p = is_out_of_place connected connect p.fields || breaks_terms set connack p

-- A packet is received that is one, by what came before it on its connection. A CONNECT whose bytes break a rule is one too, which the server may have read all the same.
abbrev pub is_protocol_error : Moment → Bool
is_protocol_error k = is_some_and (is_error (came_before (receives_type types.Connect) k) (connect_before Server k) (connack_before Server k) (was_set_before k)) (received_packet (note k))
