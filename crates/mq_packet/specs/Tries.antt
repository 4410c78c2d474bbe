-- Which rules on a packet's bytes a valid packet puts to the test: it has the part that the rule is about (MQTT 5.0, sections 2 and 3).
use Rattle.std.specs.Prelude.{ℕ, ◌==◌, nat_lt, Bool, true, false, ◌||◌, not, length, Option, Some, None, is_some}
use Rattle.mq_props.specs.Having.{any_property, has_text, has_range, is_single}
use Rattle.mq_props.specs.Identifiers.{response_topic}
use Rattle.mq_props.specs.Listed.{Listed}
use Rattle.mq_packet.specs.declared.packet.Qos.{Qos}
use Rattle.mq_packet.specs.declared.packet.Qos.TheVariants as quality
use Rattle.mq_packet.specs.declared.packet.PacketType.{PacketType}
use Rattle.mq_packet.specs.declared.packet.PacketType.TheVariants as types
use Rattle.mq_packet.specs.declared.rule.PacketRule.{PacketRule}
use Rattle.mq_packet.specs.declared.trying.ListQuestion.{ListQuestion}
use Rattle.mq_packet.specs.declared.trying.ListQuestion.TheVariants as questions
use Rattle.mq_packet.specs.declared.rule.PacketRule.TheVariants.{W01, W02, W03, W04, W05, W06, W07, W08, W09, W10, W11, W12, W13, W14, W15, W16, W17, W18, W19, W20, W21}
use Rattle.mq_packet.specs.Canonical.{type_of, type_number}
use Rattle.mq_packet.specs.Entries.{Entry, WillFields, PublishFields, connect, connack, publish, acknowledgement, request, answer, disconnect, auth}

-- ---- the parts of a packet

-- it is of the type (2.1.2)
abbrev pub is_type : PacketType → Entry → Bool
is_type packet_type packet = type_number (type_of packet) == type_number packet_type

-- it is a SUBSCRIBE or an UNSUBSCRIBE, which have Topic Filters (3.8, 3.10)
abbrev pub is_request : Entry → Bool
is_request packet = is_type types.Subscribe packet || is_type types.Unsubscribe packet

-- it is a PUBLISH of which this is so (3.3)
abbrev pub is_publish_that : (PublishFields → Bool) → Entry → Bool
is_publish_that test (publish p) = test p
is_publish_that test _ = false

-- QoS 0 (4.3.1)
abbrev pub is_at_most_once : Qos → Bool
is_at_most_once quality.AtMostOnce = true
is_at_most_once quality.AtLeastOnce = false
is_at_most_once quality.ExactlyOnce = false

-- its Topic Name isn't empty, so that no Topic Alias stands for it (3.3.2.1)
abbrev pub is_named : PublishFields → Bool
is_named p = not (length p.topic == 0)

-- it has a Response Topic (3.3.2.3.5)
abbrev pub asks_for_response : PublishFields → Bool
asks_for_response p = any_property (λ id. id == response_topic) p.properties.items

-- it has a Packet Identifier (2.2.1)
abbrev pub is_identified : Entry → Bool
is_identified (publish p) = is_some p.identifier
is_identified (acknowledgement kind identifier code properties) = true
is_identified (request kind identifier properties filters) = true
is_identified (answer kind identifier properties codes) = true
is_identified _ = false

-- A Reason Code is written in it, by its size in bytes (2.4): a PUBACK, PUBREC, PUBREL or PUBCOMP may end after its Packet
-- Identifier, a DISCONNECT or AUTH after its fixed header, and a SUBACK or UNSUBACK may have no code.
abbrev pub writes_code : ℕ → Entry → Bool
writes_code size (connack session_present code properties) = true
writes_code size (acknowledgement kind identifier code properties) = nat_lt 4 size
writes_code size (answer kind identifier properties codes) = not (length codes == 0)
writes_code size (disconnect code properties) = nat_lt 2 size
writes_code size (auth code properties) = nat_lt 2 size
writes_code size _ = false

-- ---- its property lists

-- this is so of the property list of a Will, if there is one (3.1.3.2)
abbrev pub in_will : (Listed → Bool) → Option WillFields → Bool
in_will test None = false
in_will test (Some will) = test will.properties

-- this is so of a property list of the packet: its own, or that of its Will
abbrev pub in_lists : (Listed → Bool) → Entry → Bool
in_lists test (connect c) = test c.properties || in_will test c.will
in_lists test (connack session_present code properties) = test properties
in_lists test (publish p) = test p.properties
in_lists test (acknowledgement kind identifier code properties) = test properties
in_lists test (request kind identifier properties filters) = test properties
in_lists test (answer kind identifier properties codes) = test properties
in_lists test (disconnect code properties) = test properties
in_lists test (auth code properties) = test properties
in_lists test _ = false

-- the list has a property (2.2.2.2)
abbrev pub has_property : Listed → Bool
has_property list = any_property (λ id. true) list.items

-- it has one with a text (1.5.4)
abbrev pub has_textual : Listed → Bool
has_textual list = any_property has_text list.items

-- it has one that may not have each value of its type
abbrev pub has_ranged : Listed → Bool
has_ranged list = any_property has_range list.items

-- it has one that may be there only once
abbrev pub has_single : Listed → Bool
has_single list = any_property (is_single list.place) list.items

-- what a question asks of a list
abbrev pub asks : ListQuestion → Listed → Bool
asks questions.Any list = has_property list
asks questions.Text list = has_textual list
asks questions.Range list = has_ranged list
asks questions.Single list = has_single list

-- it has a text: a Client Identifier, Topic Filters, a Topic Name, or a property with one (1.5.4)
abbrev pub is_texted : Entry → Bool
is_texted packet = (is_type types.Connect packet || is_request packet || is_publish_that is_named packet) || in_lists (asks questions.Text) packet

-- ---- the rules

-- A packet of this size in bytes puts the rule to the test. Each packet has a type, a Remaining Length and an end (W02, W03, W06). The flags of a PUBLISH have a meaning,
-- those of all others are reserved (W01).
unfoldable pub tries : PacketRule → ℕ → Entry → Bool
tries W01 size packet = not (is_type types.Publish packet)
tries W02 size packet = true
tries W03 size packet = true
tries W04 size packet = is_texted packet
tries W05 size packet = is_texted packet
tries W06 size packet = true
tries W07 size packet = is_type types.Publish packet
tries W08 size packet = is_publish_that (λ p. is_at_most_once p.qos) packet
tries W09 size packet = is_identified packet
tries W10 size packet = in_lists (asks questions.Any) packet
tries W11 size packet = in_lists (asks questions.Single) packet
tries W12 size packet = in_lists (asks questions.Range) packet
tries W13 size packet = writes_code size packet
tries W14 size packet = is_publish_that (λ p. is_named p || asks_for_response p) packet
tries W15 size packet = is_request packet
tries W16 size packet = is_request packet
tries W17 size packet = is_type types.Subscribe packet
tries W18 size packet = is_type types.Connect packet
tries W19 size packet = is_type types.Connect packet
tries W20 size packet = is_type types.Connack packet
tries W21 size packet = is_publish_that (λ p. not (is_named p)) packet
