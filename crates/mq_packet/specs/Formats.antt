-- The formats of the packets (MQTT 5.0, 3.1 to 3.15): which fields each has, in their order, and which values of a field
-- are valid.
use Rattle.std.specs.Prelude.{ℕ, ◌==◌, nat_lt, Bool, true, false, ◌&&◌, ◌||◌, not, if◌then◌else◌, List, length, Option, Some, None, is_some, bit_and, bytes_eq, codes}
use Rattle.std.specs.List.{list_any}
use Rattle.mq_topic.specs.Levels.{is_name, filter_fault}
use Rattle.mq_props.specs.declared.table.Place.{Place}
use Rattle.mq_props.specs.declared.table.Place.TheVariants as places
use Rattle.mq_props.specs.Identifiers.{topic_alias}
use Rattle.mq_props.specs.Values.{Property}
use Rattle.mq_props.specs.First.{first_two_bytes}
use Rattle.mq_props.specs.Listed.{Listed}
use Rattle.mq_packet.specs.ReasonCodes.{connack_codes}
use Rattle.mq_packet.specs.declared.packet.Qos.{Qos}
use Rattle.mq_packet.specs.declared.packet.Qos.TheVariants.{AtMostOnce, AtLeastOnce, ExactlyOnce}
use Rattle.mq_packet.specs.declared.packet.AcknowledgementKind.{AcknowledgementKind}
use Rattle.mq_packet.specs.declared.packet.AcknowledgementKind.TheVariants as acknowledgements
use Rattle.mq_packet.specs.declared.packet.ReasonPacketKind.{ReasonPacketKind}
use Rattle.mq_packet.specs.declared.packet.ReasonPacketKind.TheVariants as endings
use Rattle.mq_packet.specs.declared.packet.RequestKind.{RequestKind}
use Rattle.mq_packet.specs.declared.packet.RequestKind.TheVariants as requests
use Rattle.mq_packet.specs.declared.packet.PacketType.{PacketType}
use Rattle.mq_packet.specs.declared.packet.PacketType.TheVariants as types
use Rattle.mq_packet.specs.declared.rule.PacketRule.{PacketRule}
use Rattle.mq_packet.specs.declared.rule.PacketRule.TheVariants as rules
use Rattle.mq_packet.specs.FirstBytes.{reserved_flags, type_in, flags_in, are_flags}
use Rattle.mq_packet.specs.Entries.{Entry, connect, connack, publish, acknowledgement, request, answer, pingreq, pingresp, WillFields, AskedFilter, listed, none_listed, acknowledgement_place, acknowledgement_codes, request_place, answer_place, answer_codes, has_options, reason_packet, reason_packet_place, reason_packet_codes}

-- The kinds of field: a byte, a Two Byte Integer (1.5.2), a UTF-8 Encoded String (1.5.4), Binary Data (1.5.6), and the
-- property list of a place (2.2.2).
pub data Kind : Type 0 where
  byte two_bytes text binary : Kind
  properties : Place → Kind

-- The values of a kind of field.
abbrev pub ValueOf : Kind → Type 0
ValueOf byte = ℕ
ValueOf two_bytes = ℕ
ValueOf text = List ℕ
ValueOf binary = List ℕ
ValueOf (properties place) = List Property

-- Why a value is invalid: it breaks a rule, or it is another version of the protocol.
pub data Objection : Type 0 where
  breaks : PacketRule → Objection
  other_version : ℕ → Objection

-- The format of what is left of a packet.
pub data Format : Type 0 where
  -- nothing is left: it is this packet
  done : Entry → Format
  -- any bytes, from which this packet is made
  rest : (List ℕ → Entry) → Format
  -- Reason Codes of this table, one after another, from which this packet is made
  all_codes : List ℕ → (List ℕ → Entry) → Format
  -- Topic Filters, at least one, one after another, each with options after it if they are asked for, from which this packet
  -- is made
  all_filters : Bool → (List AskedFilter → Entry) → Format
  -- the first byte breaks this rule
  bad_first_byte : PacketRule → Format
  -- a field, whose value may be objected to, and then what its value decides
  field : (kind : Kind) → (ValueOf kind → Option Objection) → (ValueOf kind → Format) → Format
  -- the first format if nothing is left, else the second
  at_end : Format → Format → Format

-- The objection to a value: none if it is good, else it breaks the rule.
abbrev pub unless_broken : Bool → PacketRule → Option Objection
unless_broken good rule = if good then None else Some (breaks rule)

-- Each value is valid.
abbrev pub any_value : {A : Type 0} → A → Option Objection
any_value value = None

-- Some of these bits are set in the byte.
abbrev pub has_bits : ℕ → ℕ → Bool
has_bits mask bits = not (bit_and bits mask == 0)

-- The protocol's name is `MQTT` (3.1.2.1).
abbrev pub name_objection : List ℕ → Option Objection
name_objection name = unless_broken (bytes_eq name (codes "MQTT")) rules.W18

-- Its version is 5 (3.1.2.2).
abbrev pub version_objection : ℕ → Option Objection
version_objection version = if version == 5 then None else Some (other_version version)

-- The Connect Flags (3.1.2.3): bit 0 is reserved; bits 4 and 3, the Will QoS, aren't 3; and if bit 2, the Will Flag, isn't set,
-- then neither are they, nor is bit 5, Will Retain.
abbrev pub are_connect_flags : ℕ → Bool
are_connect_flags flags =
    not (has_bits 1 flags) && (not (bit_and flags 24 == 24) && (has_bits 4 flags || not (has_bits 56 flags)))

abbrev pub connect_flags_objection : ℕ → Option Objection
connect_flags_objection flags = unless_broken (are_connect_flags flags) rules.W19

-- Of the Connect Acknowledge Flags (3.2.2.1) only Session Present, bit 0, may be set.
abbrev pub connack_flags_objection : ℕ → Option Objection
connack_flags_objection flags = unless_broken (nat_lt flags 2) rules.W20

-- A Reason Code is one of the packet's (2.4).
abbrev pub is_code : List ℕ → ℕ → Bool
is_code table code = list_any (λ c. c == code) table

abbrev pub code_objection : List ℕ → ℕ → Option Objection
code_objection table code = unless_broken (is_code table code) rules.W13

-- A Packet Identifier isn't 0 (2.2.1).
abbrev pub identifier_objection : ℕ → Option Objection
identifier_objection identifier = unless_broken (not (identifier == 0)) rules.W09

-- A Topic Name has no wildcard (3.3.2.1).
abbrev pub topic_objection : List ℕ → Option Objection
topic_objection topic = unless_broken (is_name topic) rules.W14

-- If the Topic Name is empty, the properties have a Topic Alias (3.3.2.1, 3.3.2.3.4).
abbrev pub names_topic : List ℕ → List Property → Bool
names_topic topic list = not (length topic == 0) || is_some (first_two_bytes topic_alias list)

abbrev pub alias_objection : List ℕ → List Property → Option Objection
alias_objection topic list = unless_broken (names_topic topic list) rules.W21

-- A Topic Filter is valid (4.7.1).
abbrev pub is_filter : List ℕ → Bool
is_filter filter = not (is_some (filter_fault filter))

abbrev pub filter_objection : List ℕ → Option Objection
filter_objection filter = unless_broken (is_filter filter) rules.W15

-- The Subscription Options (3.8.3.1): bits 1 and 0, the Maximum QoS, aren't 3; bits 5 and 4, Retain Handling, aren't 3; bits
-- 7 and 6 are reserved.
abbrev pub are_options : ℕ → Bool
are_options options = not (bit_and options 3 == 3) && (not (bit_and options 48 == 48) && not (has_bits 192 options))

abbrev pub options_objection : ℕ → Option Objection
options_objection options = unless_broken (are_options options) rules.W17

-- A field that is there only if its flag is set, and then what it decides.
abbrev pub field_if : Bool → (kind : Kind) → (Option (ValueOf kind) → Format) → Format
field_if false kind next = next None
field_if true kind next = field kind any_value (λ value. next (Some value))

-- The QoS that two bits name, the lower of this weight, if they aren't both set (3.1.2.6, 3.3.1.2).
abbrev pub qos_of : ℕ → ℕ → Qos
qos_of weight bits = if bits == 0 then AtMostOnce else if bits == weight then AtLeastOnce else ExactlyOnce

-- The Will that the Connect Flags announce (3.1.3.2 to 3.1.3.4).
abbrev pub will_if : Bool → ℕ → (Option WillFields → Format) → Format
will_if false flags next = next None
will_if true flags next =
    field (properties places.Will) any_value (λ list.
    field text any_value (λ topic.
    field binary any_value (λ payload.
    next (Some (record { qos = qos_of 8 (bit_and flags 24); retain = has_bits 32 flags; properties = listed places.Will list; topic = topic; payload = payload })))))

-- What follows the Connect Flags (3.1.2.10 to 3.1.3.6): they say whether there is a Will, a User Name (3.1.2.8) and a
-- Password (3.1.2.9).
abbrev pub connect_from : ℕ → Format
connect_from flags =
    field two_bytes any_value (λ keep_alive.
    field (properties places.Connect) any_value (λ list.
    field text any_value (λ client_identifier.
    will_if (has_bits 4 flags) flags (λ will.
    field_if (has_bits 128 flags) text (λ user_name.
    field_if (has_bits 64 flags) binary (λ password.
    done (connect (record { clean_start = has_bits 2 flags; keep_alive = keep_alive; properties = listed places.Connect list; client_identifier = client_identifier; will = will; user_name = user_name; password = password }))))))))

-- CONNECT (3.1).
abbrev pub connect_format : Format
connect_format =
    field text name_objection (λ name.
    field byte version_objection (λ version.
    field byte connect_flags_objection (λ flags.
    connect_from flags)))

-- CONNACK (3.2).
abbrev pub connack_format : Format
connack_format =
    field byte connack_flags_objection (λ flags.
    field byte (code_objection connack_codes) (λ code.
    field (properties places.Connack) any_value (λ list.
    done (connack (flags == 1) code (listed places.Connack list)))))

-- What follows the Packet Identifier of a PUBLISH: properties and the payload (3.3.2.3, 3.3.3).
abbrev pub publish_from : Bool → Qos → Bool → List ℕ → Option ℕ → Format
publish_from duplicate qos retain topic identifier =
    field (properties places.Publish) (alias_objection topic) (λ list.
    rest (λ payload. publish (record { duplicate = duplicate; qos = qos; retain = retain; topic = topic; identifier = identifier; properties = listed places.Publish list; payload = payload })))

-- PUBLISH of QoS 0 (3.3), which has no Packet Identifier.
abbrev pub publish_unacknowledged : Bool → Format
publish_unacknowledged retain =
    field text topic_objection (λ topic.
    publish_from false AtMostOnce retain topic None)

-- PUBLISH of a QoS above 0, which has one (3.3.2.2).
abbrev pub publish_acknowledged : Bool → Qos → Bool → Format
publish_acknowledged duplicate qos retain =
    field text topic_objection (λ topic.
    field two_bytes identifier_objection (λ identifier.
    publish_from duplicate qos retain topic (Some identifier)))

-- PUBLISH by its flags (3.3.1): bit 3 is DUP, bits 2 and 1 are the QoS, bit 0 is RETAIN.
abbrev pub publish_format : ℕ → Format
publish_format flags =
    if bit_and flags 6 == 0 then (if has_bits 8 flags then bad_first_byte rules.W08 else publish_unacknowledged (has_bits 1 flags)) else
    if bit_and flags 6 == 2 then publish_acknowledged (has_bits 8 flags) AtLeastOnce (has_bits 1 flags) else
    if bit_and flags 6 == 4 then publish_acknowledged (has_bits 8 flags) ExactlyOnce (has_bits 1 flags) else
    bad_first_byte rules.W07

-- The property list of a place at the end of a packet. It may be left out if it is empty.
abbrev pub last_properties : Place → (Listed → Entry) → Format
last_properties place packet =
    at_end (done (packet (none_listed place)))
    (field (properties place) any_value (λ list.
    done (packet (listed place list))))

-- PUBACK, PUBREC, PUBREL and PUBCOMP (3.4 to 3.7): if one ends after its identifier, its Reason Code is 0x00; if it ends after
-- its code, it has no properties.
abbrev pub acknowledgement_format : AcknowledgementKind → Format
acknowledgement_format kind =
    field two_bytes identifier_objection (λ identifier.
    at_end (done (acknowledgement kind identifier 0 (none_listed (acknowledgement_place kind))))
    (field byte (code_objection (acknowledgement_codes kind)) (λ code.
    last_properties (acknowledgement_place kind) (acknowledgement kind identifier code))))

-- A Packet Identifier, the properties of a place, and then what both decide (3.8.2 to 3.11.2).
unfoldable pub identified : Place → (ℕ × Listed → Format) → Format
identified place next =
    field two_bytes identifier_objection (λ identifier.
    field (properties place) any_value (λ list.
    next (identifier, listed place list)))

-- SUBSCRIBE and UNSUBSCRIBE (3.8, 3.10).
abbrev pub request_format : RequestKind → Format
request_format kind =
    identified (request_place kind) (λ start.
    all_filters (has_options kind) (request kind start.0 start.1))

-- SUBACK and UNSUBACK (3.9, 3.11).
abbrev pub answer_format : RequestKind → Format
answer_format kind =
    identified (answer_place kind) (λ start.
    all_codes (answer_codes kind) (answer kind start.0 start.1))

-- DISCONNECT (3.14) and AUTH (3.15): an empty one has the Reason Code 0x00; if one ends after its code, it has no properties.
abbrev pub reason_packet_format : ReasonPacketKind → Format
reason_packet_format kind =
    at_end (done (reason_packet kind 0 (none_listed (reason_packet_place kind))))
    (field byte (code_objection (reason_packet_codes kind)) (λ code.
    last_properties (reason_packet_place kind) (reason_packet kind code)))

-- The format of a packet of this type with these flags (2.1.2, 2.1.3).
abbrev pub format_by_type : PacketType → ℕ → Format
format_by_type types.Connect flags = connect_format
format_by_type types.Connack flags = connack_format
format_by_type types.Publish flags = publish_format flags
format_by_type types.Puback flags = acknowledgement_format acknowledgements.Puback
format_by_type types.Pubrec flags = acknowledgement_format acknowledgements.Pubrec
format_by_type types.Pubrel flags = acknowledgement_format acknowledgements.Pubrel
format_by_type types.Pubcomp flags = acknowledgement_format acknowledgements.Pubcomp
format_by_type types.Subscribe flags = request_format requests.Subscribe
format_by_type types.Suback flags = answer_format requests.Subscribe
format_by_type types.Unsubscribe flags = request_format requests.Unsubscribe
format_by_type types.Unsuback flags = answer_format requests.Unsubscribe
format_by_type types.Pingreq flags = done pingreq
format_by_type types.Pingresp flags = done pingresp
format_by_type types.Disconnect flags = reason_packet_format endings.Disconnect
format_by_type types.Auth flags = reason_packet_format endings.Auth

-- The same, if there is such a type and it may have these flags; else the first byte breaks a rule.
abbrev pub format_by : Option PacketType → ℕ → Format
format_by None flags = bad_first_byte rules.W02
format_by (Some type) flags = if are_flags (reserved_flags type) flags then format_by_type type flags else bad_first_byte rules.W01

-- The format of a body after a first byte (2.1.1).
abbrev pub format_of : ℕ → Format
format_of first = format_by (type_in first) (flags_in first)
