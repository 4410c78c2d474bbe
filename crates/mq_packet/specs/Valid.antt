-- Which packets some bytes spell, as a test of their fields (MQTT 5.0, 3.1 to 3.15).
use Rattle.std.specs.Prelude.{ℕ, nat_le, ◌==◌, Bool, true, false, ◌&&◌, not, List, length, Option, Some, None, is_some, IfSome}
use Rattle.std.specs.List.{list_all, AllByRecursion}
use Rattle.std.specs.Str.{IsUtf8}
use Rattle.mq_wire.specs.Spellings.{IsByte, max_two_bytes, IsTwoBytes, IsVarint, has_nul}
use Rattle.mq_topic.specs.Levels.{is_name}
use Rattle.mq_props.specs.declared.table.Place.TheVariants as places
use Rattle.mq_props.specs.Table.{same_place}
use Rattle.mq_props.specs.Values.{body as properties_spelling}
use Rattle.mq_props.specs.Allowed.{AreAllowed}
use Rattle.mq_props.specs.Listed.{Listed}
use Rattle.mq_packet.specs.ReasonCodes.{connack_codes}
use Rattle.mq_packet.specs.declared.packet.Qos.{Qos}
use Rattle.mq_packet.specs.declared.packet.Qos.TheVariants.{AtMostOnce, AtLeastOnce, ExactlyOnce}
use Rattle.mq_packet.specs.declared.packet.AcknowledgementKind.{AcknowledgementKind}
use Rattle.mq_packet.specs.declared.packet.ReasonPacketKind.{ReasonPacketKind}
use Rattle.mq_packet.specs.declared.packet.ReasonPacketKind.TheVariants as endings
use Rattle.mq_packet.specs.declared.packet.RequestKind.{RequestKind}
use Rattle.mq_packet.specs.Entries.{Entry, connect, connack, publish, acknowledgement, request, answer, pingreq, pingresp, disconnect, auth, WillFields, ConnectFields, PublishFields, AskedFilter, acknowledgement_place, acknowledgement_codes, request_place, answer_place, answer_codes, has_options, reason_packet_place, reason_packet_codes}
use Rattle.mq_packet.specs.Formats.{is_code, names_topic, is_filter, are_options}

-- A text has at most 65,535 bytes, and no U+0000 (1.5.4).
abbrev pub is_text : List ℕ → Bool
is_text text = nat_le (length text) max_two_bytes && not (has_nul text)

-- Binary data has at most 65,535 bytes (1.5.6).
abbrev pub is_binary : List ℕ → Bool
is_binary bytes = nat_le (length bytes) max_two_bytes

-- A Packet Identifier isn't 0 (2.2.1).
abbrev pub is_identifier : ℕ → Bool
is_identifier identifier = not (identifier == 0)

-- The field passes the test, if it is there.
abbrev pub if_there : {X : Type 0} → (X → Bool) → Option X → Bool
if_there test None = true
if_there test (Some value) = test value

-- The field is there, and passes the test.
abbrev pub is_there : {X : Type 0} → (X → Bool) → Option X → Bool
is_there test None = false
is_there test (Some value) = test value

-- The Will of a CONNECT (3.1.2.5, 3.1.3.2 to 3.1.3.4).
unfoldable pub valid_will : WillFields → Bool
valid_will will = same_place will.properties.place places.Will && (is_text will.topic && is_binary will.payload)

-- CONNECT (3.1).
unfoldable pub valid_connect : ConnectFields → Bool
valid_connect fields =
    same_place fields.properties.place places.Connect && (is_text fields.client_identifier
    && (if_there valid_will fields.will && (if_there is_text fields.user_name && if_there is_binary fields.password)))

-- CONNACK (3.2).
unfoldable pub valid_connack : ℕ → Listed → Bool
valid_connack code list = same_place list.place places.Connack && is_code connack_codes code

-- At QoS 0 a PUBLISH has DUP 0 and no Packet Identifier; above 0 it has one (3.3.1.1, 2.2.1).
abbrev pub fits_qos : Bool → Qos → Option ℕ → Bool
fits_qos duplicate AtMostOnce identifier = not duplicate && not (is_some identifier)
fits_qos duplicate AtLeastOnce identifier = is_there is_identifier identifier
fits_qos duplicate ExactlyOnce identifier = is_there is_identifier identifier

-- PUBLISH (3.3).
unfoldable pub valid_publish : PublishFields → Bool
valid_publish fields =
    same_place fields.properties.place places.Publish && (fits_qos fields.duplicate fields.qos fields.identifier
    && (is_text fields.topic && (is_name fields.topic && names_topic fields.topic fields.properties.items)))

-- PUBACK, PUBREC, PUBREL and PUBCOMP (3.4 to 3.7).
unfoldable pub valid_acknowledgement : AcknowledgementKind → ℕ → ℕ → Listed → Bool
valid_acknowledgement kind identifier code list =
    same_place list.place (acknowledgement_place kind) && (is_identifier identifier && is_code (acknowledgement_codes kind) code)

-- A filter has options exactly if they are asked for (3.8.3, 3.10.3).
abbrev pub fits_request : Bool → Option ℕ → Bool
fits_request false options = not (is_some options)
fits_request true options = is_there are_options options

unfoldable pub valid_filter : Bool → AskedFilter → Bool
valid_filter asks asked = is_text asked.filter && (is_filter asked.filter && fits_request asks asked.options)

-- SUBSCRIBE and UNSUBSCRIBE (3.8, 3.10).
unfoldable pub valid_filters : Bool → List AskedFilter → Bool
valid_filters asks filters = not (length filters == 0) && list_all (valid_filter asks) filters

unfoldable pub valid_request : RequestKind → ℕ → Listed → List AskedFilter → Bool
valid_request kind identifier list filters =
    same_place list.place (request_place kind) && (is_identifier identifier && valid_filters (has_options kind) filters)

-- SUBACK and UNSUBACK (3.9, 3.11).
unfoldable pub valid_answer : RequestKind → ℕ → Listed → List ℕ → Bool
valid_answer kind identifier list reasons =
    same_place list.place (answer_place kind) && (is_identifier identifier && list_all (is_code (answer_codes kind)) reasons)

-- DISCONNECT (3.14) and AUTH (3.15).
unfoldable pub valid_reason_packet : ReasonPacketKind → ℕ → Listed → Bool
valid_reason_packet kind code list = same_place list.place (reason_packet_place kind) && is_code (reason_packet_codes kind) code

-- Some bytes spell the packet.
abbrev pub valid : Entry → Bool
valid (connect fields) = valid_connect fields
valid (connack session_present code list) = valid_connack code list
valid (publish fields) = valid_publish fields
valid (acknowledgement kind identifier code list) = valid_acknowledgement kind identifier code list
valid (request kind identifier list filters) = valid_request kind identifier list filters
valid (answer kind identifier list reasons) = valid_answer kind identifier list reasons
valid pingreq = true
valid pingresp = true
valid (disconnect code list) = valid_reason_packet endings.Disconnect code list
valid (auth code list) = valid_reason_packet endings.Auth code list

-- What the types of the fields say of any packet, valid or not: a property list is valid in its own place and isn't longer than
-- a length can say, a text is UTF-8, and a number has its width.
pub record IsListed (list : Listed) : Type 0 where
  pub allowed : AreAllowed list.place list.items
  pub bound : IsVarint (length (properties_spelling list.items))

pub record IsWill (will : WillFields) : Type 0 where
  pub properties : IsListed will.properties
  pub topic : IsUtf8 will.topic

pub record IsConnect (fields : ConnectFields) : Type 0 where
  pub keep_alive : IsTwoBytes fields.keep_alive
  pub properties : IsListed fields.properties
  pub client_identifier : IsUtf8 fields.client_identifier
  pub will : IfSome fields.will IsWill
  pub user_name : IfSome fields.user_name IsUtf8

pub record IsPublish (fields : PublishFields) : Type 0 where
  pub topic : IsUtf8 fields.topic
  pub identifier : IfSome fields.identifier IsTwoBytes
  pub properties : IsListed fields.properties

pub record IsIdentified (identifier : ℕ) (list : Listed) : Type 0 where
  pub bound : IsTwoBytes identifier
  pub properties : IsListed list

pub record IsAskedFilter (asked : AskedFilter) : Type 0 where
  pub filter : IsUtf8 asked.filter
  pub options : IfSome asked.options IsByte

pub record IsRequest (identifier : ℕ) (list : Listed) (filters : List AskedFilter) : Type 0 where
  pub identified : IsIdentified identifier list
  pub each : AllByRecursion IsAskedFilter filters

abbrev pub IsTyped : Entry → Type 0
IsTyped (connect fields) = IsConnect fields
IsTyped (connack session_present code list) = IsListed list
IsTyped (publish fields) = IsPublish fields
IsTyped (acknowledgement kind identifier code list) = IsIdentified identifier list
IsTyped (request kind identifier list filters) = IsRequest identifier list filters
IsTyped (answer kind identifier list reasons) = IsIdentified identifier list
IsTyped pingreq = Unit {0}
IsTyped pingresp = Unit {0}
IsTyped (disconnect code list) = IsListed list
IsTyped (auth code list) = IsListed list
