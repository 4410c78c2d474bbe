-- The packets by their fields, apart from where their bytes are in memory (MQTT 5.0, 3.1 to 3.15).
use Rattle.std.specs.Prelude.{ℕ, Bool, true, false, List, [], Option}
use Rattle.mq_props.specs.declared.table.Place.{Place}
use Rattle.mq_props.specs.declared.table.Place.TheVariants as places
use Rattle.mq_props.specs.Values.{Property}
use Rattle.mq_props.specs.Listed.{Listed}
use Rattle.mq_packet.specs.declared.packet.Qos.{Qos}
use Rattle.mq_packet.specs.declared.packet.AcknowledgementKind.{AcknowledgementKind}
use Rattle.mq_packet.specs.declared.packet.AcknowledgementKind.TheVariants as acknowledgements
use Rattle.mq_packet.specs.declared.packet.ReasonPacketKind.{ReasonPacketKind}
use Rattle.mq_packet.specs.declared.packet.ReasonPacketKind.TheVariants as endings
use Rattle.mq_packet.specs.declared.packet.RequestKind.{RequestKind}
use Rattle.mq_packet.specs.declared.packet.RequestKind.TheVariants as requests
use Rattle.mq_packet.specs.ReasonCodes.{puback_codes, pubrec_codes, pubrel_codes, pubcomp_codes, suback_codes, unsuback_codes, disconnect_codes, auth_codes}

-- A property list of a place with these properties.
abbrev pub listed : Place → List Property → Listed
listed place items = record { place = place; items = items }

-- The empty property list of a place.
abbrev pub none_listed : Place → Listed
none_listed place = listed place []

-- The Will of a CONNECT (3.1.2.5 to 3.1.2.7, 3.1.3.2 to 3.1.3.4).
pub record WillFields : Type 0 where
  pub qos : Qos
  pub retain : Bool
  pub properties : Listed
  pub topic : List ℕ
  pub payload : List ℕ

-- CONNECT (3.1).
pub record ConnectFields : Type 0 where
  pub clean_start : Bool
  pub keep_alive : ℕ
  pub properties : Listed
  pub client_identifier : List ℕ
  pub will : Option WillFields
  pub user_name : Option (List ℕ)
  pub password : Option (List ℕ)

-- PUBLISH (3.3).
pub record PublishFields : Type 0 where
  pub duplicate : Bool
  pub qos : Qos
  pub retain : Bool
  pub topic : List ℕ
  pub identifier : Option ℕ
  pub properties : Listed
  pub payload : List ℕ

-- A Topic Filter, with its Subscription Options in a SUBSCRIBE (3.8.3), without them in an UNSUBSCRIBE (3.10.3).
pub record AskedFilter : Type 0 where
  pub filter : List ℕ
  pub options : Option ℕ

-- The fifteen Control Packets (2.1.2). PUBACK, PUBREC, PUBREL and PUBCOMP have the same fields, and so have SUBSCRIBE and
-- UNSUBSCRIBE, and their answers.
pub data Entry : Type 0 where
  connect : ConnectFields → Entry
  connack : (session_present : Bool) (code : ℕ) (properties : Listed) → Entry
  publish : PublishFields → Entry
  acknowledgement : (kind : AcknowledgementKind) (identifier code : ℕ) (properties : Listed) → Entry
  request : (kind : RequestKind) (identifier : ℕ) (properties : Listed) (filters : List AskedFilter) → Entry
  answer : (kind : RequestKind) (identifier : ℕ) (properties : Listed) (codes : List ℕ) → Entry
  pingreq : Entry
  pingresp : Entry
  disconnect : (code : ℕ) (properties : Listed) → Entry
  auth : (code : ℕ) (properties : Listed) → Entry

-- The place of an acknowledgement's property list.
abbrev pub acknowledgement_place : AcknowledgementKind → Place
acknowledgement_place acknowledgements.Puback = places.Puback
acknowledgement_place acknowledgements.Pubrec = places.Pubrec
acknowledgement_place acknowledgements.Pubrel = places.Pubrel
acknowledgement_place acknowledgements.Pubcomp = places.Pubcomp

-- The Reason Codes of an acknowledgement (3.4.2.1, 3.5.2.1, 3.6.2.1, 3.7.2.1).
abbrev pub acknowledgement_codes : AcknowledgementKind → List ℕ
acknowledgement_codes acknowledgements.Puback = puback_codes
acknowledgement_codes acknowledgements.Pubrec = pubrec_codes
acknowledgement_codes acknowledgements.Pubrel = pubrel_codes
acknowledgement_codes acknowledgements.Pubcomp = pubcomp_codes

-- The place of the property list of a SUBSCRIBE or UNSUBSCRIBE, and of its answer.
abbrev pub request_place : RequestKind → Place
request_place requests.Subscribe = places.Subscribe
request_place requests.Unsubscribe = places.Unsubscribe

abbrev pub answer_place : RequestKind → Place
answer_place requests.Subscribe = places.Suback
answer_place requests.Unsubscribe = places.Unsuback

-- The Reason Codes of an answer (3.9.3, 3.11.3).
abbrev pub answer_codes : RequestKind → List ℕ
answer_codes requests.Subscribe = suback_codes
answer_codes requests.Unsubscribe = unsuback_codes

-- Each filter of a SUBSCRIBE has options, and no filter of an UNSUBSCRIBE (3.8.3, 3.10.3).
abbrev pub has_options : RequestKind → Bool
has_options requests.Subscribe = true
has_options requests.Unsubscribe = false

-- DISCONNECT and AUTH, which have the same fields, the places of their property lists, and their Reason Codes (3.14.2.1,
-- 3.15.2.1).
abbrev pub reason_packet : ReasonPacketKind → ℕ → Listed → Entry
reason_packet endings.Disconnect code properties = disconnect code properties
reason_packet endings.Auth code properties = auth code properties

abbrev pub reason_packet_place : ReasonPacketKind → Place
reason_packet_place endings.Disconnect = places.Disconnect
reason_packet_place endings.Auth = places.Auth

abbrev pub reason_packet_codes : ReasonPacketKind → List ℕ
reason_packet_codes endings.Disconnect = disconnect_codes
reason_packet_codes endings.Auth = auth_codes
