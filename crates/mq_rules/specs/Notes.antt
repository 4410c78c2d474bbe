-- What the statements look at in one event, and what one event is to them.
use Rattle.std.specs.Prelude.{ℕ, ◌/◌, ◌%◌, ◌==◌, nat_le, nat_lt, Bool, true, false, ◌&&◌, ◌||◌, not, cond, if◌then◌else◌, List, [], ◌∷◌, length, map, filter_map, slice_index, Option, Some, None, is_some, unwrap_or, option_map}
use Rattle.std.specs.Option.{option_and_then}
use Rattle.mq_props.specs.Values.{Property}
use Rattle.mq_props.specs.First.{first_byte, first_two_bytes, first_four_bytes, first_varint, as_varint, first_text, first_pair}
use Rattle.mq_packet.specs.declared.packet.Qos.{Qos}
use Rattle.mq_packet.specs.declared.packet.Qos.TheVariants as quality
use Rattle.mq_packet.specs.declared.packet.AcknowledgementKind.{AcknowledgementKind}
use Rattle.mq_packet.specs.declared.packet.AcknowledgementKind.TheVariants as acknowledgements
use Rattle.mq_packet.specs.declared.packet.RequestKind.{RequestKind}
use Rattle.mq_packet.specs.declared.packet.RequestKind.TheVariants as requests
use Rattle.mq_packet.specs.declared.packet.PacketType.{PacketType}
use Rattle.mq_packet.specs.declared.packet.PacketType.TheVariants as types
use Rattle.mq_packet.specs.Canonical.{type_number}
use Rattle.mq_packet.specs.declared.rule.PacketRule.TheVariants as packet_rules
use Rattle.mq_packet.specs.declared.fault.BodyFault.{BodyFault}
use Rattle.mq_packet.specs.Entries.{Entry, AskedFilter, ConnectFields, PublishFields, WillFields, connect, connack, publish, acknowledgement, request, answer, pingreq, pingresp, disconnect, auth}
use Rattle.mq_log.specs.declared.header.Header.{Header}
use Rattle.mq_log.specs.declared.kind.Direction.{Direction}
use Rattle.mq_log.specs.declared.kind.Direction.TheVariants as directions
use Rattle.mq_log.specs.Framing.{header_by}
use Rattle.mq_log.specs.Connections.{is_session_type}
use Rattle.mq_log.specs.Events.{Item, Event, Placed, packet, bad, lost, opened, closed, rested, released, sent, received, events}
use Rattle.mq_rules.specs.declared.role.Role.{Role}
use Rattle.mq_rules.specs.declared.role.Role.TheVariants.{Client, Server}
use Rattle.mq_rules.specs.declared.role.Further.{Further}
use Rattle.mq_rules.specs.declared.role.Tested.{Tested}
use Rattle.mq_rules.specs.declared.fate.Fate.{Fate}
use Rattle.mq_rules.specs.declared.fate.Fate.TheVariants.{Void, New, Resumed}
use Rattle.mq_rules.specs.declared.note.Note.{Note}
use Rattle.mq_rules.specs.declared.note.Note.TheVariants as notes
use Rattle.mq_rules.specs.declared.note.ItemNote.{ItemNote}
use Rattle.mq_rules.specs.declared.note.ItemNote.TheVariants as items
use Rattle.mq_rules.specs.declared.note.Seen.{Seen}
use Rattle.mq_rules.specs.declared.packet_note.PacketNote.{PacketNote}
use Rattle.mq_rules.specs.declared.packet_note.PacketFields.{PacketFields}
use Rattle.mq_rules.specs.declared.packet_note.PacketFields.TheVariants.{Connect, Connack, Publish, Puback, Pubrec, Pubrel, Pubcomp, Subscribe, Suback, Unsubscribe, Unsuback, Pingreq, Pingresp, Disconnect, Auth}
use Rattle.mq_rules.specs.declared.packet_note.WillNote.{WillNote}
use Rattle.mq_rules.specs.declared.packet_note.ConnectNote.{ConnectNote}
use Rattle.mq_rules.specs.declared.packet_note.ConnackNote.{ConnackNote}
use Rattle.mq_rules.specs.declared.packet_note.PublishNote.{PublishNote}
use Rattle.mq_rules.specs.declared.packet_note.DisconnectNote.{DisconnectNote}
use Rattle.mq_rules.specs.declared.packet_note.WishesNote.{WishesNote}
use Rattle.mq_rules.specs.declared.text.NotedFilter.{NotedFilter}
use Rattle.mq_rules.specs.declared.bare.Bare.{Bare}
use Rattle.mq_rules.specs.declared.bare.BareFields.{BareFields}
use Rattle.mq_rules.specs.declared.bare.BareFields.TheVariants as bares
use Rattle.mq_rules.specs.declared.note_ref.NoteRef.{NoteRef}
use Rattle.mq_rules.specs.declared.note_ref.NoteRef.TheVariants as refs
use Rattle.mq_rules.specs.Words.{only, is_some_and, is_id}
use Rattle.mq_rules.specs.Wishes.{wishes_of}

-- ---- the end that a log's header names

-- what is asked for says which further statements are judged too
abbrev pub tested_as : Further → Header → Tested
tested_as further header = record { role = if header.server then Server else Client; releases = header.releases; further = further }

abbrev pub tested_by : Further → List ℕ → Tested
tested_by further log = tested_as further (header_by log)

-- ---- the note of an event

-- a list, if its packet went this way; of one that went the other way nothing is kept, since no statement looks at it
abbrev pub only_list : {A : Type 0} → Bool → List A → List A
only_list true texts = texts
only_list false texts = []

abbrev pub is_sent_direction : Direction → Bool
is_sent_direction directions.Sent = true
is_sent_direction directions.Recv = false

-- a QoS above 0, at which a PUBLISH is acknowledged (MQTT 5.0, section 4.3)
abbrev pub is_acknowledged : Qos → Bool
is_acknowledged quality.AtMostOnce = false
is_acknowledged quality.AtLeastOnce = true
is_acknowledged quality.ExactlyOnce = true

-- of a Will (MQTT 5.0, section 3.1.2.5)
abbrev pub will_note : WillFields → WillNote
will_note w = record { qos = w.qos; retain = w.retain }

-- of a CONNECT (MQTT 5.0, section 3.1)
abbrev pub connect_note : ConnectFields → ConnectNote
connect_note c = record {
  clean_start = c.clean_start;
  is_unnamed = length c.client_identifier == 0;
  session_expiry = first_four_bytes 17 c.properties.items;
  request_problem_information = first_byte 23 c.properties.items;
  request_response_information = first_byte 25 c.properties.items;
  receive_maximum = first_two_bytes 33 c.properties.items;
  topic_alias_maximum = first_two_bytes 34 c.properties.items;
  maximum_packet_size = first_four_bytes 39 c.properties.items;
  keep_alive = c.keep_alive;
  will = option_map will_note c.will;
  has_authentication_method = is_some (first_text 21 c.properties.items);
}

-- of a CONNACK (MQTT 5.0, section 3.2)
abbrev pub connack_note : Bool → ℕ → List Property → ConnackNote
connack_note session_present code properties = record {
  session_present = session_present;
  code = code;
  session_expiry = first_four_bytes 17 properties;
  receive_maximum = first_two_bytes 33 properties;
  topic_alias_maximum = first_two_bytes 34 properties;
  maximum_qos = first_byte 36 properties;
  retain_available = first_byte 37 properties;
  wildcard_subscription_available = first_byte 40 properties;
  subscription_identifier_available = first_byte 41 properties;
  shared_subscription_available = first_byte 42 properties;
  maximum_packet_size = first_four_bytes 39 properties;
  server_keep_alive = first_two_bytes 19 properties;
  has_assigned_identifier = is_some (first_text 18 properties);
  has_response_information = is_some (first_text 26 properties);
  has_authentication_method = is_some (first_text 21 properties);
}

-- a PUBLISH that went this way has a Message Expiry Interval; of one that was sent no statement looks at it (MQTT 5.0, section 3.3.2.3.3)
abbrev pub expires_if_received : Direction → List Property → Bool
expires_if_received directions.Sent properties = false
expires_if_received directions.Recv properties = is_some (first_four_bytes 2 properties)

-- A Topic Alias stands for the Topic Name of a PUBLISH: that is empty (MQTT 5.0, section 3.3.2.3.4).
abbrev pub uses_alias : List ℕ → List Property → Bool
uses_alias topic properties = is_some (first_two_bytes 35 properties) && (length topic == 0)

-- the value of a property, if it is a Subscription Identifier (MQTT 5.0, section 3.3.2.3.8)
abbrev pub identifier_in : Property → Option ℕ
identifier_in p = cond (p.id == 11) (as_varint p.value) None

-- the Subscription Identifiers of a list, in order
abbrev pub subscription_identifiers_in : List Property → List ℕ
subscription_identifiers_in properties = filter_map identifier_in properties

-- of a PUBLISH (MQTT 5.0, section 3.3)
abbrev pub publish_note : Direction → PublishFields → PublishNote
publish_note direction p = record {
  identifier = p.identifier;
  qos = p.qos;
  duplicate = p.duplicate;
  retain = p.retain;
  topic = only_list (is_sent_direction direction) p.topic;
  topic_alias = first_two_bytes 35 p.properties.items;
  uses_alias = uses_alias p.topic p.properties.items;
  has_message_expiry = expires_if_received direction p.properties.items;
  has_subscription_identifier = is_some (first_varint 11 p.properties.items);
  subscription_identifiers = only_list (is_sent_direction direction) (subscription_identifiers_in p.properties.items);
}

-- of a DISCONNECT (MQTT 5.0, section 3.14)
abbrev pub disconnect_note : ℕ → List Property → DisconnectNote
disconnect_note code properties = record { code = code; session_expiry = first_four_bytes 17 properties }

-- the Authentication Method of an AUTH or a CONNACK, if it was sent and has one; of one that was received no statement looks at it (MQTT 5.0, section 4.12)
abbrev pub noted_method : Direction → List Property → Option (List ℕ)
noted_method direction properties = only (is_sent_direction direction) (first_text 21 properties)

-- of PUBACK, PUBREC, PUBREL and PUBCOMP (MQTT 5.0, sections 3.4 to 3.7)
abbrev pub acknowledgement_fields : AcknowledgementKind → ℕ → ℕ → PacketFields
acknowledgement_fields acknowledgements.Puback identifier code = Puback identifier code
acknowledgement_fields acknowledgements.Pubrec identifier code = Pubrec identifier code
acknowledgement_fields acknowledgements.Pubrel identifier code = Pubrel identifier code
acknowledgement_fields acknowledgements.Pubcomp identifier code = Pubcomp identifier code

-- of a Topic Filter (MQTT 5.0, section 3.8.3)
abbrev pub filter_note : AskedFilter → NotedFilter
filter_note f = record { filter = f.filter; options = unwrap_or f.options 0 }

-- of what a SUBSCRIBE asks for (MQTT 5.0, sections 3.8.2.1.2 and 3.8.3)
abbrev pub wishes_note : List Property → List AskedFilter → WishesNote
wishes_note properties filters = wishes_of (first_varint 11 properties) filters

-- of SUBSCRIBE and UNSUBSCRIBE (MQTT 5.0, sections 3.8 and 3.10)
abbrev pub request_fields : Direction → RequestKind → ℕ → List Property → List AskedFilter → PacketFields
request_fields direction requests.Subscribe identifier properties filters =
    Subscribe identifier (only_list (not (is_sent_direction direction)) (map filter_note filters)) (wishes_note properties filters)
request_fields direction requests.Unsubscribe identifier properties filters = Unsubscribe identifier (only_list (not (is_sent_direction direction)) (map filter_note filters))

-- of SUBACK and UNSUBACK (MQTT 5.0, sections 3.9 and 3.11)
abbrev pub answer_fields : Direction → RequestKind → ℕ → List ℕ → PacketFields
answer_fields direction requests.Subscribe identifier codes = Suback identifier (only_list (is_sent_direction direction) codes)
answer_fields direction requests.Unsubscribe identifier codes = Unsuback identifier (only_list (is_sent_direction direction) codes)

-- of any packet, by its type (MQTT 5.0, section 2.1.2)
abbrev pub packet_fields : Direction → Entry → PacketFields
packet_fields direction (connect fields) = Connect (connect_note fields) (first_text 21 fields.properties.items)
packet_fields direction (connack session_present code properties) = Connack (connack_note session_present code properties.items) (noted_method direction properties.items)
packet_fields direction (publish fields) = Publish (publish_note direction fields)
packet_fields direction (acknowledgement kind identifier code properties) = acknowledgement_fields kind identifier code
packet_fields direction (request kind identifier properties filters) = request_fields direction kind identifier properties.items filters
packet_fields direction (answer kind identifier properties codes) = answer_fields direction kind identifier codes
packet_fields direction pingreq = Pingreq
packet_fields direction pingresp = Pingresp
packet_fields direction (disconnect code properties) = Disconnect (disconnect_note code properties.items)
packet_fields direction (auth code properties) = Auth (noted_method direction properties.items)

-- The list in which a Reason String and a User Property are looked for: a packet's own, if it has one (MQTT 5.0, section 2.2.2). That of a PUBLISH isn't: it may have User Properties
-- whether the client asked for them or not, and never has a Reason String (section 3.1.2.11.7).
abbrev pub explaining_list : Entry → List Property
explaining_list (connect fields) = fields.properties.items
explaining_list (connack session_present code properties) = properties.items
explaining_list (publish fields) = []
explaining_list (acknowledgement kind identifier code properties) = properties.items
explaining_list (request kind identifier properties filters) = properties.items
explaining_list (answer kind identifier properties codes) = properties.items
explaining_list pingreq = []
explaining_list pingresp = []
explaining_list (disconnect code properties) = properties.items
explaining_list (auth code properties) = properties.items

abbrev pub packet_note : Direction → ℕ → Entry → PacketNote
packet_note direction size entry = record {
  size = size;
  has_reason_string = is_some (first_text 31 (explaining_list entry));
  has_user_property = is_some (first_pair 38 (explaining_list entry));
  fields = packet_fields direction entry;
}

-- A packet that is so large takes its time: it has more than 65,536 bytes.
abbrev pub is_large : ℕ → Bool
is_large size = nat_lt 65536 size

-- of an item that went this way
abbrev pub item_note : Direction → Item → ItemNote
item_note direction (packet size entry) = items.Packet (packet_note direction size entry)
item_note direction (bad bytes rule at) = items.Bad (slice_index bytes 0) rule at (is_large (length bytes))
item_note direction lost = items.Lost

-- A packet with this first byte is a PUBLISH of QoS 1 or 2: its type, the high four bits, is 3, and its QoS, bits 2 and 1, is 1 or 2 (MQTT 5.0, sections 2.1.2 and 3.3.1.2).
abbrev pub begins_acknowledged : ℕ → Bool
begins_acknowledged first = (first / 16 == 3) && ((first / 2 % 4 == 1) || (first / 2 % 4 == 2))

-- these are the bytes so far of a PUBLISH of QoS 1 or 2
abbrev pub cuts_acknowledged : List ℕ → Bool
cuts_acknowledged [] = false
cuts_acknowledged (first ∷ rest) = begins_acknowledged first

-- of an event
abbrev pub note_of : Event → Note
note_of opened = notes.Open
note_of (closed unfinished) = notes.Close (cuts_acknowledged unfinished.sent) (not (length unfinished.sent == 0))
note_of rested = notes.Rest
note_of (released identifier) = notes.Release identifier
note_of (sent item) = notes.Sent (item_note directions.Sent item)
note_of (received item) = notes.Recv (item_note directions.Recv item)

-- of a PUBLISH with RETAIN 0, and without properties that statements look at
abbrev pub bare_publish_note : Direction → Option ℕ → Qos → Bool → List ℕ → PublishNote
bare_publish_note direction identifier qos duplicate topic = record {
  identifier = identifier;
  qos = qos;
  duplicate = duplicate;
  retain = false;
  topic = only_list (is_sent_direction direction) topic;
  topic_alias = None;
  uses_alias = false;
  has_message_expiry = false;
  has_subscription_identifier = false;
  subscription_identifiers = [];
}

-- of a packet without properties that statements look at
abbrev pub bare_note : Direction → ℕ → PacketFields → Note
bare_note directions.Sent size fields = notes.Sent (items.Packet (record { size = size; has_reason_string = false; has_user_property = false; fields = fields }))
bare_note directions.Recv size fields = notes.Recv (items.Packet (record { size = size; has_reason_string = false; has_user_property = false; fields = fields }))

-- a Topic Name of at most 30 bytes; a longer one isn't noted
abbrev pub kept_topic : List ℕ → List ℕ
kept_topic topic = cond (nat_le (length topic) 30) topic []

-- what the statements look at of a bare packet
abbrev pub bare_fields : Direction → BareFields → PacketFields
bare_fields direction (bares.Publish identifier qos duplicate topic) = Publish (bare_publish_note direction identifier qos duplicate (kept_topic topic.now))
bare_fields direction (bares.Puback identifier code) = Puback identifier code
bare_fields direction (bares.Pubrec identifier code) = Pubrec identifier code
bare_fields direction (bares.Pubrel identifier code) = Pubrel identifier code
bare_fields direction (bares.Pubcomp identifier code) = Pubcomp identifier code
bare_fields direction bares.Pingreq = Pingreq
bare_fields direction bares.Pingresp = Pingresp

unfoldable pub note_of_bare : Bare → Note
note_of_bare b = bare_note b.direction b.size (bare_fields b.direction b.fields)

-- the note of an event that is asked about by its note or by its numbers
abbrev pub note_in : NoteRef → Note
note_in (refs.Kept note) = note.now
note_in (refs.Bare bare) = note_of_bare bare

abbrev pub seen : Placed → Seen
seen placed = record { place = placed.place; note = note_of placed.event }

-- what the statements look at of a log, the newest event first
unfoldable pub seen_in : List ℕ → List Seen
seen_in bytes = map seen (events bytes)

-- ---- what an event is

abbrev pub is_open : Note → Bool
is_open notes.Open = true
is_open _ = false

abbrev pub is_close : Note → Bool
is_close (notes.Close cuts part) = true
is_close _ = false

-- a CLOSE that cut off a PUBLISH of QoS 1 or 2, which the tested end had begun to send
abbrev pub is_cutting : Note → Bool
is_cutting (notes.Close cuts part) = cuts
is_cutting _ = false

-- a network connection begins or ends
abbrev pub is_boundary : Note → Bool
is_boundary n = is_open n || is_close n

abbrev pub is_rest : Note → Bool
is_rest notes.Rest = true
is_rest _ = false

abbrev pub is_release : Note → Bool
is_release (notes.Release identifier) = true
is_release _ = false

-- the identifier of the QoS 2 message that the tested end released for onward delivery (MQTT 5.0, section 4.3.3)
abbrev pub released_id : Note → Option ℕ
released_id (notes.Release identifier) = Some identifier
released_id _ = None

-- the item that the tested end sent, and the one that it received
abbrev pub sent_item : Note → Option ItemNote
sent_item (notes.Sent item) = Some item
sent_item _ = None

abbrev pub received_item : Note → Option ItemNote
received_item (notes.Recv item) = Some item
received_item _ = None

-- the packet that an item is
abbrev pub packet_in : ItemNote → Option PacketNote
packet_in (items.Packet p) = Some p
packet_in _ = None

abbrev pub sent_packet : Note → Option PacketNote
sent_packet note = option_and_then packet_in (sent_item note)

abbrev pub received_packet : Note → Option PacketNote
received_packet note = option_and_then packet_in (received_item note)

-- what the packet says
abbrev pub sent_fields : Note → Option PacketFields
sent_fields note = option_map (λ p. p.fields) (sent_packet note)

abbrev pub received_fields : Note → Option PacketFields
received_fields note = option_map (λ p. p.fields) (received_packet note)

-- what a packet from the client, and one from the server, says: the tested end's role decides whether it is sent or received
abbrev pub from_client : Role → Note → Option PacketFields
from_client Client note = sent_fields note
from_client Server note = received_fields note

abbrev pub from_server : Role → Note → Option PacketFields
from_server Client note = received_fields note
from_server Server note = sent_fields note

-- a packet or bytes that break a rule: what is not Lost has a type
abbrev pub is_typed : ItemNote → Bool
is_typed items.Lost = false
is_typed _ = true

-- Lost, or bytes that break a rule
abbrev pub is_broken : ItemNote → Bool
is_broken (items.Packet p) = false
is_broken _ = true

-- ---- the types of packets (MQTT 5.0, section 2.1.2)

abbrev pub fields_type : PacketFields → PacketType
fields_type (Connect c method) = types.Connect
fields_type (Connack c method) = types.Connack
fields_type (Publish p) = types.Publish
fields_type (Puback identifier code) = types.Puback
fields_type (Pubrec identifier code) = types.Pubrec
fields_type (Pubrel identifier code) = types.Pubrel
fields_type (Pubcomp identifier code) = types.Pubcomp
fields_type (Subscribe identifier filters wishes) = types.Subscribe
fields_type (Suback identifier codes) = types.Suback
fields_type (Unsubscribe identifier filters) = types.Unsubscribe
fields_type (Unsuback identifier codes) = types.Unsuback
fields_type Pingreq = types.Pingreq
fields_type Pingresp = types.Pingresp
fields_type (Disconnect d) = types.Disconnect
fields_type (Auth method) = types.Auth

-- The number of an item's type, which is the high four bits of its first byte: bytes that break a rule have one too.
abbrev pub type_number_in : ItemNote → Option ℕ
type_number_in (items.Packet p) = Some (type_number (fields_type p.fields))
type_number_in (items.Bad first rule at large) = Some (first / 16)
type_number_in items.Lost = None

abbrev pub is_of_type : PacketType → ItemNote → Bool
is_of_type type item = is_id (type_number type) (type_number_in item)

-- the types that this end may not send, since only the other end may
abbrev pub foreign_types : Role → List PacketType
foreign_types Client = types.Connack ∷ types.Suback ∷ types.Unsuback ∷ types.Pingresp ∷ []
foreign_types Server = types.Connect ∷ types.Subscribe ∷ types.Unsubscribe ∷ types.Pingreq ∷ []

-- the tested end sent, or received, an item of this type
abbrev pub sends_type : PacketType → Note → Bool
sends_type type note = is_some_and (is_of_type type) (sent_item note)

abbrev pub receives_type : PacketType → Note → Bool
receives_type type note = is_some_and (is_of_type type) (received_item note)

-- ---- what a packet is, by its type

abbrev pub connect_in : PacketFields → Option ConnectNote
connect_in (Connect c method) = Some c
connect_in _ = None

-- the Authentication Method of a CONNECT: that it has none is known of it too
abbrev pub connect_method_in : PacketFields → Option (Option (List ℕ))
connect_method_in (Connect c method) = Some method
connect_method_in _ = None

abbrev pub connack_in : PacketFields → Option ConnackNote
connack_in (Connack c method) = Some c
connack_in _ = None

abbrev pub publish_in : PacketFields → Option PublishNote
publish_in (Publish p) = Some p
publish_in _ = None

abbrev pub disconnect_in : PacketFields → Option DisconnectNote
disconnect_in (Disconnect d) = Some d
disconnect_in _ = None

-- what a SUBSCRIBE asks for
abbrev pub wishes_in : PacketFields → Option WishesNote
wishes_in (Subscribe identifier filters wishes) = Some wishes
wishes_in _ = None

-- the Reason Code of a PUBACK or PUBREC (MQTT 5.0, sections 3.4.2.1 and 3.5.2.1)
abbrev pub receipt_code_in : PacketFields → Option ℕ
receipt_code_in (Puback identifier code) = Some code
receipt_code_in (Pubrec identifier code) = Some code
receipt_code_in _ = None

abbrev pub is_auth : PacketFields → Bool
is_auth (Auth method) = true
is_auth _ = false

-- the Authentication Method of an AUTH or a CONNACK that was sent, if it has one
abbrev pub method_in : PacketFields → Option (List ℕ)
method_in (Auth method) = method
method_in (Connack c method) = method
method_in _ = None

abbrev pub sent_publish : Note → Option PublishNote
sent_publish note = option_and_then publish_in (sent_fields note)

abbrev pub received_publish : Note → Option PublishNote
received_publish note = option_and_then publish_in (received_fields note)

abbrev pub sent_disconnect : Note → Option DisconnectNote
sent_disconnect note = option_and_then disconnect_in (sent_fields note)

abbrev pub sent_connack : Note → Option ConnackNote
sent_connack note = option_and_then connack_in (sent_fields note)

abbrev pub sent_wishes : Note → Option WishesNote
sent_wishes note = option_and_then wishes_in (sent_fields note)

abbrev pub received_wishes : Note → Option WishesNote
received_wishes note = option_and_then wishes_in (received_fields note)

abbrev pub sent_receipt_code : Note → Option ℕ
sent_receipt_code note = option_and_then receipt_code_in (sent_fields note)

abbrev pub sends_auth : Note → Bool
sends_auth note = is_some_and is_auth (sent_fields note)

-- the Authentication Method of the AUTH or the CONNACK that is sent, if it has one
abbrev pub sent_method : Note → Option (List ℕ)
sent_method note = option_and_then method_in (sent_fields note)

-- the client's CONNECT and DISCONNECT, and the server's CONNACK: one from the wrong end doesn't count
abbrev pub connect_of : Role → Note → Option ConnectNote
connect_of role note = option_and_then connect_in (from_client role note)

-- the Authentication Method of the client's CONNECT
abbrev pub connect_method : Role → Note → Option (Option (List ℕ))
connect_method role note = option_and_then connect_method_in (from_client role note)

abbrev pub connack_of : Role → Note → Option ConnackNote
connack_of role note = option_and_then connack_in (from_server role note)

abbrev pub client_disconnect : Role → Note → Option DisconnectNote
client_disconnect role note = option_and_then disconnect_in (from_client role note)

-- a packet that may have a Reason String or User Properties whatever the client asked for (MQTT 5.0, section 3.1.2.11.7)
abbrev pub may_explain : PacketFields → Bool
may_explain fields = is_some (publish_in fields) || (is_some (connack_in fields) || is_some (disconnect_in fields))

-- a Reason Code that refuses (MQTT 5.0, section 2.4)
abbrev pub refuses : ℕ → Bool
refuses code = nat_le 128 code

-- ---- what becomes of a connection by an event (MQTT 5.0, section 3.2.2)

-- Any Reason Code but 0x00 refuses the connection; Session Present 1 resumes a session.
abbrev pub fate_by : ConnackNote → Fate
fate_by c = cond (c.code == 0) (cond c.session_present Resumed New) Void

-- it accepts, and resumes a session
abbrev pub resumed_by : ConnackNote → Bool
resumed_by c = (c.code == 0) && c.session_present

-- The server's CONNACK decides, or a CLOSE if none came.
abbrev pub decides : Role → Note → Option Fate
decides role note = cond (is_close note) (Some Void) (option_map fate_by (connack_of role note))

-- ---- Packet Identifiers (MQTT 5.0, section 2.2.1)

abbrev pub qos_number : Qos → ℕ
qos_number quality.AtMostOnce = 0
qos_number quality.AtLeastOnce = 1
qos_number quality.ExactlyOnce = 2

abbrev pub is_exactly_once : Qos → Bool
is_exactly_once quality.AtMostOnce = false
is_exactly_once quality.AtLeastOnce = false
is_exactly_once quality.ExactlyOnce = true

abbrev pub is_at_least_once : Qos → Bool
is_at_least_once quality.AtMostOnce = false
is_at_least_once quality.AtLeastOnce = true
is_at_least_once quality.ExactlyOnce = false

-- the identifier of a PUBLISH of QoS above 0; a new one has DUP 0, and one that is sent again has DUP 1
abbrev pub delivery_in : PublishNote → Option ℕ
delivery_in p = only (is_acknowledged p.qos) p.identifier

abbrev pub delivery_of : Note → Option ℕ
delivery_of note = option_and_then delivery_in (sent_publish note)

abbrev pub opener_in : PublishNote → Option ℕ
opener_in p = only (not p.duplicate) (delivery_in p)

abbrev pub resend_in : PublishNote → Option ℕ
resend_in p = only p.duplicate (delivery_in p)

-- An opener of an identifier: a PUBLISH of QoS above 0 with DUP 0 is sent.
abbrev pub opener_of : Note → Option ℕ
opener_of note = option_and_then opener_in (sent_publish note)

-- A resend: a PUBLISH of QoS above 0 with DUP 1 is sent.
abbrev pub resend_of : Note → Option ℕ
resend_of note = option_and_then resend_in (sent_publish note)

-- what a PUBACK, a PUBCOMP or a PUBREC of 0x80 or more sets free (MQTT 5.0, sections 4.3.2 and 4.3.3)
abbrev pub settled_in : PacketFields → Option ℕ
settled_in (Puback identifier code) = Some identifier
settled_in (Pubrec identifier code) = only (refuses code) (Some identifier)
settled_in (Pubcomp identifier code) = Some identifier
settled_in _ = None

-- A closer of an identifier: a PUBACK, a PUBCOMP, or a PUBREC of 0x80 or more is received.
abbrev pub closer_of : Note → Option ℕ
closer_of note = option_and_then settled_in (received_fields note)

-- a PUBREL, and a PUBREC below 0x80
abbrev pub pubrel_in : PacketFields → Option ℕ
pubrel_in (Pubrel identifier code) = Some identifier
pubrel_in _ = None

abbrev pub accepting_pubrec_in : PacketFields → Option ℕ
accepting_pubrec_in (Pubrec identifier code) = only (not (refuses code)) (Some identifier)
accepting_pubrec_in _ = None

abbrev pub is_pingreq : PacketFields → Bool
is_pingreq Pingreq = true
is_pingreq _ = false

abbrev pub is_pingresp : PacketFields → Bool
is_pingresp Pingresp = true
is_pingresp _ = false

abbrev pub puback_in : PacketFields → Option ℕ
puback_in (Puback identifier code) = Some identifier
puback_in _ = None

abbrev pub pubrec_in : PacketFields → Option ℕ
pubrec_in (Pubrec identifier code) = Some identifier
pubrec_in _ = None

abbrev pub pubcomp_in : PacketFields → Option ℕ
pubcomp_in (Pubcomp identifier code) = Some identifier
pubcomp_in _ = None

abbrev pub subscribe_in : PacketFields → Option ℕ
subscribe_in (Subscribe identifier filters wishes) = Some identifier
subscribe_in _ = None

abbrev pub suback_in : PacketFields → Option ℕ
suback_in (Suback identifier codes) = Some identifier
suback_in _ = None

abbrev pub unsubscribe_in : PacketFields → Option ℕ
unsubscribe_in (Unsubscribe identifier filters) = Some identifier
unsubscribe_in _ = None

abbrev pub unsuback_in : PacketFields → Option ℕ
unsuback_in (Unsuback identifier codes) = Some identifier
unsuback_in _ = None

-- the identifier that is found in what the tested end sent, or received
abbrev pub sent_as : (PacketFields → Option ℕ) → Note → Option ℕ
sent_as found note = option_and_then found (sent_fields note)

abbrev pub received_as : (PacketFields → Option ℕ) → Note → Option ℕ
received_as found note = option_and_then found (received_fields note)

-- a PUBLISH of QoS 1, and one of QoS 2, that was received
abbrev pub received_once_acknowledged : Note → Option ℕ
received_once_acknowledged note = option_and_then (λ p. only (is_at_least_once p.qos) p.identifier) (received_publish note)

abbrev pub received_exactly_once : Note → Option ℕ
received_exactly_once note = option_and_then (λ p. only (is_exactly_once p.qos) p.identifier) (received_publish note)

abbrev pub is_sent_pingresp : Note → Bool
is_sent_pingresp note = is_some_and is_pingresp (sent_fields note)

abbrev pub is_received_pingreq : Note → Bool
is_received_pingreq note = is_some_and is_pingreq (received_fields note)

-- what ends the exchange of a received QoS 2 PUBLISH: a PUBCOMP, or a PUBREC of 0x80 or more (MQTT 5.0, section 4.3.3)
abbrev pub ended_in : PacketFields → Option ℕ
ended_in (Pubcomp identifier code) = Some identifier
ended_in (Pubrec identifier code) = only (refuses code) (Some identifier)
ended_in _ = None

-- a PUBREC of 0x10 (No matching subscribers), and a PUBCOMP of 0x00
abbrev pub unmatched_pubrec_in : PacketFields → Option ℕ
unmatched_pubrec_in (Pubrec identifier code) = only (code == 16) (Some identifier)
unmatched_pubrec_in _ = None

abbrev pub success_pubcomp_in : PacketFields → Option ℕ
success_pubcomp_in (Pubcomp identifier code) = only (code == 0) (Some identifier)
success_pubcomp_in _ = None

-- ---- bytes that break a rule

-- The rule that the bytes which the tested end sent break, and where: in a direction that is lost the Remaining Length breaks W03, at the
-- packet's second byte.
abbrev pub broken_in : ItemNote → Option BodyFault
broken_in (items.Packet p) = None
broken_in (items.Bad first rule at large) = Some (record { at = at; rule = rule })
broken_in items.Lost = Some (record { at = 1; rule = packet_rules.W03 })

abbrev pub sent_fault : Note → Option BodyFault
sent_fault note = option_and_then broken_in (sent_item note)

-- ---- subscriptions (MQTT 5.0, sections 3.8 to 3.11)

-- an identifier, and the filters of a SUBSCRIBE or an UNSUBSCRIBE; and the Reason Codes of a SUBACK or an UNSUBACK
pub record Subscription : Type 0 where
  pub identifier : ℕ
  pub filters : List NotedFilter

pub record Grant : Type 0 where
  pub identifier : ℕ
  pub codes : List ℕ

abbrev pub subscription_in : PacketFields → Option Subscription
subscription_in (Subscribe identifier filters wishes) = Some (record { identifier = identifier; filters = filters })
subscription_in _ = None

abbrev pub grant_in : PacketFields → Option Grant
grant_in (Suback identifier codes) = Some (record { identifier = identifier; codes = codes })
grant_in _ = None

abbrev pub unsubscription_in : PacketFields → Option Subscription
unsubscription_in (Unsubscribe identifier filters) = Some (record { identifier = identifier; filters = filters })
unsubscription_in _ = None

abbrev pub deletion_in : PacketFields → Option Grant
deletion_in (Unsuback identifier codes) = Some (record { identifier = identifier; codes = codes })
deletion_in _ = None

-- a SUBSCRIBE and an UNSUBSCRIBE that were received, and a SUBACK and an UNSUBACK that were sent
abbrev pub received_subscription : Note → Option Subscription
received_subscription note = option_and_then subscription_in (received_fields note)

abbrev pub sent_grant : Note → Option Grant
sent_grant note = option_and_then grant_in (sent_fields note)

abbrev pub received_unsubscription : Note → Option Subscription
received_unsubscription note = option_and_then unsubscription_in (received_fields note)

abbrev pub sent_deletion : Note → Option Grant
sent_deletion note = option_and_then deletion_in (sent_fields note)

-- Bytes of a SUBSCRIBE or an UNSUBSCRIBE that break a rule, or that can't be cut into packets, so that these may be among them: nobody can tell from the log what
-- was taken in of them.
abbrev pub is_unclear : ItemNote → Bool
is_unclear item = is_some (broken_in item) && (not (is_typed item) || (is_of_type types.Subscribe item || is_of_type types.Unsubscribe item))

abbrev pub receives_unclear : Note → Bool
receives_unclear note = is_some_and is_unclear (received_item note)

-- ---- sessions (MQTT 5.0, section 4.1)

-- PUBLISH, SUBSCRIBE, UNSUBSCRIBE and what acknowledges them need a session.
abbrev pub is_session_packet : PacketFields → Bool
is_session_packet fields = is_session_type (fields_type fields)

-- a session packet of either direction, or a RELEASE
abbrev pub needs_session : Note → Bool
needs_session note = is_release note || (is_some_and is_session_packet (sent_fields note) || is_some_and is_session_packet (received_fields note))

-- ---- memory

-- The note has a text or a list of its own, which may take memory: the Topic Name of a PUBLISH that was sent, or its Subscription Identifiers if they are several, the Topic Filters of
-- a SUBSCRIBE or an UNSUBSCRIBE that was received, the Reason Codes of a SUBACK or an UNSUBACK that was sent, if they are several, or the Authentication Method of a CONNECT, or of an
-- AUTH or a CONNACK that was sent.
abbrev pub keeps_text : PacketFields → Bool
keeps_text (Connect c method) = is_some method
keeps_text (Connack c method) = is_some method
keeps_text (Publish p) = not (length p.topic == 0) || nat_lt 1 (length p.subscription_identifiers)
keeps_text (Puback identifier code) = false
keeps_text (Pubrec identifier code) = false
keeps_text (Pubrel identifier code) = false
keeps_text (Pubcomp identifier code) = false
keeps_text (Subscribe identifier filters wishes) = not (length filters == 0)
keeps_text (Suback identifier codes) = nat_lt 1 (length codes)
keeps_text (Unsubscribe identifier filters) = not (length filters == 0)
keeps_text (Unsuback identifier codes) = nat_lt 1 (length codes)
keeps_text Pingreq = false
keeps_text Pingresp = false
keeps_text (Disconnect d) = false
keeps_text (Auth method) = is_some method

abbrev pub item_keeps_text : ItemNote → Bool
item_keeps_text item = is_some_and (λ p. keeps_text p.fields) (packet_in item)

abbrev pub note_keeps_text : Note → Bool
note_keeps_text note = is_some_and item_keeps_text (sent_item note) || is_some_and item_keeps_text (received_item note)
