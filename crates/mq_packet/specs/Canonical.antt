-- How each packet is written (MQTT 5.0, 3.1 to 3.15): its fields in their order, each by its spelling. If a packet has several
-- spellings, it is the shortest of them; but an AUTH has its properties' length unless it is empty.
use Rattle.std.specs.Prelude.{ℕ, ◌+◌, ◌*◌, ◌==◌, if◌then◌else◌, Bool, true, false, List, [], ◌∷◌, ◌++◌, length, Option, Some, None, is_some, unwrap_or, codes}
use Rattle.mq_wire.specs.Spellings.{two_bytes_spelling, text_spelling, binary_spelling, varint_spelling}
use Rattle.mq_props.specs.Values.{Property, body as properties_spelling}
use Rattle.mq_packet.specs.declared.packet.Qos.{Qos}
use Rattle.mq_packet.specs.declared.packet.Qos.TheVariants.{AtMostOnce, AtLeastOnce, ExactlyOnce}
use Rattle.mq_packet.specs.declared.packet.PacketType.{PacketType}
use Rattle.mq_packet.specs.declared.packet.PacketType.TheVariants as types
use Rattle.mq_packet.specs.declared.packet.AcknowledgementKind.{AcknowledgementKind}
use Rattle.mq_packet.specs.declared.packet.AcknowledgementKind.TheVariants as acknowledgements
use Rattle.mq_packet.specs.declared.packet.RequestKind.{RequestKind}
use Rattle.mq_packet.specs.declared.packet.RequestKind.TheVariants as requests
use Rattle.mq_packet.specs.Entries.{Entry, connect, connack, publish, acknowledgement, request, answer, pingreq, pingresp, disconnect, auth, WillFields, ConnectFields, PublishFields, AskedFilter}
use Rattle.mq_packet.specs.Asking.{filters_spelling}
use Rattle.mq_packet.specs.FirstBytes.{reserved_flags, first_byte_with}
pub use Rattle.mq_packet.specs.FirstBytes.{type_number}

-- The type of an acknowledgement, of a SUBSCRIBE or UNSUBSCRIBE, and of the answer to one.
abbrev pub acknowledgement_type : AcknowledgementKind → PacketType
acknowledgement_type acknowledgements.Puback = types.Puback
acknowledgement_type acknowledgements.Pubrec = types.Pubrec
acknowledgement_type acknowledgements.Pubrel = types.Pubrel
acknowledgement_type acknowledgements.Pubcomp = types.Pubcomp

abbrev pub request_type : RequestKind → PacketType
request_type requests.Subscribe = types.Subscribe
request_type requests.Unsubscribe = types.Unsubscribe

abbrev pub answer_type : RequestKind → PacketType
answer_type requests.Subscribe = types.Suback
answer_type requests.Unsubscribe = types.Unsuback

-- The type of a packet (2.1.2).
abbrev pub type_of : Entry → PacketType
type_of (connect fields) = types.Connect
type_of (connack session_present code list) = types.Connack
type_of (publish fields) = types.Publish
type_of (acknowledgement kind identifier code list) = acknowledgement_type kind
type_of (request kind identifier list filters) = request_type kind
type_of (answer kind identifier list reasons) = answer_type kind
type_of pingreq = types.Pingreq
type_of pingresp = types.Pingresp
type_of (disconnect code list) = types.Disconnect
type_of (auth code list) = types.Auth

-- A flag as the bit of this weight, and a QoS as two bits, the lower of this weight (3.1.2.3, 3.3.1).
abbrev pub bit : ℕ → Bool → ℕ
bit weight false = 0
bit weight true = weight

abbrev pub qos_bits : ℕ → Qos → ℕ
qos_bits weight AtMostOnce = 0
qos_bits weight AtLeastOnce = weight
qos_bits weight ExactlyOnce = 2 * weight

-- The flags of a PUBLISH: bit 3 is DUP, bits 2 and 1 are the QoS, bit 0 is RETAIN (3.3.1).
abbrev pub publish_flags : PublishFields → ℕ
publish_flags fields = bit 8 fields.duplicate + qos_bits 2 fields.qos + bit 1 fields.retain

-- The flags that say something of the packet: only a PUBLISH has some (2.1.3).
abbrev pub own_flags : Entry → ℕ
own_flags (publish fields) = publish_flags fields
own_flags _ = 0

-- The first byte: the packet's type, with the flags that are reserved for it or else the packet's own (2.1.1 to 2.1.3).
abbrev pub first_byte_of : Entry → ℕ
first_byte_of entry = first_byte_with (type_of entry) (unwrap_or (reserved_flags (type_of entry)) (own_flags entry))

-- A property list: the length of its properties, and the properties (2.2.2).
abbrev pub list_spelling : List Property → List ℕ
list_spelling items = varint_spelling (length (properties_spelling items)) ++ properties_spelling items

-- A field that may be missing.
abbrev pub spelling_if : {X : Type 0} → (X → List ℕ) → Option X → List ℕ
spelling_if spelling None = []
spelling_if spelling (Some value) = spelling value

-- The Connect Flags of a Will: bit 2 says that there is one, bits 4 and 3 are its QoS, bit 5 says that it is retained
-- (3.1.2.5 to 3.1.2.7).
abbrev pub will_flags : Option WillFields → ℕ
will_flags None = 0
will_flags (Some will) = 4 + qos_bits 8 will.qos + bit 32 will.retain

-- The Connect Flags: bit 1 is Clean Start, bit 6 says that there is a Password, bit 7 that there is a User Name (3.1.2.3).
abbrev pub connect_flags : ConnectFields → ℕ
connect_flags fields =
    bit 2 fields.clean_start + will_flags fields.will + bit 64 (is_some fields.password) + bit 128 (is_some fields.user_name)

-- A Will in the payload of a CONNECT (3.1.3.2 to 3.1.3.4).
abbrev pub will_spelling : WillFields → List ℕ
will_spelling will = list_spelling will.properties.items ++ (text_spelling will.topic ++ binary_spelling will.payload)

-- The bodies of the packets. CONNECT (3.1):
unfoldable pub connect_body : ConnectFields → List ℕ
connect_body fields =
    text_spelling (codes "MQTT") ++ (5 ∷ connect_flags fields ∷ (two_bytes_spelling fields.keep_alive
    ++ (list_spelling fields.properties.items
    ++ (text_spelling fields.client_identifier
    ++ (spelling_if will_spelling fields.will
    ++ (spelling_if text_spelling fields.user_name
    ++ spelling_if binary_spelling fields.password))))))

-- CONNACK (3.2), whose first byte has Session Present in bit 0.
unfoldable pub connack_body : Bool → ℕ → List Property → List ℕ
connack_body session_present code items = bit 1 session_present ∷ code ∷ list_spelling items

-- PUBLISH (3.3).
unfoldable pub publish_body : PublishFields → List ℕ
publish_body fields =
    text_spelling fields.topic
    ++ (spelling_if two_bytes_spelling fields.identifier
    ++ (list_spelling fields.properties.items
    ++ fields.payload))

-- A Reason Code and properties: without properties only the code, and without properties nothing if it is 0x00 (3.4.2, 3.14.2).
abbrev pub reason_spelling : ℕ → List Property → List ℕ
reason_spelling code [] = if code == 0 then [] else code ∷ []
reason_spelling code (p ∷ items) = code ∷ list_spelling (p ∷ items)

-- PUBACK, PUBREC, PUBREL and PUBCOMP (3.4 to 3.7).
unfoldable pub acknowledgement_body : ℕ → ℕ → List Property → List ℕ
acknowledgement_body identifier code items = two_bytes_spelling identifier ++ reason_spelling code items

-- SUBSCRIBE and UNSUBSCRIBE (3.8, 3.10).
unfoldable pub request_body : ℕ → List Property → List AskedFilter → List ℕ
request_body identifier items filters = two_bytes_spelling identifier ++ (list_spelling items ++ filters_spelling filters)

-- SUBACK and UNSUBACK (3.9, 3.11), with their Reason Codes.
unfoldable pub answer_body : ℕ → List Property → List ℕ → List ℕ
answer_body identifier items reasons = two_bytes_spelling identifier ++ (list_spelling items ++ reasons)

-- DISCONNECT (3.14).
unfoldable pub disconnect_body : ℕ → List Property → List ℕ
disconnect_body code items = reason_spelling code items

-- AUTH (3.15).
unfoldable pub auth_body : ℕ → List Property → List ℕ
auth_body code [] = if code == 0 then [] else code ∷ list_spelling []
auth_body code (p ∷ items) = code ∷ list_spelling (p ∷ items)

-- The body of a packet.
abbrev pub canonical_body : Entry → List ℕ
canonical_body (connect fields) = connect_body fields
canonical_body (connack session_present code list) = connack_body session_present code list.items
canonical_body (publish fields) = publish_body fields
canonical_body (acknowledgement kind identifier code list) = acknowledgement_body identifier code list.items
canonical_body (request kind identifier list filters) = request_body identifier list.items filters
canonical_body (answer kind identifier list reasons) = answer_body identifier list.items reasons
canonical_body pingreq = []
canonical_body pingresp = []
canonical_body (disconnect code list) = disconnect_body code list.items
canonical_body (auth code list) = auth_body code list.items

-- A packet: its first byte, the length of its body, and its body (2.1).
unfoldable pub canonical : Entry → List ℕ
canonical entry = first_byte_of entry ∷ (varint_spelling (length (canonical_body entry)) ++ canonical_body entry)
