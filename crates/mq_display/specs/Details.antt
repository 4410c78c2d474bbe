-- What `show --long` prints of an event after its line's usual words: the fields and the properties of its packet, each by its name. Texts are in double
-- quotes; of binary data only the length in bytes is printed, since it may be secret. Of a packet that breaks a rule its type and its bytes are printed, and of
-- one that a CLOSE leaves unfinished those of its bytes that came.
use Rattle.std.specs.Prelude.{ℕ, ◌+◌, ◌-◌, ◌/◌, ◌%◌, ◌==◌, ◌||◌, nat_lt, Bool, true, false, List, [], ◌∷◌, ◌++◌, length, codes, decimal, Option, Some, None, if◌then◌else◌}
use Rattle.std.specs.Fmt.{digit_glyph}
use Rattle.std.specs.List.{flat_map, starts_with}
use Rattle.mq_props.specs.declared.table.id.TheConstants.{PAYLOAD_FORMAT_INDICATOR, MESSAGE_EXPIRY_INTERVAL, CONTENT_TYPE, RESPONSE_TOPIC, CORRELATION_DATA, SUBSCRIPTION_IDENTIFIER, SESSION_EXPIRY_INTERVAL, ASSIGNED_CLIENT_IDENTIFIER, SERVER_KEEP_ALIVE, AUTHENTICATION_METHOD, AUTHENTICATION_DATA, REQUEST_PROBLEM_INFORMATION, WILL_DELAY_INTERVAL, REQUEST_RESPONSE_INFORMATION, RESPONSE_INFORMATION, SERVER_REFERENCE, REASON_STRING, RECEIVE_MAXIMUM, TOPIC_ALIAS_MAXIMUM, TOPIC_ALIAS, MAXIMUM_QOS, RETAIN_AVAILABLE, USER_PROPERTY, MAXIMUM_PACKET_SIZE, WILDCARD_SUBSCRIPTION_AVAILABLE, SUBSCRIPTION_IDENTIFIER_AVAILABLE, SHARED_SUBSCRIPTION_AVAILABLE}
use Rattle.mq_props.specs.Values.{Value, Property, byte_value, two_bytes_value, four_bytes_value, varint_value, text_value, pair_value, binary_value}
use Rattle.mq_props.specs.Listed.{Listed}
use Rattle.mq_packet.specs.Entries.{Entry, ConnectFields, PublishFields, WillFields, AskedFilter, connect, connack, publish, acknowledgement, request, answer, pingreq, pingresp, disconnect, auth}
use Rattle.mq_packet.specs.declared.rule.PacketRule.{PacketRule}
use Rattle.mq_log.specs.Events.{Event, Item, UnfinishedPackets, packet as whole_item, bad as broken_item, closed, sent, received}
use Rattle.mq_rules.specs.Notes.{qos_number}
use Rattle.mq_report.specs.TypeNames.{name_beside, type_names}
use Rattle.mq_display.specs.ItemText.{flag_number, with_spaces}
use Rattle.mq_display.specs.Marking.{between, marked_at}

-- the two hexadecimal digits of a byte, in capitals
abbrev pub hex_digits : ℕ → List ℕ
hex_digits byte = digit_glyph true (byte / 16) ∷ digit_glyph true (byte % 16) ∷ []

-- a double quote (34) or a backslash (92)
abbrev pub is_quoting : ℕ → Bool
is_quoting byte = byte == 34 || byte == 92

-- a control character of ASCII
abbrev pub is_control : ℕ → Bool
is_control byte = nat_lt byte 32 || byte == 127

-- a byte of a text between quotes: a quote or a backslash after a backslash, a control character as `\x` and its hexadecimal digits
abbrev pub escaped : ℕ → List ℕ
escaped byte = if is_quoting byte then 92 ∷ byte ∷ [] else (if is_control byte then codes "\\x" ++ hex_digits byte else byte ∷ [])

-- a text in double quotes, on one line
abbrev pub quoted : List ℕ → List ℕ
quoted text = 34 ∷ (flat_map escaped text ++ 34 ∷ [])

-- a Reason Code (MQTT 5.0, section 2.4)
abbrev pub reason_text : ℕ → List ℕ
reason_text code = codes "0x" ++ hex_digits code

abbrev pub flag_text : Bool → List ℕ
flag_text flag = decimal (flag_number flag)

-- binary data, by its length in bytes
abbrev pub size_text : List ℕ → List ℕ
size_text bytes = decimal (length bytes)

-- the properties' names by their identifiers (MQTT 5.0, section 2.2.2.2)
abbrev pub property_names : List (ℕ × List ℕ)
property_names =
    (PAYLOAD_FORMAT_INDICATOR, codes "payload-format-indicator")
    ∷ (MESSAGE_EXPIRY_INTERVAL, codes "message-expiry-interval")
    ∷ (CONTENT_TYPE, codes "content-type")
    ∷ (RESPONSE_TOPIC, codes "response-topic")
    ∷ (CORRELATION_DATA, codes "correlation-data")
    ∷ (SUBSCRIPTION_IDENTIFIER, codes "subscription-identifier")
    ∷ (SESSION_EXPIRY_INTERVAL, codes "session-expiry-interval")
    ∷ (ASSIGNED_CLIENT_IDENTIFIER, codes "assigned-client-identifier")
    ∷ (SERVER_KEEP_ALIVE, codes "server-keep-alive")
    ∷ (AUTHENTICATION_METHOD, codes "authentication-method")
    ∷ (AUTHENTICATION_DATA, codes "authentication-data")
    ∷ (REQUEST_PROBLEM_INFORMATION, codes "request-problem-information")
    ∷ (WILL_DELAY_INTERVAL, codes "will-delay-interval")
    ∷ (REQUEST_RESPONSE_INFORMATION, codes "request-response-information")
    ∷ (RESPONSE_INFORMATION, codes "response-information")
    ∷ (SERVER_REFERENCE, codes "server-reference")
    ∷ (REASON_STRING, codes "reason-string")
    ∷ (RECEIVE_MAXIMUM, codes "receive-maximum")
    ∷ (TOPIC_ALIAS_MAXIMUM, codes "topic-alias-maximum")
    ∷ (TOPIC_ALIAS, codes "topic-alias")
    ∷ (MAXIMUM_QOS, codes "maximum-qos")
    ∷ (RETAIN_AVAILABLE, codes "retain-available")
    ∷ (USER_PROPERTY, codes "user-property")
    ∷ (MAXIMUM_PACKET_SIZE, codes "maximum-packet-size")
    ∷ (WILDCARD_SUBSCRIPTION_AVAILABLE, codes "wildcard-subscription-available")
    ∷ (SUBSCRIPTION_IDENTIFIER_AVAILABLE, codes "subscription-identifier-available")
    ∷ (SHARED_SUBSCRIPTION_AVAILABLE, codes "shared-subscription-available")
    ∷ []

abbrev pub property_name : ℕ → List ℕ
property_name id = name_beside id property_names

-- the value of a property: one word, or the two texts of a User Property
abbrev pub value_words : Value → List (List ℕ)
value_words (byte_value number) = decimal number ∷ []
value_words (two_bytes_value number) = decimal number ∷ []
value_words (four_bytes_value number) = decimal number ∷ []
value_words (varint_value number) = decimal number ∷ []
value_words (text_value words) = quoted words ∷ []
value_words (pair_value name value) = quoted name ∷ quoted value ∷ []
value_words (binary_value bytes) = size_text bytes ∷ []

-- a name with this prefix, unless it begins with it already
abbrev pub with_prefix : List ℕ → List ℕ → List ℕ
with_prefix prefix name = if starts_with (λ a b. a == b) name prefix then name else prefix ++ name

-- a property, with this prefix before its name
abbrev pub property_after : List ℕ → Property → List (List ℕ)
property_after prefix property = with_prefix prefix (property_name property.id) ∷ value_words property.value

-- properties in their order (MQTT 5.0, section 2.2.2)
abbrev pub properties_after : List ℕ → Listed → List (List ℕ)
properties_after prefix properties = flat_map (property_after prefix) properties.items

-- the properties of a packet
abbrev pub property_words : Listed → List (List ℕ)
property_words properties = properties_after [] properties

-- the Will of a CONNECT (MQTT 5.0, section 3.1.2.5)
abbrev pub will_words : Option WillFields → List (List ℕ)
will_words None = []
will_words (Some will) = codes "will-topic" ∷ quoted will.topic ∷ codes "will-payload" ∷ size_text will.payload ∷ codes "will-qos" ∷ decimal (qos_number will.qos)
    ∷ codes "will-retain" ∷ flag_text will.retain ∷ properties_after (codes "will-") will.properties

-- the User Name and the Password of a CONNECT (MQTT 5.0, sections 3.1.3.5 and 3.1.3.6)
abbrev pub user_words : Option (List ℕ) → List (List ℕ)
user_words None = []
user_words (Some name) = codes "user" ∷ quoted name ∷ []

abbrev pub password_words : Option (List ℕ) → List (List ℕ)
password_words None = []
password_words (Some password) = codes "password" ∷ size_text password ∷ []

-- CONNECT (MQTT 5.0, section 3.1)
abbrev pub connect_words : ConnectFields → List (List ℕ)
connect_words fields = codes "client" ∷ quoted fields.client_identifier ∷ codes "clean-start" ∷ flag_text fields.clean_start
    ∷ codes "keep-alive" ∷ decimal fields.keep_alive
    ∷ (property_words fields.properties ++ (will_words fields.will ++ (user_words fields.user_name ++ password_words fields.password)))

-- PUBLISH (MQTT 5.0, section 3.3), except what is among the line's usual words
abbrev pub publish_words : PublishFields → List (List ℕ)
publish_words fields = codes "retain" ∷ flag_text fields.retain ∷ codes "topic" ∷ quoted fields.topic ∷ codes "payload" ∷ size_text fields.payload
    ∷ property_words fields.properties

-- Subscription Options (MQTT 5.0, section 3.8.3.1): bits 1 and 0, bit 2, bit 3, bits 5 and 4
abbrev pub option_words : Option ℕ → List (List ℕ)
option_words None = []
option_words (Some options) = codes "qos" ∷ decimal (options % 4) ∷ codes "no-local" ∷ decimal (options / 4 % 2)
    ∷ codes "retain-as-published" ∷ decimal (options / 8 % 2) ∷ codes "retain-handling" ∷ decimal (options / 16 % 4) ∷ []

-- a Topic Filter of a SUBSCRIBE or UNSUBSCRIBE (MQTT 5.0, sections 3.8.3 and 3.10.3)
abbrev pub filter_words : AskedFilter → List (List ℕ)
filter_words asked = codes "filter" ∷ quoted asked.filter ∷ option_words asked.options

abbrev pub code_words : ℕ → List (List ℕ)
code_words code = codes "code" ∷ reason_text code ∷ []

-- any packet
abbrev pub packet_words : Entry → List (List ℕ)
packet_words (connect fields) = connect_words fields
packet_words (connack session_present code properties) =
    codes "code" ∷ reason_text code ∷ codes "session-present" ∷ flag_text session_present ∷ property_words properties
packet_words (publish fields) = publish_words fields
packet_words (acknowledgement kind identifier code properties) = code_words code ++ property_words properties
packet_words (request kind identifier properties filters) = property_words properties ++ flat_map filter_words filters
packet_words (answer kind identifier properties reasons) = property_words properties ++ flat_map code_words reasons
packet_words pingreq = []
packet_words pingresp = []
packet_words (disconnect code properties) = code_words code ++ property_words properties
packet_words (auth code properties) = code_words code ++ property_words properties

-- the type of a packet's bytes: the upper four bits of the first one
abbrev pub type_words : List ℕ → List (List ℕ)
type_words [] = []
type_words (first ∷ others) = codes "type" ∷ name_beside (first / 16) type_names ∷ []

-- bytes in hexadecimal digits
abbrev pub hex_words : ℕ → List (List ℕ)
hex_words byte = hex_digits byte ∷ []

-- a byte in brackets, or empty brackets
abbrev pub marked : List ℕ → List ℕ
marked bytes = codes "[" ++ (flat_map hex_digits bytes ++ codes "]")

-- the sign for bytes that are left out
abbrev pub gap_words : (left_out : Bool) → List (List ℕ)
gap_words true = codes ".." ∷ []
gap_words false = []

-- Of a packet with a mark at this offset 64 bytes are shown at most: the first ones, or if the mark is farther, the 32 before it, the one there and the 31
-- after it. So they begin at this offset.
abbrev pub shown_from : (at : ℕ) → ℕ
shown_from at = if nat_lt at 64 then 0 else at - 32

-- those from one offset on, with the marked one in brackets, and `..` where bytes are left out
abbrev pub words_from : (start at : ℕ) → List ℕ → List (List ℕ)
words_from start at bytes = codes "bytes" ∷ (gap_words (nat_lt 0 start) ++ (flat_map hex_words (between start at bytes) ++ (marked (between at (at + 1) bytes)
    ∷ (flat_map hex_words (between (at + 1) (start + 64) bytes) ++ gap_words (nat_lt (start + 64) (length bytes))))))

-- where the mark is, if it isn't at the fault's offset
abbrev pub mark_words : (at mark : ℕ) → List (List ℕ)
mark_words at mark = if mark == at then [] else codes "at" ∷ decimal mark ∷ []

-- a packet's bytes around the mark, with its place
abbrev pub words_around : (at mark : ℕ) → List ℕ → List (List ℕ)
words_around at mark bytes = mark_words at mark ++ words_from (shown_from mark) mark bytes

-- a packet that has these bytes and breaks a rule at this offset: its type, and its bytes around the one that is wrong
abbrev pub broken_words : List ℕ → PacketRule → ℕ → List (List ℕ)
broken_words bytes rule at = type_words bytes ++ words_around at (marked_at bytes rule at) bytes

-- what was sent or received, if it breaks a rule
abbrev pub broken_details : Item → List (List ℕ)
broken_details (broken_item bytes rule at) = broken_words bytes rule at
broken_details _ = []

-- what was sent or received, if it is a packet or breaks a rule
abbrev pub item_details : Item → List (List ℕ)
item_details (whole_item size entry) = packet_words entry
item_details (broken_item bytes rule at) = broken_words bytes rule at
item_details _ = []

-- the first 64 of these bytes, and `..` if there are more
abbrev pub first_words : List ℕ → List (List ℕ)
first_words bytes = codes "bytes" ∷ (flat_map hex_words (between 0 64 bytes) ++ gap_words (nat_lt 64 (length bytes)))

-- a packet that isn't whole, after the word on its direction: its type, how many bytes of it came, and the first of these
abbrev pub begun_words : (direction : List ℕ) → List ℕ → List (List ℕ)
begun_words direction bytes = codes "unfinished" ∷ direction ∷ (type_words bytes ++ (codes "size" ∷ size_text bytes ∷ first_words bytes))

-- what a direction leaves unfinished, if it has begun a packet
abbrev pub unfinished_words : (direction : List ℕ) → List ℕ → List (List ℕ)
unfinished_words direction bytes = if length bytes == 0 then [] else begun_words direction bytes

-- what a CLOSE leaves unfinished (MQTT 5.0, section 2.1)
abbrev pub closing_words : UnfinishedPackets → List (List ℕ)
closing_words unfinished = unfinished_words (codes "sent") unfinished.sent ++ unfinished_words (codes "received") unfinished.received

-- what is said of an event: of its item, if it has one, by these words, and of a CLOSE what it leaves unfinished
abbrev pub words_of : (Item → List (List ℕ)) → Event → List (List ℕ)
words_of item_words (sent item) = item_words item
words_of item_words (received item) = item_words item
words_of item_words (closed unfinished) = closing_words unfinished
words_of item_words _ = []

-- an event's details as its line has them, each word with a space before it
abbrev pub detail_text : Event → List ℕ
detail_text event = with_spaces (words_of item_details event)

-- and only those of bytes that break a rule, or that a CLOSE leaves unfinished
abbrev pub broken_detail_text : Event → List ℕ
broken_detail_text event = with_spaces (words_of broken_details event)
