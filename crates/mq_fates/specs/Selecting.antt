-- Which events may concern a group of watchers, as a type of packet and a direction tell.
use Rattle.std.specs.Prelude.{Bool, true, false, ◌||◌, not, is_some}
use Rattle.mq_rules.specs.declared.note.Note.{Note}
use Rattle.mq_rules.specs.declared.note.Note.TheVariants as notes
use Rattle.mq_rules.specs.declared.note.ItemNote.{ItemNote}
use Rattle.mq_rules.specs.declared.note.ItemNote.TheVariants as items
use Rattle.mq_rules.specs.declared.packet_note.PacketFields.{PacketFields}
use Rattle.mq_rules.specs.declared.packet_note.PacketFields.TheVariants.{Connect, Connack, Publish, Puback, Pubrec, Pubrel, Pubcomp, Subscribe, Suback, Unsubscribe, Unsuback, Pingreq, Pingresp, Disconnect}
use Rattle.mq_rules.specs.Notes.{is_acknowledged}

-- An event, by a test of the packets that are sent, one of those that are received, and whether a CLOSE, a REST, a RELEASE, and bytes that are no packet, may concern.
abbrev pub selects : (PacketFields → Bool) → (PacketFields → Bool) → Bool → Bool → Bool → Bool → Note → Bool
selects sent received close rest release broken notes.Open = true
selects sent received close rest release broken (notes.Close cuts part) = close
selects sent received close rest release broken notes.Rest = rest
selects sent received close rest release broken (notes.Release identifier) = release
selects sent received close rest release broken (notes.Sent (items.Packet p)) = sent p.fields
selects sent received close rest release broken (notes.Sent _) = broken
selects sent received close rest release broken (notes.Recv (items.Packet p)) = received p.fields
selects sent received close rest release broken (notes.Recv _) = broken

-- ---- exchanges of messages (MQTT 5.0, section 4.3)

abbrev pub answers_message : PacketFields → Bool
answers_message (Puback identifier code) = true
answers_message (Pubrec identifier code) = true
answers_message (Pubrel identifier code) = true
answers_message (Pubcomp identifier code) = true
answers_message (Disconnect note) = true
answers_message _ = false

abbrev pub asks_by_message : PacketFields → Bool
asks_by_message (Publish p) = is_acknowledged p.qos
asks_by_message (Pubrec identifier code) = true
asks_by_message (Pubrel identifier code) = true
asks_by_message (Disconnect note) = true
asks_by_message _ = false

abbrev pub may_concern_messages : Note → Bool
may_concern_messages = selects answers_message asks_by_message false true false true

-- ---- requests to subscribe and to unsubscribe (MQTT 5.0, sections 3.8.4 and 3.10.4)

abbrev pub answers_request : PacketFields → Bool
answers_request (Suback identifier codes) = true
answers_request (Unsuback identifier count) = true
answers_request (Disconnect note) = true
answers_request _ = false

abbrev pub asks_by_request : PacketFields → Bool
asks_by_request (Subscribe identifier filters wishes) = true
asks_by_request (Unsubscribe identifier count) = true
asks_by_request (Disconnect note) = true
asks_by_request _ = false

abbrev pub may_concern_requests : Note → Bool
may_concern_requests = selects answers_request asks_by_request false true false true

-- ---- releases (MQTT 5.0, section 4.3.3)

abbrev pub ends_release : PacketFields → Bool
ends_release (Pubrec identifier code) = true
ends_release (Pubcomp identifier code) = true
ends_release _ = false

abbrev pub brings_message : PacketFields → Bool
brings_message (Publish p) = is_acknowledged p.qos
brings_message _ = false

abbrev pub may_concern_releases : Note → Bool
may_concern_releases = selects ends_release brings_message false false true false

-- ---- subscriptions (MQTT 5.0, sections 3.8.4 and 3.9.3), where deliveries are judged or not

abbrev pub delivers_or_grants : Bool → PacketFields → Bool
delivers_or_grants bound (Publish p) = bound || is_some p.topic_alias
delivers_or_grants bound (Suback identifier codes) = true
delivers_or_grants bound (Unsuback identifier count) = true
delivers_or_grants bound _ = false

abbrev pub subscribes_or_not : PacketFields → Bool
subscribes_or_not (Subscribe identifier filters wishes) = true
subscribes_or_not (Unsubscribe identifier count) = true
subscribes_or_not _ = false

abbrev pub may_concern_subscriptions : Bool → Note → Bool
may_concern_subscriptions bound = selects (delivers_or_grants bound) subscribes_or_not true false false false

-- ---- Packet Identifiers in use (MQTT 5.0, section 2.2.1)

abbrev pub uses_identifier : PacketFields → Bool
uses_identifier (Publish p) = is_acknowledged p.qos
uses_identifier (Pubrel identifier code) = true
uses_identifier (Subscribe identifier filters wishes) = true
uses_identifier (Unsubscribe identifier count) = true
uses_identifier (Disconnect note) = true
uses_identifier _ = false

abbrev pub frees_identifier : PacketFields → Bool
frees_identifier (Connect note method) = true
frees_identifier (Connack note method) = true
frees_identifier (Puback identifier code) = true
frees_identifier (Pubrec identifier code) = true
frees_identifier (Pubcomp identifier code) = true
frees_identifier (Suback identifier codes) = true
frees_identifier (Unsuback identifier count) = true
frees_identifier (Disconnect note) = true
frees_identifier _ = false

abbrev pub may_concern_identifiers : Note → Bool
may_concern_identifiers = selects uses_identifier frees_identifier true true false true

-- ---- the send quota (MQTT 5.0, section 4.9)

abbrev pub takes_quota : PacketFields → Bool
takes_quota (Publish p) = is_acknowledged p.qos
takes_quota _ = false

abbrev pub gives_quota : PacketFields → Bool
gives_quota (Connect note method) = true
gives_quota (Connack note method) = true
gives_quota (Puback identifier code) = true
gives_quota (Pubrec identifier code) = true
gives_quota (Pubcomp identifier code) = true
gives_quota _ = false

abbrev pub may_concern_quota : Note → Bool
may_concern_quota = selects takes_quota gives_quota false false false false

-- ---- pings (MQTT 5.0, section 3.12)

abbrev pub answers_ping : PacketFields → Bool
answers_ping Pingresp = true
answers_ping (Disconnect note) = true
answers_ping _ = false

abbrev pub pings : PacketFields → Bool
pings Pingreq = true
pings (Disconnect note) = true
pings _ = false

abbrev pub may_concern_pings : Note → Bool
may_concern_pings = selects answers_ping pings false true false true
