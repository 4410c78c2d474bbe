-- What the readers of fields and packets return.
use Rattle.std.specs.Prelude.{◌≡◌, ℕ, Option, Some, None, Result, Ok, Err}
use Rattle.std.specs.Option.{option_map}
use Rattle.mq_wire.specs.declared.fault.WireFault.{WireFault}
use Rattle.mq_wire.specs.Left.{Left}
use Rattle.mq_props.specs.declared.fault.PropFault.{PropFault}
use Rattle.mq_packet.specs.declared.fault.DecodeFault.{DecodeFault}
use Rattle.mq_packet.specs.declared.fault.DecodeFault.TheVariants.{OtherVersion}
use Rattle.mq_packet.specs.declared.packet.Packet.{Packet}
use Rattle.mq_packet.specs.declared.packet.Packet.TheVariants as packets
use Rattle.mq_packet.specs.declared.packet.Will.{Will}
use Rattle.mq_packet.specs.declared.packet.Connect.{Connect}
use Rattle.mq_packet.specs.declared.packet.Publish.{Publish}
use Rattle.mq_packet.specs.declared.packet.AcknowledgementKind.TheVariants as acknowledgements
use Rattle.mq_packet.specs.declared.packet.RequestKind.TheVariants as requests
use Rattle.mq_packet.specs.declared.read_fault.ReadFault.{ReadFault}
use Rattle.mq_packet.specs.declared.read_fault.ReadFault.TheVariants as stops
use Rattle.mq_packet.specs.Entries.{Entry, WillFields, ConnectFields, PublishFields, connect, connack, publish, acknowledgement, request, answer, pingreq, pingresp, disconnect, auth}
use Rattle.mq_packet.specs.Formats.{Format}
use Rattle.mq_packet.specs.Decoding.{broken, rule_of, list_rule, read}
pub use Rattle.mq_wire.specs.Left.{Gives}

-- The Will of a CONNECT in memory.
abbrev pub will_view : Will → WillFields
will_view w = record { qos = w.qos; retain = w.retain; properties = w.properties; topic = w.topic.now; payload = w.payload.now }

-- A CONNECT in memory.
abbrev pub connect_view : Connect → ConnectFields
connect_view p = record { clean_start = p.clean_start; keep_alive = p.keep_alive; properties = p.properties; client_identifier = p.client_identifier.now; will = option_map will_view p.will; user_name = option_map (λ t. t.now) p.user_name; password = option_map (λ b. b.now) p.password }

-- The fields of a PUBLISH in memory.
abbrev pub publish_view : Publish → PublishFields
publish_view p = record { duplicate = p.duplicate; qos = p.qos; retain = p.retain; topic = p.topic.now; identifier = p.identifier; properties = p.properties; payload = p.payload.now }

-- The fields of a packet in memory: all except `read_len`, which says how it was spelled.
abbrev pub view : Packet → Entry
view (packets.Connect p) = connect (connect_view p)
view (packets.Connack p) = connack p.session_present p.code p.properties
view (packets.Publish p) = publish (publish_view p)
view (packets.Puback p) = acknowledgement acknowledgements.Puback p.identifier p.code p.properties
view (packets.Pubrec p) = acknowledgement acknowledgements.Pubrec p.identifier p.code p.properties
view (packets.Pubrel p) = acknowledgement acknowledgements.Pubrel p.identifier p.code p.properties
view (packets.Pubcomp p) = acknowledgement acknowledgements.Pubcomp p.identifier p.code p.properties
view (packets.Subscribe p) = request requests.Subscribe p.identifier p.properties p.filters
view (packets.Suback p) = answer requests.Subscribe p.identifier p.properties p.codes
view (packets.Unsubscribe p) = request requests.Unsubscribe p.identifier p.properties p.filters
view (packets.Unsuback p) = answer requests.Unsubscribe p.identifier p.properties p.codes
view packets.Pingreq = pingreq
view packets.Pingresp = pingresp
view (packets.Disconnect p) = disconnect p.code p.properties
view (packets.Auth p) = auth p.code p.properties

-- The length of the body that a packet was read from, if it keeps it.
abbrev pub read_len_of : Packet → Option ℕ
read_len_of (packets.Puback p) = p.read_len
read_len_of (packets.Pubrec p) = p.read_len
read_len_of (packets.Pubrel p) = p.read_len
read_len_of (packets.Pubcomp p) = p.read_len
read_len_of (packets.Disconnect p) = p.read_len
read_len_of (packets.Auth p) = p.read_len
read_len_of _ = None

-- What a packet keeps of the length of the body that it is read from: the acknowledgements, DISCONNECT and AUTH keep it, since
-- each of them has several spellings (3.4.2.1 to 3.7.2.1, 3.14.2.1, 3.15.2.1).
abbrev pub kept_len : ℕ → Entry → Option ℕ
kept_len len (acknowledgement kind identifier code properties) = Some len
kept_len len (disconnect code properties) = Some len
kept_len len (auth code properties) = Some len
kept_len len _ = None

-- The packet keeps the length of the body that it was read from, if packets of its type do.
abbrev pub HasReadLen : ℕ → Packet → Type 0
HasReadLen len packet = read_len_of packet ≡ kept_len len (view packet)

-- Why a misspelled field stops the reading.
abbrev pub misspelled : WireFault → ReadFault
misspelled fault = stops.Broken fault.at (rule_of fault.reason)

-- Why an invalid field of a property list stops it.
abbrev pub bad_list : PropFault → ReadFault
bad_list fault = stops.Broken fault.at (list_rule fault.reason)

-- The fault of a packet whose reading stops.
abbrev pub decode_fault : ReadFault → DecodeFault
decode_fault (stops.Broken at rule) = broken at rule
decode_fault (stops.OtherVersion version) = OtherVersion version

-- A reader of a field returns what is read, with the cursor past it; or why the reading stops.
abbrev pub ReadsField : {X Y : Type 0} → (X → Y) → Result X ReadFault → Result (Y × Left) DecodeFault → Left → Type 0
ReadsField see (Ok x) read new = read ≡ Ok (see x, new)
ReadsField see (Err stop) read new = read ≡ Err (decode_fault stop)

-- A reader of a part of a format returns what the part is, with the cursor past it: what follows is read there, given what the
-- part is. Or it returns why the reading stops, whatever follows.
abbrev pub TakesPart : {X Y : Type 0} → (X → Y) → Result X ReadFault → ((Y → Format) → Format) → Left → Left → Type 0
TakesPart {X} {Y} see (Ok x) part old new = (next : Y → Format) → read (part next) old ≡ read (next (see x)) new
TakesPart {X} {Y} see (Err stop) part old new = (next : Y → Format) → read (part next) old ≡ Err (decode_fault stop)

-- A reader of all that is left returns it as a packet or a list, or why the reading stops.
abbrev pub Reads : {X Y : Type 0} → (X → Y) → Result X ReadFault → Result Y DecodeFault → Type 0
Reads see (Ok x) read = read ≡ Ok (see x)
Reads see (Err stop) read = read ≡ Err (decode_fault stop)
