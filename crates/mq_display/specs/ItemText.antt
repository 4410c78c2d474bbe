-- The text of what is sent or received: a packet with its size, bytes that break a rule, or a direction that is lost.
use Rattle.std.specs.Prelude.{ℕ, Bool, true, false, List, [], ◌∷◌, ◌++◌, codes, decimal, Option, Some, None}
use Rattle.mq_packet.specs.declared.rule.PacketRule.{PacketRule}
use Rattle.mq_packet.specs.declared.rule.PacketRule.TheVariants as packet_rules
use Rattle.mq_log.specs.Events.{Item, packet as whole_item, bad as broken_item, lost as lost_item}
use Rattle.mq_display.specs.declared.packet_summary.PacketSummary.{PacketSummary}
use Rattle.mq_display.specs.declared.packet_summary.PacketSummary.TheVariants.{Connect, Connack, Publish, Puback, Pubrec, Pubrel, Pubcomp, Subscribe, Suback, Unsubscribe, Unsuback, Pingreq, Pingresp, Disconnect, Auth}
use Rattle.mq_display.specs.Summaries.{packet_summary}
use Rattle.mq_log.specs.Refusing.{spaced}
use Rattle.mq_rules.specs.Notes.{qos_number}

-- the name of a packet's type (MQTT 5.0, section 2.1.2)
abbrev pub type_name : PacketSummary → List ℕ
type_name Connect = codes "CONNECT"
type_name (Connack session_present code) = codes "CONNACK"
type_name (Publish identifier qos duplicate) = codes "PUBLISH"
type_name (Puback identifier code) = codes "PUBACK"
type_name (Pubrec identifier code) = codes "PUBREC"
type_name (Pubrel identifier code) = codes "PUBREL"
type_name (Pubcomp identifier code) = codes "PUBCOMP"
type_name (Subscribe identifier) = codes "SUBSCRIBE"
type_name (Suback identifier) = codes "SUBACK"
type_name (Unsubscribe identifier) = codes "UNSUBSCRIBE"
type_name (Unsuback identifier) = codes "UNSUBACK"
type_name Pingreq = codes "PINGREQ"
type_name Pingresp = codes "PINGRESP"
type_name (Disconnect code) = codes "DISCONNECT"
type_name (Auth code) = codes "AUTH"

-- the Packet Identifier, if the packet has one (MQTT 5.0, section 2.2.1)
abbrev pub identifier_of : PacketSummary → Option ℕ
identifier_of (Publish identifier qos duplicate) = identifier
identifier_of (Puback identifier code) = Some identifier
identifier_of (Pubrec identifier code) = Some identifier
identifier_of (Pubrel identifier code) = Some identifier
identifier_of (Pubcomp identifier code) = Some identifier
identifier_of (Subscribe identifier) = Some identifier
identifier_of (Suback identifier) = Some identifier
identifier_of (Unsubscribe identifier) = Some identifier
identifier_of (Unsuback identifier) = Some identifier
identifier_of _ = None

-- the DUP flag of a PUBLISH, as a number (MQTT 5.0, section 3.3.1)
abbrev pub flag_number : Bool → ℕ
flag_number false = 0
flag_number true = 1

-- its QoS and its DUP flag, if the packet is a PUBLISH
abbrev pub qos_and_dup : PacketSummary → Option (ℕ × ℕ)
qos_and_dup (Publish identifier qos duplicate) = Some (qos_number qos, flag_number duplicate)
qos_and_dup _ = None

-- the words on them, and on an identifier
abbrev pub delivery_words : Option (ℕ × ℕ) → List (List ℕ)
delivery_words None = []
delivery_words (Some delivery) = codes "qos" ∷ decimal delivery.0 ∷ codes "dup" ∷ decimal delivery.1 ∷ []

abbrev pub identifier_words : Option ℕ → List (List ℕ)
identifier_words None = []
identifier_words (Some identifier) = codes "id" ∷ decimal identifier ∷ []

-- words with a space before each
abbrev pub with_spaces : List (List ℕ) → List ℕ
with_spaces [] = []
with_spaces (word ∷ words) = 32 ∷ (word ++ with_spaces words)

-- a packet: its type and its size in bytes, of a PUBLISH the QoS and the DUP flag, and the Packet Identifier, if it has one
abbrev pub packet_text : PacketSummary → ℕ → List ℕ
packet_text packet size = spaced (type_name packet ∷ codes "size" ∷ decimal size
    ∷ (delivery_words (qos_and_dup packet) ++ identifier_words (identifier_of packet)))

-- the code of a rule on a packet's bytes
abbrev pub packet_rule_code : PacketRule → List ℕ
packet_rule_code packet_rules.W01 = codes "W01"
packet_rule_code packet_rules.W02 = codes "W02"
packet_rule_code packet_rules.W03 = codes "W03"
packet_rule_code packet_rules.W04 = codes "W04"
packet_rule_code packet_rules.W05 = codes "W05"
packet_rule_code packet_rules.W06 = codes "W06"
packet_rule_code packet_rules.W07 = codes "W07"
packet_rule_code packet_rules.W08 = codes "W08"
packet_rule_code packet_rules.W09 = codes "W09"
packet_rule_code packet_rules.W10 = codes "W10"
packet_rule_code packet_rules.W11 = codes "W11"
packet_rule_code packet_rules.W12 = codes "W12"
packet_rule_code packet_rules.W13 = codes "W13"
packet_rule_code packet_rules.W14 = codes "W14"
packet_rule_code packet_rules.W15 = codes "W15"
packet_rule_code packet_rules.W16 = codes "W16"
packet_rule_code packet_rules.W17 = codes "W17"
packet_rule_code packet_rules.W18 = codes "W18"
packet_rule_code packet_rules.W19 = codes "W19"
packet_rule_code packet_rules.W20 = codes "W20"
packet_rule_code packet_rules.W21 = codes "W21"

-- bytes that break a rule: the rule, and the offset of the field that breaks it
abbrev pub broken_text : PacketRule → ℕ → List ℕ
broken_text rule at = spaced (codes "BAD" ∷ packet_rule_code rule ∷ codes "offset" ∷ decimal at ∷ [])

-- a direction that is lost
abbrev pub lost_text : List ℕ
lost_text = codes "LOST"

-- an item: a packet with its size, bytes that break a rule, or a direction that is lost
abbrev pub item_text : Item → List ℕ
item_text (whole_item size entry) = packet_text (packet_summary entry) size
item_text (broken_item bytes rule at) = broken_text rule at
item_text lost_item = lost_text
