-- What of a packet without properties puts rules on its bytes (W) to the test.
use Rattle.std.specs.Prelude.{◌≡◌, ◌&&◌, ◌==◌, ℕ, nat_lt, Bool, true, false, not, length, is_some}
use Rattle.mq_packet.specs.declared.rule.PacketRule.{PacketRule}
use Rattle.mq_packet.specs.declared.rule.PacketRule.TheVariants.{W01, W02, W03, W04, W05, W06, W07, W08, W09, W13, W14, W21}
use Rattle.mq_packet.specs.Entries.{Entry}
use Rattle.mq_packet.specs.Tries.{tries, is_at_most_once}
use Rattle.mq_rules.specs.declared.parts.Parts.{Parts}
use Rattle.mq_rules.specs.declared.bare.BareFields.{BareFields}
use Rattle.mq_rules.specs.declared.bare.BareFields.TheVariants as bares

-- of a packet without properties, one of its parts puts the rule to the test (MQTT 5.0, sections 2 and 3)
abbrev pub parts_try : Parts → PacketRule → Bool
parts_try parts W01 = not parts.publish
parts_try parts W02 = true
parts_try parts W03 = true
parts_try parts W04 = parts.named
parts_try parts W05 = parts.named
parts_try parts W06 = true
parts_try parts W07 = parts.publish
parts_try parts W08 = parts.at_most_once
parts_try parts W09 = parts.identified
parts_try parts W13 = parts.coded
parts_try parts W14 = parts.named
parts_try parts W21 = parts.publish && not parts.named
parts_try parts _ = false

-- the parts of a packet without properties that isn't a PUBLISH, and of any of this size in bytes, by its numbers
abbrev pub other_parts : Bool → Bool → Parts
other_parts identified coded = record { publish = false; named = false; at_most_once = false; identified = identified; coded = coded }

abbrev pub bare_parts : ℕ → BareFields → Parts
bare_parts size (bares.Publish identifier qos duplicate topic) = record { publish = true; named = not (length topic.now == 0); at_most_once = is_at_most_once qos; identified = is_some identifier; coded = false }
bare_parts size (bares.Puback identifier code) = other_parts true (nat_lt 4 size)
bare_parts size (bares.Pubrec identifier code) = other_parts true (nat_lt 4 size)
bare_parts size (bares.Pubrel identifier code) = other_parts true (nat_lt 4 size)
bare_parts size (bares.Pubcomp identifier code) = other_parts true (nat_lt 4 size)
bare_parts size bares.Pingreq = other_parts false false
bare_parts size bares.Pingresp = other_parts false false

-- The numbers put to the test what the packet does.
abbrev pub IsTriedAs : ℕ → BareFields → Entry → Type 0
IsTriedAs size fields entry = (rule : PacketRule) → parts_try (bare_parts size fields) rule ≡ tries rule size entry
