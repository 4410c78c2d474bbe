-- What a packet without properties puts to the test of the rules on bytes, by its parts.
use Rattle.std.proofs.Common.{◌≡◌, ℕ, Bool, true, false, ◌||◌, [], is_some, nat_lt, refl}
use Rattle.mq_props.specs.Listed.{Listed}
use Rattle.mq_packet.specs.declared.rule.PacketRule.{PacketRule}
use Rattle.mq_packet.specs.declared.rule.PacketRule.TheVariants.{W01, W04, W05, W10, W11, W12, W14}
use Rattle.mq_packet.specs.declared.packet.AcknowledgementKind.{AcknowledgementKind}
use Rattle.mq_packet.specs.declared.packet.AcknowledgementKind.TheVariants as kinds
use Rattle.mq_packet.specs.Entries.{PublishFields, publish, acknowledgement, pingreq, pingresp}
use Rattle.mq_packet.specs.Tries.{tries, is_named, is_at_most_once}
use Rattle.mq_rules.specs.declared.parts.Parts.{Parts}
use Rattle.mq_rules.specs.Parts.{parts_try, other_parts}

or_false : (b : Bool) → b ≡ (b || false)
or_false true = refl
or_false false = refl

-- a PUBLISH
abbrev publish_parts : PublishFields → Parts
publish_parts p = record { publish = true; named = is_named p; at_most_once = is_at_most_once p.qos; identified = is_some p.identifier; coded = false }

publish_tries : (rule : PacketRule) (size : ℕ) (p : PublishFields) → p.properties.items ≡ [] → parts_try (publish_parts p) rule ≡ tries rule size (publish p)
unfolding tries
publish_tries W04 size p none = rw none (or_false (is_named p))
publish_tries W05 size p none = rw none (or_false (is_named p))
publish_tries W10 size p none = rw none refl
publish_tries W11 size p none = rw none refl
publish_tries W12 size p none = rw none refl
publish_tries W14 size p none = rw none (or_false (is_named p))
publish_tries _ size p none = refl

pub publish_tried : (size : ℕ) (p : PublishFields) → p.properties.items ≡ [] → (rule : PacketRule) → parts_try (publish_parts p) rule ≡ tries rule size (publish p)
publish_tried size p none = λ rule. publish_tries rule size p none

-- what acknowledges one
acknowledgement_tries : (kind : AcknowledgementKind) (rule : PacketRule) (size identifier code : ℕ) (properties : Listed) → properties.items ≡ [] → parts_try (other_parts true (nat_lt 4 size)) rule ≡ tries rule size (acknowledgement kind identifier code properties)
unfolding tries
acknowledgement_tries kinds.Puback W04 size identifier code properties none = rw none refl
acknowledgement_tries kinds.Puback W05 size identifier code properties none = rw none refl
acknowledgement_tries kinds.Puback W10 size identifier code properties none = rw none refl
acknowledgement_tries kinds.Puback W11 size identifier code properties none = rw none refl
acknowledgement_tries kinds.Puback W12 size identifier code properties none = rw none refl
acknowledgement_tries kinds.Puback _ size identifier code properties none = refl
acknowledgement_tries kinds.Pubrec W04 size identifier code properties none = rw none refl
acknowledgement_tries kinds.Pubrec W05 size identifier code properties none = rw none refl
acknowledgement_tries kinds.Pubrec W10 size identifier code properties none = rw none refl
acknowledgement_tries kinds.Pubrec W11 size identifier code properties none = rw none refl
acknowledgement_tries kinds.Pubrec W12 size identifier code properties none = rw none refl
acknowledgement_tries kinds.Pubrec _ size identifier code properties none = refl
acknowledgement_tries kinds.Pubrel W04 size identifier code properties none = rw none refl
acknowledgement_tries kinds.Pubrel W05 size identifier code properties none = rw none refl
acknowledgement_tries kinds.Pubrel W10 size identifier code properties none = rw none refl
acknowledgement_tries kinds.Pubrel W11 size identifier code properties none = rw none refl
acknowledgement_tries kinds.Pubrel W12 size identifier code properties none = rw none refl
acknowledgement_tries kinds.Pubrel _ size identifier code properties none = refl
acknowledgement_tries kinds.Pubcomp W04 size identifier code properties none = rw none refl
acknowledgement_tries kinds.Pubcomp W05 size identifier code properties none = rw none refl
acknowledgement_tries kinds.Pubcomp W10 size identifier code properties none = rw none refl
acknowledgement_tries kinds.Pubcomp W11 size identifier code properties none = rw none refl
acknowledgement_tries kinds.Pubcomp W12 size identifier code properties none = rw none refl
acknowledgement_tries kinds.Pubcomp _ size identifier code properties none = refl

pub acknowledgement_tried : (kind : AcknowledgementKind) (size identifier code : ℕ) (properties : Listed) → properties.items ≡ [] → (rule : PacketRule) → parts_try (other_parts true (nat_lt 4 size)) rule ≡ tries rule size (acknowledgement kind identifier code properties)
acknowledgement_tried kind size identifier code properties none = λ rule. acknowledgement_tries kind rule size identifier code properties none

-- a ping
pingreq_tries : (rule : PacketRule) (size : ℕ) → parts_try (other_parts false false) rule ≡ tries rule size pingreq
unfolding tries
pingreq_tries W01 size = refl
pingreq_tries _ size = refl

pingresp_tries : (rule : PacketRule) (size : ℕ) → parts_try (other_parts false false) rule ≡ tries rule size pingresp
unfolding tries
pingresp_tries W01 size = refl
pingresp_tries _ size = refl

pub pingreq_tried : (size : ℕ) (rule : PacketRule) → parts_try (other_parts false false) rule ≡ tries rule size pingreq
pingreq_tried size rule = pingreq_tries rule size

pub pingresp_tried : (size : ℕ) (rule : PacketRule) → parts_try (other_parts false false) rule ≡ tries rule size pingresp
pingresp_tried size rule = pingresp_tries rule size
