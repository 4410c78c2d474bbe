-- A first byte and a body come to one thing, of three.
use Rattle.std.proofs.Common.{◌≡◌, ℕ, ◌⊎◌, inl, inr, List, Result, Ok, Err, sym, ◌∙◌, ap}
use Rattle.mq_wire.specs.Spellings.{AreBytes}
use Rattle.mq_packet.specs.declared.rule.PacketRule.{PacketRule}
use Rattle.mq_packet.specs.declared.rule.PacketRule.TheVariants as rules
use Rattle.mq_packet.specs.declared.fault.DecodeFault.{DecodeFault}
use Rattle.mq_packet.specs.declared.fault.DecodeFault.TheVariants.{Broken, OtherVersion}
use Rattle.mq_packet.specs.Entries.{Entry, pingreq}
use Rattle.mq_packet.specs.Decoding.{broken, decoded}
use Rattle.mq_packet.specs.Spelled.{IsSpelled, Breaks, IsOtherVersion, DecodesTo}
use Rattle.mq_packet.proofs.Readings.{comes_to_decoded, decoded_only}

-- The parts of an outcome.
abbrev packet_in : Result Entry DecodeFault → Entry
packet_in (Ok entry) = entry
packet_in (Err fault) = pingreq

abbrev place_in : Result Entry DecodeFault → ℕ
place_in (Err (Broken fault)) = fault.at
place_in _ = 0

abbrev rule_in : Result Entry DecodeFault → PacketRule
rule_in (Err (Broken fault)) = fault.rule
rule_in _ = rules.W01

abbrev version_in : Result Entry DecodeFault → ℕ
version_in (Err (OtherVersion version)) = version
version_in _ = 0

module _ (first : ℕ) (body : List ℕ) (known : AreBytes body) where
  same : (one two : Result Entry DecodeFault) → DecodesTo first body one → DecodesTo first body two → one ≡ two
  same one two h k = sym (decoded_only first body one known h) ∙ decoded_only first body two known k

  which : (outcome : Result Entry DecodeFault) → DecodesTo first body outcome → ((entry : Entry) × IsSpelled first body entry) ⊎ (((at : ℕ) × (rule : PacketRule) × Breaks first body at rule) ⊎ ((version : ℕ) × IsOtherVersion first body version))
  which (Ok entry) h = inl (entry, h)
  which (Err (Broken fault)) h = inr (inl (fault.at, fault.rule, h))
  which (Err (OtherVersion version)) h = inr (inr (version, h))

  pub some_outcome : ((entry : Entry) × IsSpelled first body entry) ⊎ (((at : ℕ) × (rule : PacketRule) × Breaks first body at rule) ⊎ ((version : ℕ) × IsOtherVersion first body version))
  some_outcome = which (decoded first body) (comes_to_decoded first body known)

  pub one_packet : (entry other : Entry) → IsSpelled first body entry → IsSpelled first body other → entry ≡ other
  one_packet entry other h k = ap packet_in (same (Ok entry) (Ok other) h k)

  pub one_fault : (at place : ℕ) (rule other : PacketRule) → Breaks first body at rule → Breaks first body place other → (at ≡ place) × (rule ≡ other)
  one_fault at place rule other h k =
      (ap place_in (same (Err (broken at rule)) (Err (broken place other)) h k), ap rule_in (same (Err (broken at rule)) (Err (broken place other)) h k))

  pub one_version : (version other : ℕ) → IsOtherVersion first body version → IsOtherVersion first body other → version ≡ other
  one_version version other h k = ap version_in (same (Err (OtherVersion version)) (Err (OtherVersion other)) h k)

  pub no_fault : (entry : Entry) (at : ℕ) (rule : PacketRule) → IsSpelled first body entry → ¬ Breaks first body at rule
  no_fault entry at rule h k = (let never = same (Ok entry) (Err (broken at rule)) h k in cc)

  pub no_version : (entry : Entry) (version : ℕ) → IsSpelled first body entry → ¬ IsOtherVersion first body version
  no_version entry version h k = (let never = same (Ok entry) (Err (OtherVersion version)) h k in cc)

  pub not_both : (at : ℕ) (rule : PacketRule) (version : ℕ) → Breaks first body at rule → ¬ IsOtherVersion first body version
  not_both at rule version h k = (let never = same (Err (broken at rule)) (Err (OtherVersion version)) h k in cc)
