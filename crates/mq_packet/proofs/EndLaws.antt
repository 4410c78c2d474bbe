-- A Reason Code and properties at the end of a packet: each spelling of them spells them.
use Rattle.std.proofs.Common.{◌≡◌, ℕ, inl, inr, true, ◌&&◌, List, [], ◌∷◌, length, refl, sym, ◌∙◌, ap, subst, arith, length-append}
use Rattle.std.specs.Prelude.{nat_lt}
use Rattle.std.specs.List.{list_all}
use Rattle.std.proofs.lemmas.Bool.{and_parts}
use Rattle.std.proofs.lemmas.List.{append-nil}
use Rattle.mq_wire.specs.Spellings.{varint_spelling}
use Rattle.mq_props.specs.declared.table.Place.{Place}
use Rattle.mq_props.specs.Table.{same_place}
use Rattle.mq_props.specs.Values.{Property, body as properties_spelling}
use Rattle.mq_props.specs.Listed.{Listed}
use Rattle.mq_packet.specs.declared.packet.AcknowledgementKind.{AcknowledgementKind}
use Rattle.mq_packet.specs.declared.packet.AcknowledgementKind.TheVariants as acknowledgements
use Rattle.mq_packet.specs.declared.packet.ReasonPacketKind.{ReasonPacketKind}
use Rattle.mq_packet.specs.declared.packet.ReasonPacketKind.TheVariants as endings
use Rattle.mq_packet.specs.declared.rule.PacketRule.TheVariants as rules
use Rattle.mq_packet.specs.Entries.{Entry, acknowledgement, listed, none_listed, acknowledgement_place, acknowledgement_codes, reason_packet, reason_packet_place, reason_packet_codes}
use Rattle.mq_packet.specs.Formats.{byte, properties, Format, done, field, at_end, any_value, code_objection, is_code, acknowledgement_format, reason_packet_format}
use Rattle.mq_packet.specs.Spelled.{IsValueOf, Spells}
use Rattle.mq_packet.specs.Canonical.{list_spelling}
use Rattle.mq_packet.specs.Valid.{is_identifier, valid_acknowledgement, valid_reason_packet, IsListed, IsIdentified}
use Rattle.mq_packet.specs.ShortForms.{SpellsEnd, IsBodyOf}
use Rattle.mq_packet.proofs.ValueLaws.{varint_some, listed_is, list_value, code_value, unobjected}

-- The codes of a table are bytes.
abbrev pub AreCodes : List ℕ → Type 0
AreCodes table = list_all (λ c. nat_lt c 256) table ≡ true

-- A Reason Code and properties, each left out where it may be.
abbrev pub after_code : Place → (ℕ → Listed → Entry) → ℕ → Format
after_code place make code = at_end (done (make code (none_listed place))) (field (properties place) any_value (λ list. done (make code (listed place list))))

abbrev pub coded : List ℕ → Place → (ℕ → Listed → Entry) → Format
coded table place make = at_end (done (make 0 (none_listed place))) (field byte (code_objection table) (λ code. after_code place make code))

list_spells : (place : Place) (make : ℕ → Listed → Entry) (code : ℕ) (items : List Property) (l : List ℕ) → IsValueOf (properties place) items → l ≡ list_spelling items → Spells (after_code place make code) l (make code (listed place items))
list_spells place make code items [] ok e =
    absurd (omega (arith, varint_some (length (properties_spelling items)), length-append (varint_spelling (length (properties_spelling items))) (properties_spelling items), ap (length {A = ℕ}) e))
list_spells place make code items (b ∷ l) ok e = (items, [], record { is_value = ok; spelled = e ∙ sym (append-nil (list_spelling items)) }, refl, (refl, refl))

module _ (table : List ℕ) (bytes : AreCodes table) (place : Place) (make : ℕ → Listed → Entry) where
  code_spells : (code : ℕ) (items : List Property) (l : List ℕ) → is_code table code ≡ true → Spells (after_code place make code) l (make code (listed place items)) → Spells (coded table place make) (code ∷ l) (make code (listed place items))
  code_spells code items l known h = (code, l, record { is_value = code_value table code bytes known; spelled = refl }, unobjected (is_code table code) rules.W13 known, h)

  end_spells : (code : ℕ) (items : List Property) (end : List ℕ) → IsValueOf (properties place) items → is_code table code ≡ true → SpellsEnd code items end → Spells (coded table place make) end (make code (listed place items))
  end_spells code items end ok known (inl e) =
      subst (λ (b : List ℕ). Spells (coded table place make) b (make code (listed place items))) (sym e) (code_spells code items (list_spelling items) known (list_spells place make code items (list_spelling items) ok refl))
  end_spells code items end ok known (inr (inl h)) =
      (let found : Spells (coded table place make) (code ∷ []) (make code (listed place [])) = code_spells code [] [] known (refl, refl) in
      let there : Spells (coded table place make) (code ∷ []) (make code (listed place items)) = subst (λ (l : List Property). Spells (coded table place make) (code ∷ []) (make code (listed place l))) (sym h.0) found in
      subst (λ (b : List ℕ). Spells (coded table place make) b (make code (listed place items))) (sym h.1) there)
  end_spells code items end ok known (inr (inr h)) =
      (let found : Spells (coded table place make) [] (make 0 (listed place [])) = (refl, refl) in
      let coded_so : Spells (coded table place make) [] (make code (listed place [])) = subst (λ (c : ℕ). Spells (coded table place make) [] (make c (listed place []))) (sym h.1) found in
      let there : Spells (coded table place make) [] (make code (listed place items)) = subst (λ (l : List Property). Spells (coded table place make) [] (make code (listed place l))) (sym h.0) coded_so in
      subst (λ (b : List ℕ). Spells (coded table place make) b (make code (listed place items))) (sym h.2) there)

-- The tables hold bytes.
acknowledgement_bytes : (kind : AcknowledgementKind) → AreCodes (acknowledgement_codes kind)
acknowledgement_bytes acknowledgements.Puback = refl
acknowledgement_bytes acknowledgements.Pubrec = refl
acknowledgement_bytes acknowledgements.Pubrel = refl
acknowledgement_bytes acknowledgements.Pubcomp = refl

pub acknowledgement_spells : (kind : AcknowledgementKind) (identifier code : ℕ) (list : Listed) (body : List ℕ) → IsIdentified identifier list → valid_acknowledgement kind identifier code list ≡ true
    → IsBodyOf (acknowledgement kind identifier code list) body → Spells (acknowledgement_format kind) body (acknowledgement kind identifier code list)
unfolding valid_acknowledgement
acknowledgement_spells kind identifier code list body ok e h =
    (let parts : (same_place list.place (acknowledgement_place kind) ≡ true) × ((is_identifier identifier && is_code (acknowledgement_codes kind) code) ≡ true) = and_parts _ _ e in
    let known : (is_identifier identifier ≡ true) × (is_code (acknowledgement_codes kind) code ≡ true) = and_parts _ _ parts.1 in
    let value : IsValueOf (properties (acknowledgement_place kind)) list.items = list_value (acknowledgement_place kind) list ok.properties parts.0 in
    subst (λ (l : Listed). Spells (acknowledgement_format kind) body (acknowledgement kind identifier code l)) (listed_is (acknowledgement_place kind) list parts.0) (
      identifier,
      h.0,
      record { is_value = ok.bound; spelled = h.1 },
      unobjected (is_identifier identifier) rules.W09 known.0,
      end_spells (acknowledgement_codes kind) (acknowledgement_bytes kind) (acknowledgement_place kind) (acknowledgement kind identifier) code list.items h.0 value known.1 h.2,
    ))

reason_packet_bytes : (kind : ReasonPacketKind) → AreCodes (reason_packet_codes kind)
reason_packet_bytes endings.Disconnect = refl
reason_packet_bytes endings.Auth = refl

pub reason_packet_spells : (kind : ReasonPacketKind) (code : ℕ) (list : Listed) (body : List ℕ) → IsListed list → valid_reason_packet kind code list ≡ true → SpellsEnd code list.items body → Spells (reason_packet_format kind) body (reason_packet kind code list)
unfolding valid_reason_packet
reason_packet_spells kind code list body ok e h =
    (let parts : (same_place list.place (reason_packet_place kind) ≡ true) × (is_code (reason_packet_codes kind) code ≡ true) = and_parts _ _ e in
    subst (λ (l : Listed). Spells (reason_packet_format kind) body (reason_packet kind code l)) (listed_is (reason_packet_place kind) list parts.0)
    (end_spells (reason_packet_codes kind) (reason_packet_bytes kind) (reason_packet_place kind) (reason_packet kind) code list.items body (list_value (reason_packet_place kind) list ok parts.0) parts.1 h))
