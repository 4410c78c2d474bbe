-- Packets in their shortest form.
use Rattle.std.proofs.Common.{arith, ◌≡◌, ℕ, ◌+◌, ◌<◌, Bool, true, false, eqb, List, [], ◌∷◌, length, drop, Result, Ok, Err, None, inl, inr, refl, sym, ap, ◌∙◌}
use Rattle.std.proofs.lemmas.Bool.{eqb-true, not-true}
use Rattle.std.proofs.lemmas.List.{drop_more, length-drop}
use Rattle.std.specs.Prelude.{◌⊎◌, ◌==◌, bit_and, if◌then◌else◌, Option, Some, IfSome, not, slice_index}
use Rattle.std.specs.Int.{w16, from_be_bytes}
use Rattle.mq_wire.specs.Left.{Left, past, placed}
use Rattle.mq_wire.specs.Fields.{text_at, binary_at}
use Rattle.mq_wire.specs.declared.fault.Reason.{Reason}
use Rattle.mq_wire.specs.Plain.{is_plain, if_plain, plain_text_at}
use Rattle.mq_wire.specs.Spellings.{AreBytes}
use Rattle.mq_props.specs.declared.table.Place.TheVariants as places
use Rattle.mq_props.specs.Empty.{begins_with_zero}
use Rattle.mq_wire.proofs.Exports.{both}
use Rattle.mq_props.proofs.Exports.{empty_read}
use Rattle.mq_packet.specs.declared.packet.Publish.{Publish}
use Rattle.mq_packet.specs.declared.packet.AcknowledgementKind.{AcknowledgementKind}
use Rattle.mq_packet.specs.declared.packet.Packet.{Packet}
use Rattle.mq_packet.specs.declared.packet.Packet.TheVariants as packets
use Rattle.mq_packet.specs.declared.packet.Qos.{Qos}
use Rattle.mq_packet.specs.declared.packet.Qos.TheVariants.{AtLeastOnce, ExactlyOnce}
use Rattle.mq_packet.specs.Entries.{publish, none_listed, acknowledgement, acknowledgement_place}
use Rattle.mq_packet.specs.Brief.{has_no_properties, goes_on_without_properties, brief_fields, identified_fields, starts_identified}
use Rattle.mq_packet.specs.Formats.{text, two_bytes, properties, topic_objection, identifier_objection, alias_objection, has_bits, publish_format, publish_unacknowledged, publish_acknowledged, acknowledgement_format}
use Rattle.mq_packet.specs.Decoding.{read, read_field, decoded}
use Rattle.mq_packet.specs.Reading.{view, HasReadLen}
use Rattle.mq_packet.specs.Sizes.{remaining_length}
use Rattle.mq_packet.proofs.BodyLaws.{remaining_given}
use Rattle.mq_packet.proofs.FieldLaws.{plain_topic}

-- what follows in a list
following : (n : ℕ) (bytes : List ℕ) (byte : ℕ) (rest : List ℕ) → drop n bytes ≡ byte ∷ rest → (n < length bytes) × (slice_index bytes n ≡ byte) × (drop (n + 1) bytes ≡ rest)
following n bytes byte rest is =
    let within : n < length bytes = (let l = ap (length {A = ℕ}) is in let m = length-drop n bytes in omega arith) in
    let more : drop n bytes ≡ slice_index bytes n ∷ drop (n + 1) bytes = drop_more bytes n 0 within in
    let same : slice_index bytes n ∷ drop (n + 1) bytes ≡ byte ∷ rest = sym more ∙ is in (within, cc, cc)

-- An empty property list follows the Topic Name, if there are no properties.
goes_on_so : (body : List ℕ) (found : Result (List ℕ × ℕ) Reason) (x : List ℕ × ℕ) → if_plain found ≡ Some x → goes_on_without_properties body found ≡ begins_with_zero (drop x.1 body)
goes_on_so body (Err reason) x e = absurd cc
goes_on_so body (Ok found) x e = by_plain (is_plain found.0) refl
  where
    by_plain : (t : Bool) → is_plain found.0 ≡ t → goes_on_without_properties body (Ok found) ≡ begins_with_zero (drop x.1 body)
    by_plain true is = let same : found ≡ x = (let e' : Some found ≡ Some x = sym (ap (λ t. if t then Some found else None) is) ∙ e in cc) in ap (λ (y : List ℕ × ℕ). begins_with_zero (drop y.1 body)) same
    by_plain false is = absurd (let e' : None ≡ Some x = sym (ap (λ t. if t then Some found else None) is) ∙ e in cc)

pub goes_on : (body : List ℕ) (x : List ℕ × ℕ) → plain_text_at body ≡ Some x → has_no_properties body ≡ true → begins_with_zero (drop x.1 body) ≡ true
goes_on body x e h = sym (goes_on_so body (binary_at body) x e) ∙ h

-- the byte 0, and what follows it
zero_first : (bytes : List ℕ) → begins_with_zero bytes ≡ true → (rest : List ℕ) × (bytes ≡ 0 ∷ rest)
zero_first [] h = absurd cc
zero_first (byte ∷ rest) h = (rest, ap (λ n. n ∷ rest) (eqb-true byte 0 h))

-- A PUBLISH of QoS 0 is read from its Topic Name, the byte 0 of its property list, and its payload.
read_brief : (retain : Bool) (left : Left) (topic : List ℕ) (new : Left) (payload : List ℕ) → placed left (text_at left.rest) ≡ Ok (topic, new) → is_plain topic ≡ true
    → eqb (length topic) 0 ≡ false → new ≡ past left (2 + length topic) → new.rest ≡ 0 ∷ payload
    → read (publish_unacknowledged retain) left ≡ Ok (publish (brief_fields retain topic left.rest))
read_brief retain left topic new payload e plain some moved is =
    (let named : read_field text topic_objection left ≡ Ok (topic, new) = plain_topic left topic new e plain in
    let none : read_field (properties places.Publish) (alias_objection topic) new ≡ Ok ([], record { at = new.at + 1; rest = payload }) = rw (empty_read places.Publish new payload is, some) refl in
    let after : drop (2 + length topic + 1) left.rest ≡ payload = (following (2 + length topic) left.rest 0 payload (ap (λ (l : Left). l.rest) (sym moved) ∙ is)).2 in
    let payload_is : payload ≡ drop (length topic + 3) left.rest = sym after ∙ ap (λ n. drop n left.rest) (let same : 2 + length topic + 1 ≡ length topic + 3 = omega arith in same) in
    rw (named, none) (ap (λ (l : List ℕ). Ok (publish (record (brief_fields retain topic left.rest) { payload = l }))) payload_is))

pub brief_publish : (retain : Bool) (left : Left) (topic : List ℕ) (new : Left) → placed left (text_at left.rest) ≡ Ok (topic, new) → is_plain topic ≡ true → eqb (length topic) 0 ≡ false
    → new ≡ past left (2 + length topic) → begins_with_zero (drop (2 + length topic) left.rest) ≡ true → read (publish_unacknowledged retain) left ≡ Ok (publish (brief_fields retain topic left.rest))
brief_publish retain left topic new e plain some moved goes =
    let first = zero_first (drop (2 + length topic) left.rest) goes in
    read_brief retain left topic new first.0 e plain some moved (ap (λ (l : Left). l.rest) moved ∙ first.1)

-- A Packet Identifier other than 0 and an empty property list are three bytes, and then what follows.
pub identified_start : (bytes : List ℕ) → starts_identified bytes ≡ true → (a : ℕ) × (b : ℕ) × (payload : List ℕ) × (bytes ≡ a ∷ b ∷ 0 ∷ payload) × (eqb (from_be_bytes w16 (a ∷ b ∷ [])) 0 ≡ false)
identified_start [] h = absurd cc
identified_start (a ∷ []) h = absurd cc
identified_start (a ∷ b ∷ []) h = absurd (let no = both (not (eqb (from_be_bytes w16 (a ∷ b ∷ [])) 0)) false h in cc)
identified_start (a ∷ b ∷ c ∷ payload) h =
    let parts = both (not (eqb (from_be_bytes w16 (a ∷ b ∷ [])) 0)) (eqb c 0) h in
    (a, b, payload, ap (λ n. a ∷ b ∷ n ∷ payload) (eqb-true c 0 parts.1), not-true (eqb (from_be_bytes w16 (a ∷ b ∷ [])) 0) parts.0)

-- One of a QoS above 0 is read from its Topic Name, its Packet Identifier, the byte 0 of its property list, and its payload.
read_identified : (duplicate : Bool) (qos : Qos) (retain : Bool) (left : Left) (topic : List ℕ) (new : Left) (a b : ℕ) (payload : List ℕ) → placed left (text_at left.rest) ≡ Ok (topic, new)
    → is_plain topic ≡ true → eqb (length topic) 0 ≡ false → new ≡ past left (2 + length topic) → new.rest ≡ a ∷ b ∷ 0 ∷ payload → eqb (from_be_bytes w16 (a ∷ b ∷ [])) 0 ≡ false
    → read (publish_acknowledged duplicate qos retain) left ≡ Ok (publish (identified_fields duplicate qos retain topic left.rest))
read_identified duplicate qos retain left topic new a b payload e plain some moved is good =
    (let n = length topic in
    let after : Left = record { at = new.at + 2; rest = 0 ∷ payload } in
    let named : read_field text topic_objection left ≡ Ok (topic, new) = plain_topic left topic new e plain in
    let identified : read_field two_bytes identifier_objection new ≡ Ok (from_be_bytes w16 (a ∷ b ∷ []), after) = rw (is, good) refl in
    let none : read_field (properties places.Publish) (alias_objection topic) after ≡ Ok ([], record { at = after.at + 1; rest = payload }) = rw (empty_read places.Publish after payload refl, some) refl in
    let first = following (2 + n) left.rest a (b ∷ 0 ∷ payload) (ap (λ (l : Left). l.rest) (sym moved) ∙ is) in
    let second = following (2 + n + 1) left.rest b (0 ∷ payload) first.2 in
    let third = following (2 + n + 1 + 1) left.rest 0 payload second.2 in
    let a_is : a ≡ slice_index left.rest (n + 2) = sym first.1 ∙ ap (slice_index left.rest) (let same : 2 + n ≡ n + 2 = omega arith in same) in
    let b_is : b ≡ slice_index left.rest (n + 3) = sym second.1 ∙ ap (slice_index left.rest) (let same : 2 + n + 1 ≡ n + 3 = omega arith in same) in
    let payload_is : payload ≡ drop (n + 5) left.rest = sym third.2 ∙ ap (λ k. drop k left.rest) (let same : 2 + n + 1 + 1 + 1 ≡ n + 5 = omega arith in same) in
    rw (named, identified, none)
    (λ i. Ok (publish (record (identified_fields duplicate qos retain topic left.rest) { identifier = Some (from_be_bytes w16 (a_is i ∷ b_is i ∷ [])); payload = payload_is i }))))

pub identified_publish : (duplicate : Bool) (qos : Qos) (retain : Bool) (left : Left) (topic : List ℕ) (new : Left) → placed left (text_at left.rest) ≡ Ok (topic, new)
    → is_plain topic ≡ true → eqb (length topic) 0 ≡ false → new ≡ past left (2 + length topic) → starts_identified new.rest ≡ true
    → read (publish_acknowledged duplicate qos retain) left ≡ Ok (publish (identified_fields duplicate qos retain topic left.rest))
identified_publish duplicate qos retain left topic new e plain some moved starts =
    let found = identified_start new.rest starts in
    read_identified duplicate qos retain left topic new found.0 found.1 found.2 e plain some moved found.3 found.4

-- The format of a PUBLISH of QoS 1 or 2.
pub acknowledged_format : (flags : ℕ) → (bit_and flags 6 ≡ 2) ⊎ (bit_and flags 6 ≡ 4) → publish_format flags ≡ publish_acknowledged (has_bits 8 flags) (if bit_and flags 6 == 2 then AtLeastOnce else ExactlyOnce) (has_bits 1 flags)
acknowledged_format flags (inl is) = rw is refl
acknowledged_format flags (inr is) = rw is refl

-- It is as long as what it is read from.
pub brief_remaining : (result : Option Publish) (first : ℕ) (body : List ℕ) → AreBytes body → IfSome result (λ p. decoded first body ≡ Ok (view (packets.Publish p)))
    → IfSome result (λ p. remaining_length (packets.Publish p) ≡ length body)
brief_remaining (Some p) first body known given = remaining_given (Ok (packets.Publish p)) first body known given refl
brief_remaining None first body known given = tt

-- An acknowledgement that is no more than a Packet Identifier has the Reason Code 0x00 and no properties.
pub brief_acknowledgement : (kind : AcknowledgementKind) (left : Left) (a b : ℕ) → left.rest ≡ a ∷ b ∷ [] → eqb (from_be_bytes w16 (a ∷ b ∷ [])) 0 ≡ false
    → read (acknowledgement_format kind) left ≡ Ok (acknowledgement kind (from_be_bytes w16 (a ∷ b ∷ [])) 0 (none_listed (acknowledgement_place kind)))
brief_acknowledgement kind left a b is some = rw (is, some) refl

-- Any of these packets is as long as what it is read from.
pub packet_remaining : (result : Option Packet) (first : ℕ) (body : List ℕ) → AreBytes body → IfSome result (λ packet. decoded first body ≡ Ok (view packet))
    → IfSome result (λ packet. HasReadLen (length body) packet) → IfSome result (λ packet. remaining_length packet ≡ length body)
packet_remaining (Some packet) first body known given is = remaining_given (Ok packet) first body known given is
packet_remaining None first body known given is = tt
