-- Bytes are a CONNECT of another version exactly where they begin as one.
use Rattle.std.proofs.Common.{◌≡◌, ◌≢◌, ℕ, ◌+◌, ◌↔◌, Bool, true, false, inl, inr, List, [], ◌∷◌, ◌++◌, length, Option, Some, None, Result, Err, refl, sym, ◌∙◌, ap, subst}
use Rattle.std.specs.Prelude.{nat_lt, ◌==◌, if◌then◌else◌, bit_and, bytes_eq, codes}
use Rattle.std.proofs.lemmas.Bool.{eqb-false, ne_eqb}
use Rattle.std.proofs.lemmas.Str.{IsUtf8-from_ascii}
use Rattle.std.proofs.lemmas.Slice.Eq.{bytes_eq-Decides}
use Rattle.mq_wire.specs.Spellings.{AreBytes, IsByte, IsText, text_spelling}
use Rattle.mq_packet.specs.declared.packet.Qos.{Qos}
use Rattle.mq_packet.specs.declared.packet.Qos.TheVariants.{AtMostOnce, AtLeastOnce, ExactlyOnce}
use Rattle.mq_packet.specs.declared.packet.PacketType.{PacketType}
use Rattle.mq_packet.specs.declared.packet.PacketType.TheVariants as types
use Rattle.mq_packet.specs.declared.packet.AcknowledgementKind.{AcknowledgementKind}
use Rattle.mq_packet.specs.declared.packet.AcknowledgementKind.TheVariants as acknowledgements
use Rattle.mq_packet.specs.declared.packet.ReasonPacketKind.{ReasonPacketKind}
use Rattle.mq_packet.specs.declared.packet.ReasonPacketKind.TheVariants as endings
use Rattle.mq_packet.specs.declared.packet.RequestKind.{RequestKind}
use Rattle.mq_packet.specs.declared.packet.RequestKind.TheVariants as requests
use Rattle.mq_packet.specs.declared.rule.PacketRule.{PacketRule}
use Rattle.mq_packet.specs.declared.rule.PacketRule.TheVariants as rules
use Rattle.mq_packet.specs.declared.fault.DecodeFault.{DecodeFault}
use Rattle.mq_packet.specs.declared.fault.DecodeFault.TheVariants.{OtherVersion}
use Rattle.mq_packet.specs.Entries.{Entry, WillFields, acknowledgement_codes, pingreq, pingresp, reason_packet_codes}
use Rattle.mq_packet.specs.Formats.{Kind, byte, two_bytes, text, binary, properties, ValueOf, Objection, breaks, other_version, unless_broken, name_objection, version_objection, are_connect_flags, connect_flags_objection, is_code, names_topic, is_filter, are_options, filter_objection, options_objection, Format, done, rest, all_codes, all_filters, bad_first_byte, field, at_end, field_if, will_if, has_bits, connect_from, connect_format, connack_format, publish_from, publish_unacknowledged, publish_acknowledged, publish_format, acknowledgement_format, identified, request_format, answer_format, reason_packet_format, format_of, format_by_type}
use Rattle.mq_packet.specs.FirstBytes.{reserved_flags, flags_in, are_flags, first_byte_with}
use Rattle.mq_packet.specs.Decoding.{objected, body_start, decoded}
use Rattle.mq_packet.specs.Misspellings.{MisspelledAs}
use Rattle.mq_packet.specs.Spelled.{spelling, FailsField, FailsOptions, FailsFilter, Fails, IsOtherVersion, DecodesTo}
use Rattle.mq_packet.specs.Versions.{IsConnectOfVersion}
use Rattle.mq_packet.specs.Valid.{is_identifier}
use Rattle.mq_packet.proofs.ValueLaws.{text_value, not_objected}
use Rattle.mq_packet.proofs.CanonicalLaws.{name_ascii}
use Rattle.mq_packet.proofs.FirstByteLaws.{reserved_first, each_first}
use Rattle.mq_packet.proofs.Readings.{comes_to_decoded, decoded_only}

-- ---- formats that know no version

-- Nothing is objected but a broken rule.
abbrev IsRule : Option Objection → Type 0
IsRule None = Unit {0}
IsRule (Some (breaks rule)) = Unit {0}
IsRule (Some (other_version version)) = ⊥

-- No field of the format is a version.
abbrev HasNoVersion : Format → Type 0
HasNoVersion (done packet) = Unit {0}
HasNoVersion (rest packet) = Unit {0}
HasNoVersion (all_codes table packet) = Unit {0}
HasNoVersion (all_filters asks packet) = Unit {0}
HasNoVersion (bad_first_byte rule) = Unit {0}
HasNoVersion (field kind objection next) = (value : ValueOf kind) → IsRule (objection value) × HasNoVersion (next value)
HasNoVersion (at_end whole more) = HasNoVersion whole × HasNoVersion more

broken_rule : (good : Bool) (rule : PacketRule) → IsRule (unless_broken good rule)
broken_rule true rule = tt
broken_rule false rule = tt

-- Neither is a field that isn't spelled.
misspelled_no : (kind : Kind) (at : ℕ) (bytes : List ℕ) (version : ℕ) → MisspelledAs kind at bytes (OtherVersion version) → ⊥
misspelled_no byte at bytes version h = (let never = h.is in cc)
misspelled_no two_bytes at bytes version h = (let never = h.is in cc)
misspelled_no text at bytes version h = (let never = h.is in cc)
misspelled_no binary at bytes version h = (let never = h.is in cc)
misspelled_no (properties place) at bytes version h = (let never = h.is in cc)

objected_no : (o : Option Objection) (why : Objection) (at version : ℕ) → IsRule o → o ≡ Some why → OtherVersion version ≡ objected at why → ⊥
objected_no o (breaks rule) at version h is e = cc
objected_no o (other_version w) at version h is e = subst (λ (x : Option Objection). IsRule x) is h

field_no : (kind : Kind) (objection : ValueOf kind → Option Objection) → ((value : ValueOf kind) → IsRule (objection value)) → (at : ℕ) (bytes : List ℕ) (version : ℕ) → FailsField kind objection at bytes (OtherVersion version) → ⊥
field_no kind objection rule at bytes version (inl fails) = misspelled_no kind at bytes version fails
field_no kind objection rule at bytes version (inr fails) = objected_no (objection fails.1.0) fails.0 at version (rule fails.1.0) fails.1.3 fails.2

options_no : (asks : Bool) (at : ℕ) (bytes : List ℕ) (version : ℕ) → FailsOptions asks at bytes (OtherVersion version) → ⊥
options_no false at bytes version fails = fails
options_no true at bytes version fails = field_no byte options_objection (λ options. broken_rule (are_options options) rules.W17) at bytes version fails

filter_no : (asks : Bool) (at : ℕ) (bytes : List ℕ) (version : ℕ) → FailsFilter asks at bytes (OtherVersion version) → ⊥
filter_no asks at bytes version (inl fails) = field_no text filter_objection (λ filter. broken_rule (is_filter filter) rules.W15) at bytes version fails
filter_no asks at bytes version (inr fails) = options_no asks _ fails.1 version fails.4

-- So none is ever found.
no_version : (format : Format) → HasNoVersion format → (at : ℕ) (bytes : List ℕ) (version : ℕ) → Fails format at bytes (OtherVersion version) → ⊥
no_version (done packet) h at bytes version fails = (let never = fails.1 in cc)
no_version (rest packet) h at bytes version fails = fails
no_version (all_codes table packet) h at bytes version fails = (let never = fails.is in cc)
no_version (all_filters asks packet) h at bytes version (inl fails) = (let never = fails.1 in cc)
no_version (all_filters asks packet) h at bytes version (inr fails) = filter_no asks _ fails.others version fails.refused
no_version (bad_first_byte rule) h at bytes version fails = cc
no_version (field kind objection next) h at bytes version (inl fails) = misspelled_no kind at bytes version fails
no_version (field kind objection next) h at bytes version (inr (inl fails)) = objected_no (objection fails.1.0) fails.0 at version (h fails.1.0).0 fails.1.3 fails.2
no_version (field kind objection next) h at bytes version (inr (inr fails)) = no_version (next fails.0) (h fails.0).1 _ fails.1 version fails.4
no_version (at_end whole more) h at [] version fails = no_version whole h.0 at [] version fails
no_version (at_end whole more) h at (b ∷ bytes) version fails = no_version more h.1 at (b ∷ bytes) version fails

-- ---- the formats

field_if_none : (flag : Bool) (kind : Kind) (next : Option (ValueOf kind) → Format) → ((value : Option (ValueOf kind)) → HasNoVersion (next value)) → HasNoVersion (field_if flag kind next)
field_if_none false kind next h = h None
field_if_none true kind next h = λ value. (tt, h (Some value))

will_if_none : (flag : Bool) (flags : ℕ) (next : Option WillFields → Format) → ((will : Option WillFields) → HasNoVersion (next will)) → HasNoVersion (will_if flag flags next)
will_if_none false flags next h = h None
will_if_none true flags next h = λ list. (tt, λ topic. (tt, λ payload. (tt, h (Some _))))

connect_none : (flags : ℕ) → HasNoVersion (connect_from flags)
connect_none flags = λ keep_alive. (
  tt,
  λ list. (
    tt,
    λ client. (
      tt,
      will_if_none (has_bits 4 flags) flags _ (λ will. field_if_none (has_bits 128 flags) text _ (λ user_name. field_if_none (has_bits 64 flags) binary _ (λ password. tt))),
    ),
  ),
)

connack_none : HasNoVersion connack_format
connack_none = λ flags. (broken_rule (nat_lt flags 2) rules.W20, λ code. (broken_rule _ rules.W13, λ list. (tt, tt)))

publish_from_none : (duplicate : Bool) (qos : Qos) (retain : Bool) (topic : List ℕ) (identifier : Option ℕ) → HasNoVersion (publish_from duplicate qos retain topic identifier)
publish_from_none duplicate qos retain topic identifier = λ list. (broken_rule (names_topic topic list) rules.W21, tt)

unacknowledged_none : (retain : Bool) → HasNoVersion (publish_unacknowledged retain)
unacknowledged_none retain = λ topic. (broken_rule _ rules.W14, publish_from_none false AtMostOnce retain topic None)

acknowledged_none : (duplicate : Bool) (qos : Qos) (retain : Bool) → HasNoVersion (publish_acknowledged duplicate qos retain)
acknowledged_none duplicate qos retain = λ topic. (broken_rule _ rules.W14, λ identifier. (broken_rule (is_identifier identifier) rules.W09, publish_from_none duplicate qos retain topic (Some identifier)))

-- One choice by the first byte.
or_next : (b : Bool) (one two : Format) → HasNoVersion one → HasNoVersion two → HasNoVersion (if b then one else two)
or_next true one two h k = h
or_next false one two h k = k

publish_none : (first : ℕ) → HasNoVersion (publish_format first)
publish_none first =
    or_next (bit_and first 6 == 0) _ _ (or_next (has_bits 8 first) (bad_first_byte rules.W08) (publish_unacknowledged (has_bits 1 first)) tt (unacknowledged_none (has_bits 1 first))) (
    or_next (bit_and first 6 == 2) _ _ (acknowledged_none (has_bits 8 first) AtLeastOnce (has_bits 1 first)) (
    or_next (bit_and first 6 == 4) (publish_acknowledged (has_bits 8 first) ExactlyOnce (has_bits 1 first)) (bad_first_byte rules.W07) (acknowledged_none (has_bits 8 first) ExactlyOnce (has_bits 1 first)) tt))

acknowledgement_none : (kind : AcknowledgementKind) → HasNoVersion (acknowledgement_format kind)
acknowledgement_none kind = λ identifier. (broken_rule (is_identifier identifier) rules.W09, (tt, λ code. (broken_rule (is_code (acknowledgement_codes kind) code) rules.W13, (tt, λ list. (tt, tt)))))

request_none : (kind : RequestKind) → HasNoVersion (request_format kind)
unfolding identified
request_none kind = λ identifier. (broken_rule (is_identifier identifier) rules.W09, λ list. (tt, tt))

answer_none : (kind : RequestKind) → HasNoVersion (answer_format kind)
unfolding identified
answer_none kind = λ identifier. (broken_rule (is_identifier identifier) rules.W09, λ list. (tt, tt))

reason_packet_none : (kind : ReasonPacketKind) → HasNoVersion (reason_packet_format kind)
reason_packet_none kind = (tt, λ code. (broken_rule (is_code (reason_packet_codes kind) code) rules.W13, (tt, λ list. (tt, tt))))

-- ---- CONNECT

other_version_is : (version other : ℕ) → version_objection version ≡ Some (other_version other) → (version ≡ other) × (version ≢ 5)
other_version_is version other e =
    elim (version == 5) as (λ t. (version == 5) ≡ t → (if t then None else Some (other_version version)) ≡ Some (other_version other) → (version ≡ other) × (version ≢ 5)) [
      | true ↦ λ is h. absurd (cc)
      | false ↦ λ is h. ((let same : version ≡ other = cc in same), eqb-false version 5 is)
    ] refl e

objected_version : (at version : ℕ) (why : Objection) → OtherVersion version ≡ objected at why → why ≡ other_version version
objected_version at version (breaks rule) e = absurd (cc)
objected_version at version (other_version w) e = (let same : version ≡ w = cc in ap (λ (k : ℕ). other_version k) (sym same))

connect_version : (at : ℕ) (body : List ℕ) (version : ℕ) → Fails connect_format at body (OtherVersion version) → IsConnectOfVersion 16 body version
connect_version at body version (inl fails) = absurd (misspelled_no text at body version fails)
connect_version at body version (inr (inl fails)) = absurd (objected_no (name_objection fails.1.0) fails.0 at version (broken_rule (bytes_eq fails.1.0 (codes "MQTT")) rules.W18) fails.1.3 fails.2)
connect_version at body version (inr (inr fails)) = versioned fails.4
  where
    name_is : fails.0 ≡ codes "MQTT"
    name_is = (bytes_eq-Decides fails.0 (codes "MQTT")).0 (not_objected (bytes_eq fails.0 (codes "MQTT")) rules.W18 fails.3)

    versioned : Fails (field byte version_objection (λ v. field byte connect_flags_objection (λ flags. connect_from flags))) (at + length (spelling text fails.0)) fails.1 (OtherVersion version) → IsConnectOfVersion 16 body version
    versioned (inl wrong) = absurd (misspelled_no byte _ fails.1 version wrong)
    versioned (inr (inl other)) =
        (let known : (other.1.0 ≡ version) × (other.1.0 ≢ 5) = other_version_is other.1.0 version (other.1.3 ∙ ap (λ (w : Objection). Some w) (objected_version _ version other.0 other.2)) in
        let found : IsConnectOfVersion 16 body other.1.0 = record {
          following = other.1.1;
          first_is = refl;
          body_is = fails.2.spelled ∙ (ap (λ (name : List ℕ). text_spelling name ++ fails.1) name_is ∙ ap (λ (l : List ℕ). text_spelling (codes "MQTT") ++ l) other.1.2.spelled);
          is_byte = other.1.2.is_value;
          other = known.1;
        } in
        subst (λ (v : ℕ). IsConnectOfVersion 16 body v) known.0 found)
    versioned (inr (inr good)) = absurd (no_version (field byte connect_flags_objection (λ flags. connect_from flags)) (λ flags. (broken_rule (are_connect_flags flags) rules.W19, connect_none flags)) _ good.1 version good.4)

-- ---- any first byte

-- What another version by a format shows of the bytes: they are a CONNECT of it.
module _ (first at : ℕ) (body : List ℕ) (version : ℕ) where
  abbrev Shows : Format → Type 0
  Shows format = Fails format at body (OtherVersion version) → IsConnectOfVersion first body version

  none_shows : (format : Format) → HasNoVersion format → Shows format
  none_shows format h fails = absurd (no_version format h at body version fails)

  connect_shows : first ≡ 16 → Shows connect_format
  connect_shows is fails = subst (λ (f : ℕ). IsConnectOfVersion f body version) (sym is) (connect_version at body version fails)

  type_shows : (type : PacketType) (flags : ℕ) → first ≡ first_byte_with type (flags_in first) → are_flags (reserved_flags type) (flags_in first) ≡ true → Shows (format_by_type type flags)
  type_shows types.Connect flags is e = connect_shows (reserved_first first 0 types.Connect is e)
  type_shows types.Connack flags is e = none_shows connack_format connack_none
  type_shows types.Publish flags is e = none_shows (publish_format flags) (publish_none flags)
  type_shows types.Puback flags is e = none_shows (acknowledgement_format acknowledgements.Puback) (acknowledgement_none acknowledgements.Puback)
  type_shows types.Pubrec flags is e = none_shows (acknowledgement_format acknowledgements.Pubrec) (acknowledgement_none acknowledgements.Pubrec)
  type_shows types.Pubrel flags is e = none_shows (acknowledgement_format acknowledgements.Pubrel) (acknowledgement_none acknowledgements.Pubrel)
  type_shows types.Pubcomp flags is e = none_shows (acknowledgement_format acknowledgements.Pubcomp) (acknowledgement_none acknowledgements.Pubcomp)
  type_shows types.Subscribe flags is e = none_shows (request_format requests.Subscribe) (request_none requests.Subscribe)
  type_shows types.Suback flags is e = none_shows (answer_format requests.Subscribe) (answer_none requests.Subscribe)
  type_shows types.Unsubscribe flags is e = none_shows (request_format requests.Unsubscribe) (request_none requests.Unsubscribe)
  type_shows types.Unsuback flags is e = none_shows (answer_format requests.Unsubscribe) (answer_none requests.Unsubscribe)
  type_shows types.Pingreq flags is e = none_shows (done pingreq) tt
  type_shows types.Pingresp flags is e = none_shows (done pingresp) tt
  type_shows types.Disconnect flags is e = none_shows (reason_packet_format endings.Disconnect) (reason_packet_none endings.Disconnect)
  type_shows types.Auth flags is e = none_shows (reason_packet_format endings.Auth) (reason_packet_none endings.Auth)

  format_shows : Shows (format_of first)
  format_shows =
      each_first Shows first (none_shows (bad_first_byte rules.W01) tt) (none_shows (bad_first_byte rules.W02) tt) (λ type is e. type_shows type (flags_in first) is e)

version_connects : (first : ℕ) (body : List ℕ) (version : ℕ) → IsOtherVersion first body version → IsConnectOfVersion first body version
version_connects first body version = format_shows first (body_start (length body)) body version

-- ---- such bytes have another version

connect_versions : (at version : ℕ) (trailing : List ℕ) → IsByte version → version ≢ 5 → Fails connect_format at (text_spelling (codes "MQTT") ++ (version ∷ trailing)) (OtherVersion version)
connect_versions at version trailing small other =
    (let name : IsText (codes "MQTT") = text_value (codes "MQTT") (IsUtf8-from_ascii (codes "MQTT") name_ascii) refl in
    let objects : version_objection version ≡ Some (other_version version) = ap (λ (t : Bool). if t then None else Some (other_version version)) (ne_eqb version 5 other) in
    inr (inr (
      codes "MQTT",
      version ∷ trailing,
      record { is_value = name; spelled = refl },
      refl,
      inr (inl (other_version version, (version, trailing, record { is_value = small; spelled = refl }, objects), refl)),
    )))

connects_version : (first : ℕ) (body : List ℕ) (version : ℕ) → IsConnectOfVersion first body version → IsOtherVersion first body version
connects_version first body version h =
    (let found : IsOtherVersion 16 (text_spelling (codes "MQTT") ++ (version ∷ h.following)) version = connect_versions (body_start (length (text_spelling (codes "MQTT") ++ (version ∷ h.following)))) version h.following h.is_byte h.other in
    let here : IsOtherVersion 16 body version = subst (λ (l : List ℕ). IsOtherVersion 16 l version) (sym h.body_is) found in
    subst (λ (f : ℕ). IsOtherVersion f body version) (sym h.first_is) here)

pub version_exactly : (first : ℕ) (body : List ℕ) (version : ℕ) → IsOtherVersion first body version ↔ IsConnectOfVersion first body version
version_exactly first body version = (version_connects first body version, connects_version first body version)

pub version_decoded : (first : ℕ) (body : List ℕ) (version : ℕ) → AreBytes body → (decoded first body ≡ Err (OtherVersion version)) ↔ IsConnectOfVersion first body version
version_decoded first body version known = (
  λ e. version_connects first body version (subst (λ (r : Result Entry DecodeFault). DecodesTo first body r) e (comes_to_decoded first body known)),
  λ h. decoded_only first body (Err (OtherVersion version)) known (connects_version first body version h),
)
