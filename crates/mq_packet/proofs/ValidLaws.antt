-- What some bytes spell is valid.
use Rattle.std.proofs.Common.{◌≡◌, ℕ, ◌↔◌, Bool, true, false, List, [], ◌∷◌, Option, Some, None, refl, sym, ◌∙◌, ap}
use Rattle.std.specs.Prelude.{◌==◌, if◌then◌else◌, IfSome, bit_and}
use Rattle.std.specs.Bool.{beq}
use Rattle.std.proofs.lemmas.Bool.{and_from}
use Rattle.mq_wire.specs.Spellings.{IsText, IsBinary}
use Rattle.mq_topic.specs.Levels.{is_name}
use Rattle.mq_props.specs.declared.table.Place.{Place}
use Rattle.mq_props.specs.declared.table.Place.TheVariants as places
use Rattle.mq_props.specs.Values.{Property}
use Rattle.mq_packet.specs.ReasonCodes.{connack_codes, disconnect_codes, auth_codes}
use Rattle.mq_packet.specs.declared.packet.Qos.{Qos}
use Rattle.mq_packet.specs.declared.packet.Qos.TheVariants.{AtMostOnce, AtLeastOnce, ExactlyOnce}
use Rattle.mq_packet.specs.declared.packet.PacketType.{PacketType}
use Rattle.mq_packet.specs.declared.packet.PacketType.TheVariants as types
use Rattle.mq_packet.specs.declared.packet.AcknowledgementKind.{AcknowledgementKind}
use Rattle.mq_packet.specs.declared.packet.AcknowledgementKind.TheVariants as acknowledgements
use Rattle.mq_packet.specs.declared.packet.ReasonPacketKind.TheVariants as endings
use Rattle.mq_packet.specs.declared.packet.RequestKind.{RequestKind}
use Rattle.mq_packet.specs.declared.packet.RequestKind.TheVariants as requests
use Rattle.mq_packet.specs.declared.rule.PacketRule.{PacketRule}
use Rattle.mq_packet.specs.declared.rule.PacketRule.TheVariants as rules
use Rattle.mq_packet.specs.Entries.{Entry, connect, connack, publish, acknowledgement, request, answer, pingreq, pingresp, disconnect, auth, WillFields, listed, acknowledgement_place, acknowledgement_codes, request_place, answer_place, has_options}
use Rattle.mq_packet.specs.Formats.{byte, text, binary, properties, Format, done, bad_first_byte, field, at_end, field_if, will_if, is_code, names_topic, has_bits, qos_of, connect_from, connect_format, connack_format, publish_from, publish_unacknowledged, publish_acknowledged, publish_format, acknowledgement_format, identified, request_format, answer_format, reason_packet_format, any_value, code_objection, format_of, format_by_type}
use Rattle.mq_packet.specs.FirstBytes.{flags_in}
use Rattle.mq_packet.specs.Spelled.{Spells, IsSpelled}
use Rattle.mq_packet.specs.Valid.{is_text, is_binary, is_identifier, if_there, fits_qos, valid_will, valid_connect, valid_connack, valid_publish, valid_acknowledgement, valid_filters, valid_request, valid_answer, valid_reason_packet, valid, IsTyped}
use Rattle.mq_packet.specs.Canonical.{first_byte_of, canonical_body}
use Rattle.mq_packet.proofs.CanonicalLaws.{canonical_spelled}
use Rattle.mq_packet.proofs.RequestLaws.{filters_fit}
use Rattle.mq_packet.proofs.FirstByteLaws.{each_first}
use Rattle.mq_packet.proofs.ValueLaws.{same_as_itself, text_passes, binary_passes, not_objected, field_if_says, if_there_from}

-- What a format spells is valid.
abbrev IsSound : Format → Type 0
IsSound format = (bytes : List ℕ) (entry : Entry) → Spells format bytes entry → valid entry ≡ true

by_packet : (packet entry : Entry) → packet ≡ entry → valid packet ≡ true → valid entry ≡ true
by_packet packet entry e h = sym (ap valid e) ∙ h

done_sound : (packet : Entry) → valid packet ≡ true → IsSound (done packet)
done_sound packet good bytes entry h = by_packet packet entry h.1 good

at_end_sound : (whole more : Format) → IsSound whole → IsSound more → IsSound (at_end whole more)
at_end_sound whole more one two [] entry h = one [] entry h
at_end_sound whole more one two (b ∷ bytes) entry h = two (b ∷ bytes) entry h

-- ---- codes and property lists at a packet's end

-- A packet with a code of the table, and no properties or a list of the place, is valid.
module _ (table : List ℕ) (place : Place) (make : ℕ → List Property → Entry) (good : (code : ℕ) (items : List Property) → is_code table code ≡ true → valid (make code items) ≡ true) where
  list_sound : (code : ℕ) → is_code table code ≡ true → IsSound (field (properties place) any_value (λ list. done (make code list)))
  list_sound code known bytes entry h = by_packet (make code h.0) entry h.4.1 (good code h.0 known)

  code_sound : IsSound (field byte (code_objection table) (λ code. at_end (done (make code [])) (field (properties place) any_value (λ list. done (make code list)))))
  code_sound bytes entry h =
      (let known : is_code table h.0 ≡ true = not_objected (is_code table h.0) rules.W13 h.3 in
      at_end_sound (done (make h.0 [])) (field (properties place) any_value (λ list. done (make h.0 list))) (done_sound (make h.0 []) (good h.0 [] known)) (list_sound h.0 known) h.1 entry h.4)

  coded_sound : is_code table 0 ≡ true → IsSound (at_end (done (make 0 [])) (field byte (code_objection table) (λ code. at_end (done (make code [])) (field (properties place) any_value (λ list. done (make code list))))))
  coded_sound success =
      at_end_sound (done (make 0 [])) (field byte (code_objection table) (λ code. at_end (done (make code [])) (field (properties place) any_value (λ list. done (make code list)))))
      (done_sound (make 0 []) (good 0 [] success)) code_sound

-- ---- CONNACK, acknowledgements, DISCONNECT and AUTH

connack_sound : IsSound connack_format
unfolding valid_connack
connack_sound bytes entry h =
    by_packet (connack (h.0 == 1) h.4.0 (listed places.Connack h.4.4.0)) entry h.4.4.4.1 (not_objected (is_code connack_codes h.4.0) rules.W13 h.4.3)

success_known : (kind : AcknowledgementKind) → is_code (acknowledgement_codes kind) 0 ≡ true
success_known acknowledgements.Puback = refl
success_known acknowledgements.Pubrec = refl
success_known acknowledgements.Pubrel = refl
success_known acknowledgements.Pubcomp = refl

acknowledgement_sound : (kind : AcknowledgementKind) → IsSound (acknowledgement_format kind)
unfolding valid_acknowledgement
acknowledgement_sound kind bytes entry h =
    (let known : is_identifier h.0 ≡ true = not_objected (is_identifier h.0) rules.W09 h.3 in
    coded_sound (acknowledgement_codes kind) (acknowledgement_place kind) (λ code items. acknowledgement kind h.0 code (listed (acknowledgement_place kind) items))
    (λ code items e. and_from _ _ (same_as_itself (acknowledgement_place kind)) (and_from _ _ known e))
    (success_known kind) h.1 entry h.4)

disconnect_sound : IsSound (reason_packet_format endings.Disconnect)
unfolding valid_reason_packet
disconnect_sound = coded_sound disconnect_codes places.Disconnect (λ code items. disconnect code (listed places.Disconnect items)) (λ code items e. e) refl

auth_sound : IsSound (reason_packet_format endings.Auth)
unfolding valid_reason_packet
auth_sound = coded_sound auth_codes places.Auth (λ code items. auth code (listed places.Auth items)) (λ code items e. e) refl

-- ---- PUBLISH

publish_from_sound : (duplicate : Bool) (qos : Qos) (retain : Bool) (topic : List ℕ) (identifier : Option ℕ) → IsText topic → is_name topic ≡ true → fits_qos duplicate qos identifier ≡ true
    → IsSound (publish_from duplicate qos retain topic identifier)
unfolding valid_publish
publish_from_sound duplicate qos retain topic identifier is_topic plain fits bytes entry h =
    by_packet (publish (record { duplicate = duplicate; qos = qos; retain = retain; topic = topic; identifier = identifier; properties = listed places.Publish h.0; payload = h.1 })) entry h.4
    (and_from _ _ fits (and_from _ _ (text_passes topic is_topic) (and_from _ _ plain (not_objected (names_topic topic h.0) rules.W21 h.3))))

unacknowledged_sound : (retain : Bool) → IsSound (publish_unacknowledged retain)
unacknowledged_sound retain bytes entry h =
    publish_from_sound false AtMostOnce retain h.0 None h.2.is_value (not_objected (is_name h.0) rules.W14 h.3) refl h.1 entry h.4

acknowledged_sound : (duplicate : Bool) (qos : Qos) (retain : Bool) → ((identifier : ℕ) → is_identifier identifier ≡ true → fits_qos duplicate qos (Some identifier) ≡ true) → IsSound (publish_acknowledged duplicate qos retain)
acknowledged_sound duplicate qos retain fits bytes entry h =
    publish_from_sound duplicate qos retain h.0 (Some h.4.0) h.2.is_value (not_objected (is_name h.0) rules.W14 h.3) (fits h.4.0 (not_objected (is_identifier h.4.0) rules.W09 h.4.3)) h.4.1 entry h.4.4

refused_sound : (rule : PacketRule) → IsSound (bad_first_byte rule)
refused_sound rule bytes entry h = absurd h

if_sound : (b : Bool) (one two : Format) → IsSound one → IsSound two → IsSound (if b then one else two)
if_sound true one two h k = h
if_sound false one two h k = k

publish_sound : (first : ℕ) → IsSound (publish_format first)
publish_sound first =
    if_sound (bit_and first 6 == 0) (if has_bits 8 first then bad_first_byte rules.W08 else publish_unacknowledged (has_bits 1 first)) (if bit_and first 6 == 2 then publish_acknowledged (has_bits 8 first) AtLeastOnce (has_bits 1 first) else if bit_and first 6 == 4 then publish_acknowledged (has_bits 8 first) ExactlyOnce (has_bits 1 first) else bad_first_byte rules.W07)
    (if_sound (has_bits 8 first) (bad_first_byte rules.W08) (publish_unacknowledged (has_bits 1 first)) (refused_sound rules.W08) (unacknowledged_sound (has_bits 1 first)))
    (if_sound (bit_and first 6 == 2) (publish_acknowledged (has_bits 8 first) AtLeastOnce (has_bits 1 first)) (if bit_and first 6 == 4 then publish_acknowledged (has_bits 8 first) ExactlyOnce (has_bits 1 first) else bad_first_byte rules.W07)
    (acknowledged_sound (has_bits 8 first) AtLeastOnce (has_bits 1 first) (λ i known. known))
    (if_sound (bit_and first 6 == 4) (publish_acknowledged (has_bits 8 first) ExactlyOnce (has_bits 1 first)) (bad_first_byte rules.W07)
    (acknowledged_sound (has_bits 8 first) ExactlyOnce (has_bits 1 first) (λ i known. known)) (refused_sound rules.W07)))

-- ---- SUBSCRIBE, UNSUBSCRIBE and their answers

request_sound : (kind : RequestKind) → IsSound (request_format kind)
unfolding identified valid_request
request_sound kind bytes entry h =
    (let known : is_identifier h.0 ≡ true = not_objected (is_identifier h.0) rules.W09 h.3 in
    let good : valid_filters (has_options kind) h.4.4.0 ≡ true = filters_fit (has_options kind) (has_options kind) h.4.4.0 h.4.4.1 ∙ same (has_options kind) in
    by_packet (request kind h.0 (listed (request_place kind) h.4.0) h.4.4.0) entry h.4.4.3 (and_from _ _ (same_as_itself (request_place kind)) (and_from _ _ known good)))
  where
    same : (b : Bool) → beq b b ≡ true
    same true = refl
    same false = refl

answer_sound : (kind : RequestKind) → IsSound (answer_format kind)
unfolding identified valid_answer
answer_sound kind bytes entry h =
    (let known : is_identifier h.0 ≡ true = not_objected (is_identifier h.0) rules.W09 h.3 in
    by_packet (answer kind h.0 (listed (answer_place kind) h.4.0) h.4.1) entry h.4.4.1 (and_from _ _ (same_as_itself (answer_place kind)) (and_from _ _ known h.4.4.0)))

-- ---- CONNECT

-- What the bytes say of a Will.
will_says : (flag : Bool) (flags : ℕ) (next : Option WillFields → Format) (bytes : List ℕ) (entry : Entry) → Spells (will_if flag flags next) bytes entry
    → (will : Option WillFields) × (left : List ℕ) × (if_there valid_will will ≡ true) × Spells (next will) left entry
unfolding valid_will
will_says false flags next bytes entry h = (None, bytes, refl, h)
will_says true flags next bytes entry h = (
  Some (record { qos = qos_of 8 (bit_and flags 24); retain = has_bits 32 flags; properties = listed places.Will h.0; topic = h.4.0; payload = h.4.4.0 }),
  h.4.4.1,
  and_from _ _ (text_passes h.4.0 h.4.2.is_value) (binary_passes h.4.4.0 h.4.4.2.is_value),
  h.4.4.4,
)

connect_from_sound : (flags : ℕ) → IsSound (connect_from flags)
unfolding valid_connect
connect_from_sound flags bytes entry h =
    (let client : is_text h.4.4.0 ≡ true = text_passes h.4.4.0 h.4.4.2.is_value in
    let will : (w : Option WillFields) × (left : List ℕ) × (if_there valid_will w ≡ true) × Spells (field_if (has_bits 128 flags) text (λ u. field_if (has_bits 64 flags) binary (λ p. done (connect (record { clean_start = has_bits 2 flags; keep_alive = h.0; properties = listed places.Connect h.4.0; client_identifier = h.4.4.0; will = w; user_name = u; password = p }))))) left entry =
    will_says (has_bits 4 flags) flags _ h.4.4.1 entry h.4.4.4 in
    let user : (u : Option (List ℕ)) × (left : List ℕ) × IfSome u IsText × Spells (field_if (has_bits 64 flags) binary (λ p. done (connect (record { clean_start = has_bits 2 flags; keep_alive = h.0; properties = listed places.Connect h.4.0; client_identifier = h.4.4.0; will = will.0; user_name = u; password = p })))) left entry =
    field_if_says (has_bits 128 flags) text _ will.1 entry will.3 in
    let password : (p : Option (List ℕ)) × (left : List ℕ) × IfSome p IsBinary × Spells (done (connect (record { clean_start = has_bits 2 flags; keep_alive = h.0; properties = listed places.Connect h.4.0; client_identifier = h.4.4.0; will = will.0; user_name = user.0; password = p }))) left entry =
    field_if_says (has_bits 64 flags) binary _ user.1 entry user.3 in
    by_packet (connect (record { clean_start = has_bits 2 flags; keep_alive = h.0; properties = listed places.Connect h.4.0; client_identifier = h.4.4.0; will = will.0; user_name = user.0; password = password.0 })) entry password.3.1
    (and_from _ _ client (and_from _ _ will.2 (and_from _ _ (if_there_from IsText is_text user.0 text_passes user.2) (if_there_from IsBinary is_binary password.0 binary_passes password.2)))))

connect_sound : IsSound connect_format
connect_sound bytes entry h = connect_from_sound h.4.4.0 h.4.4.1 entry h.4.4.4

-- ---- any first byte

type_sound : (type : PacketType) (flags : ℕ) → IsSound (format_by_type type flags)
type_sound types.Connect flags = connect_sound
type_sound types.Connack flags = connack_sound
type_sound types.Publish flags = publish_sound flags
type_sound types.Puback flags = acknowledgement_sound acknowledgements.Puback
type_sound types.Pubrec flags = acknowledgement_sound acknowledgements.Pubrec
type_sound types.Pubrel flags = acknowledgement_sound acknowledgements.Pubrel
type_sound types.Pubcomp flags = acknowledgement_sound acknowledgements.Pubcomp
type_sound types.Subscribe flags = request_sound requests.Subscribe
type_sound types.Suback flags = answer_sound requests.Subscribe
type_sound types.Unsubscribe flags = request_sound requests.Unsubscribe
type_sound types.Unsuback flags = answer_sound requests.Unsubscribe
type_sound types.Pingreq flags = done_sound pingreq refl
type_sound types.Pingresp flags = done_sound pingresp refl
type_sound types.Disconnect flags = disconnect_sound
type_sound types.Auth flags = auth_sound

format_sound : (first : ℕ) → IsSound (format_of first)
format_sound first =
    each_first IsSound first (refused_sound rules.W01) (refused_sound rules.W02)
    (λ type _ _. type_sound type (flags_in first))

pub spelled_valid : (first : ℕ) (body : List ℕ) (entry : Entry) → IsSpelled first body entry → valid entry ≡ true
spelled_valid first body entry h = format_sound first body entry h

-- A packet is valid exactly where it is spelled.
pub valid_exactly : (entry : Entry) → IsTyped entry → (given : Bool) → given ≡ valid entry → (given ≡ true) ↔ ((first : ℕ) × (body : List ℕ) × IsSpelled first body entry)
valid_exactly entry typed given is =
    (λ e. (first_byte_of entry, canonical_body entry, canonical_spelled entry typed (sym is ∙ e)), λ h. is ∙ spelled_valid h.0 h.1 entry h.2)
