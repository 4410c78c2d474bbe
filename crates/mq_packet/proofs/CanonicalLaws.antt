-- What is valid is spelled by the bytes that are written of it.
use Rattle.std.proofs.Common.{◌≡◌, ◌≢◌, ℕ, inl, inr, zero, suc, ◌<◌, ◌≤◌, Bool, true, false, ◌&&◌, not, List, [], ◌∷◌, ◌++◌, length, Option, Some, None, refl, sym, ◌∙◌, ap, subst, arith, append_assoc}
use Rattle.std.specs.Prelude.{◌==◌, if◌then◌else◌, is_some, IfSome, bit_and, codes}
use Rattle.std.specs.List.{list_all, AllByRecursion}
use Rattle.std.specs.Str.{IsUtf8, IsAscii}
use Rattle.std.proofs.lemmas.Bool.{and_parts, eqb-true}
use Rattle.std.proofs.lemmas.List.{append-nil}
use Rattle.std.proofs.lemmas.Str.{IsUtf8-from_ascii}
use Rattle.mq_wire.specs.Spellings.{IsText, IsBinary, text_spelling, binary_spelling, two_bytes_spelling}
use Rattle.mq_topic.specs.Levels.{is_name}
use Rattle.mq_props.specs.declared.table.Place.{Place}
use Rattle.mq_props.specs.declared.table.Place.TheVariants as places
use Rattle.mq_props.specs.Table.{same_place}
use Rattle.mq_props.specs.Values.{Property}
use Rattle.mq_props.specs.Listed.{Listed}
use Rattle.mq_packet.specs.ReasonCodes.{connack_codes}
use Rattle.mq_packet.specs.declared.packet.Qos.{Qos}
use Rattle.mq_packet.specs.declared.packet.Qos.TheVariants.{AtMostOnce, AtLeastOnce, ExactlyOnce}
use Rattle.mq_packet.specs.declared.packet.AcknowledgementKind.{AcknowledgementKind}
use Rattle.mq_packet.specs.declared.packet.AcknowledgementKind.TheVariants as acknowledgements
use Rattle.mq_packet.specs.declared.packet.ReasonPacketKind.TheVariants as endings
use Rattle.mq_packet.specs.declared.packet.RequestKind.{RequestKind}
use Rattle.mq_packet.specs.declared.packet.RequestKind.TheVariants as requests
use Rattle.mq_packet.specs.declared.rule.PacketRule.TheVariants as rules
use Rattle.mq_packet.specs.Entries.{Entry, connect, connack, publish, acknowledgement, request, answer, pingreq, pingresp, disconnect, auth, WillFields, ConnectFields, PublishFields, AskedFilter, listed, request_place, answer_place, answer_codes, has_options}
use Rattle.mq_packet.specs.Formats.{byte, text, binary, properties, Format, done, all_codes, all_filters, field, field_if, will_if, is_code, names_topic, is_filter, are_connect_flags, has_bits, qos_of, connect_from, connack_format, publish_from, publish_unacknowledged, publish_acknowledged, acknowledgement_format, identified, request_format, answer_format, any_value, code_objection}
use Rattle.mq_packet.specs.Asking.{AreOptions, IsAsked, filters_spelling, AreAsked}
use Rattle.mq_packet.specs.Spelled.{IsValueOf, Spells, IsSpelled}
use Rattle.mq_packet.specs.Canonical.{bit, connect_flags, spelling_if, list_spelling, will_spelling, reason_spelling, first_byte_of, connect_body, connack_body, publish_body, acknowledgement_body, request_body, answer_body, disconnect_body, auth_body, canonical_body}
use Rattle.mq_packet.specs.Valid.{is_text, is_binary, is_identifier, if_there, fits_qos, fits_request, valid_will, valid_connect, valid_connack, valid_publish, valid_acknowledgement, valid_filter, valid_filters, valid_request, valid_answer, valid_reason_packet, valid, IsListed, IsWill, IsConnect, IsPublish, IsIdentified, IsAskedFilter, IsRequest, IsTyped}
use Rattle.mq_packet.specs.ShortForms.{SpellsEnd}
use Rattle.mq_packet.proofs.EndLaws.{acknowledgement_spells, reason_packet_spells}
use Rattle.mq_packet.proofs.ValueLaws.{listed_is, list_value, text_value, binary_value, code_value, unobjected, field_if_spelled, if_there_gives, ends_there}
use Rattle.mq_packet.proofs.ConnectFlagLaws.{FlagsSay, flags_say}

-- ---- lists and codes at a packet's end

-- A property list that ends a packet, which is made of it.
list_ends : (place : Place) (items : List Property) (make : Listed → Entry) → IsValueOf (properties place) items
    → Spells (field (properties place) any_value (λ list. done (make (listed place list)))) (list_spelling items) (make (listed place items))
list_ends place items make ok = (items, [], record { is_value = ok; spelled = sym (append-nil (list_spelling items)) }, refl, (refl, refl))

-- ---- CONNACK, acknowledgements, DISCONNECT and AUTH

connack_spelled : (session_present : Bool) (code : ℕ) (list : Listed) → IsListed list → valid_connack code list ≡ true → IsSpelled 32 (connack_body session_present code list.items) (connack session_present code list)
unfolding valid_connack connack_body
connack_spelled session_present code list ok e =
    (let parts : (same_place list.place places.Connack ≡ true) × (is_code connack_codes code ≡ true) = and_parts _ _ e in
    let value : IsValueOf (properties places.Connack) list.items = list_value places.Connack list ok parts.0 in
    subst (λ (l : Listed). Spells connack_format (bit 1 session_present ∷ code ∷ list_spelling list.items) (connack session_present code l)) (listed_is places.Connack list parts.0) (flagged session_present value parts.1))
  where
    trailing : (s : Bool) → IsValueOf (properties places.Connack) list.items → is_code connack_codes code ≡ true
        → Spells (field byte (code_objection connack_codes) (λ c. field (properties places.Connack) any_value (λ l. done (connack s c (listed places.Connack l))))) (code ∷ list_spelling list.items) (connack s code (listed places.Connack list.items))
    trailing s value known = (
      code,
      list_spelling list.items,
      record { is_value = code_value connack_codes code refl known; spelled = refl },
      unobjected (is_code connack_codes code) rules.W13 known,
      list_ends places.Connack list.items (connack s code) value,
    )

    flagged : (s : Bool) → IsValueOf (properties places.Connack) list.items → is_code connack_codes code ≡ true → Spells connack_format (bit 1 s ∷ code ∷ list_spelling list.items) (connack s code (listed places.Connack list.items))
    flagged true value known = (1, code ∷ list_spelling list.items, record { is_value = omega arith; spelled = refl }, refl, trailing true value known)
    flagged false value known = (0, code ∷ list_spelling list.items, record { is_value = omega arith; spelled = refl }, refl, trailing false value known)

-- What is written of a Reason Code and properties is one of their spellings.
reason_ends : (code : ℕ) (items : List Property) → SpellsEnd code items (reason_spelling code items)
reason_ends code [] =
    elim (code == 0) as (λ t. (code == 0) ≡ t → SpellsEnd code [] (if t then [] else code ∷ [])) [
      | true ↦ λ is. inr (inr (refl, eqb-true code 0 is, refl))
      | false ↦ λ _. inr (inl (refl, refl))
    ] refl
reason_ends code (p ∷ items) = inl refl

auth_ends : (code : ℕ) (items : List Property) → SpellsEnd code items (auth_body code items)
unfolding auth_body
auth_ends code [] =
    elim (code == 0) as (λ t. (code == 0) ≡ t → SpellsEnd code [] (if t then [] else code ∷ list_spelling [])) [
      | true ↦ λ is. inr (inr (refl, eqb-true code 0 is, refl))
      | false ↦ λ _. inl refl
    ] refl
auth_ends code (p ∷ items) = inl refl

written_spells : (kind : AcknowledgementKind) (identifier code : ℕ) (list : Listed) → IsIdentified identifier list → valid_acknowledgement kind identifier code list ≡ true
    → Spells (acknowledgement_format kind) (acknowledgement_body identifier code list.items) (acknowledgement kind identifier code list)
unfolding acknowledgement_body
written_spells kind identifier code list ok e =
    acknowledgement_spells kind identifier code list (two_bytes_spelling identifier ++ reason_spelling code list.items) ok e (reason_spelling code list.items, refl, reason_ends code list.items)

acknowledgement_spelled : (kind : AcknowledgementKind) (identifier code : ℕ) (list : Listed) → IsIdentified identifier list → valid_acknowledgement kind identifier code list ≡ true
    → IsSpelled (first_byte_of (acknowledgement kind identifier code list)) (acknowledgement_body identifier code list.items) (acknowledgement kind identifier code list)
acknowledgement_spelled acknowledgements.Puback identifier code list ok e = written_spells acknowledgements.Puback identifier code list ok e
acknowledgement_spelled acknowledgements.Pubrec identifier code list ok e = written_spells acknowledgements.Pubrec identifier code list ok e
acknowledgement_spelled acknowledgements.Pubrel identifier code list ok e = written_spells acknowledgements.Pubrel identifier code list ok e
acknowledgement_spelled acknowledgements.Pubcomp identifier code list ok e = written_spells acknowledgements.Pubcomp identifier code list ok e

disconnect_spelled : (code : ℕ) (list : Listed) → IsListed list → valid_reason_packet endings.Disconnect code list ≡ true → IsSpelled 224 (disconnect_body code list.items) (disconnect code list)
unfolding disconnect_body
disconnect_spelled code list ok e = reason_packet_spells endings.Disconnect code list (reason_spelling code list.items) ok e (reason_ends code list.items)

auth_spelled : (code : ℕ) (list : Listed) → IsListed list → valid_reason_packet endings.Auth code list ≡ true → IsSpelled 240 (auth_body code list.items) (auth code list)
auth_spelled code list ok e = reason_packet_spells endings.Auth code list (auth_body code list.items) ok e (auth_ends code list.items)

-- ---- PUBLISH

-- A PUBLISH by its fields.
abbrev published : Bool → Qos → Bool → List ℕ → Option ℕ → Listed → List ℕ → PublishFields
published duplicate qos retain topic identifier list payload =
    record { duplicate = duplicate; qos = qos; retain = retain; topic = topic; identifier = identifier; properties = list; payload = payload }

module _ (retain : Bool) (topic : List ℕ) (items : List Property) (payload : List ℕ) (is_topic : IsText topic) (plain : is_name topic ≡ true) (value : IsValueOf (properties places.Publish) items) (named : names_topic topic items ≡ true) where
  publish_tail : (duplicate : Bool) (qos : Qos) (identifier : Option ℕ) → Spells (publish_from duplicate qos retain topic identifier) (list_spelling items ++ payload) (publish (published duplicate qos retain topic identifier (listed places.Publish items) payload))
  publish_tail duplicate qos identifier = (items, payload, record { is_value = value; spelled = refl }, unobjected (names_topic topic items) rules.W21 named, refl)

  unacknowledged : Spells (publish_unacknowledged retain) (text_spelling topic ++ (list_spelling items ++ payload)) (publish (published false AtMostOnce retain topic None (listed places.Publish items) payload))
  unacknowledged = (topic, list_spelling items ++ payload, record { is_value = is_topic; spelled = refl }, unobjected (is_name topic) rules.W14 plain, publish_tail false AtMostOnce None)

  acknowledged : (duplicate : Bool) (qos : Qos) (identifier : ℕ) → identifier ≤ 65535 → is_identifier identifier ≡ true
      → Spells (publish_acknowledged duplicate qos retain) (text_spelling topic ++ (two_bytes_spelling identifier ++ (list_spelling items ++ payload))) (publish (published duplicate qos retain topic (Some identifier) (listed places.Publish items) payload))
  acknowledged duplicate qos identifier small known = (
    topic,
    two_bytes_spelling identifier ++ (list_spelling items ++ payload),
    record { is_value = is_topic; spelled = refl },
    unobjected (is_name topic) rules.W14 plain,
    (identifier, list_spelling items ++ payload, record { is_value = small; spelled = refl }, unobjected (is_identifier identifier) rules.W09 known, publish_tail duplicate qos (Some identifier)),
  )

publish_by : (duplicate : Bool) (qos : Qos) (retain : Bool) (topic : List ℕ) (identifier : Option ℕ) (items : List Property) (payload : List ℕ)
    → IsText topic → is_name topic ≡ true → IsValueOf (properties places.Publish) items → names_topic topic items ≡ true
    → IfSome identifier (λ i. i ≤ 65535) → fits_qos duplicate qos identifier ≡ true
    → IsSpelled (first_byte_of (publish (published duplicate qos retain topic identifier (listed places.Publish items) payload))) (publish_body (published duplicate qos retain topic identifier (listed places.Publish items) payload)) (publish (published duplicate qos retain topic identifier (listed places.Publish items) payload))
unfolding publish_body
publish_by true AtMostOnce retain topic identifier items payload t n v a i fits = absurd (cc)
publish_by false AtMostOnce retain topic (Some identifier) items payload t n v a i fits = absurd (cc)
publish_by false AtMostOnce true topic None items payload t n v a i fits = unacknowledged true topic items payload t n v a
publish_by false AtMostOnce false topic None items payload t n v a i fits = unacknowledged false topic items payload t n v a
publish_by duplicate AtLeastOnce retain topic None items payload t n v a i fits = absurd (cc)
publish_by true AtLeastOnce true topic (Some identifier) items payload t n v a i fits = acknowledged true topic items payload t n v a true AtLeastOnce identifier i fits
publish_by true AtLeastOnce false topic (Some identifier) items payload t n v a i fits = acknowledged false topic items payload t n v a true AtLeastOnce identifier i fits
publish_by false AtLeastOnce true topic (Some identifier) items payload t n v a i fits = acknowledged true topic items payload t n v a false AtLeastOnce identifier i fits
publish_by false AtLeastOnce false topic (Some identifier) items payload t n v a i fits = acknowledged false topic items payload t n v a false AtLeastOnce identifier i fits
publish_by duplicate ExactlyOnce retain topic None items payload t n v a i fits = absurd (cc)
publish_by true ExactlyOnce true topic (Some identifier) items payload t n v a i fits = acknowledged true topic items payload t n v a true ExactlyOnce identifier i fits
publish_by true ExactlyOnce false topic (Some identifier) items payload t n v a i fits = acknowledged false topic items payload t n v a true ExactlyOnce identifier i fits
publish_by false ExactlyOnce true topic (Some identifier) items payload t n v a i fits = acknowledged true topic items payload t n v a false ExactlyOnce identifier i fits
publish_by false ExactlyOnce false topic (Some identifier) items payload t n v a i fits = acknowledged false topic items payload t n v a false ExactlyOnce identifier i fits

publish_spelled : (fields : PublishFields) → IsPublish fields → valid_publish fields ≡ true → IsSpelled (first_byte_of (publish fields)) (publish_body fields) (publish fields)
unfolding valid_publish
publish_spelled fields ok e =
    (let one : (same_place fields.properties.place places.Publish ≡ true) × ((fits_qos fields.duplicate fields.qos fields.identifier && (is_text fields.topic && (is_name fields.topic && names_topic fields.topic fields.properties.items))) ≡ true) = and_parts _ _ e in
    let two : (fits_qos fields.duplicate fields.qos fields.identifier ≡ true) × ((is_text fields.topic && (is_name fields.topic && names_topic fields.topic fields.properties.items)) ≡ true) = and_parts _ _ one.1 in
    let three : (is_text fields.topic ≡ true) × ((is_name fields.topic && names_topic fields.topic fields.properties.items) ≡ true) = and_parts _ _ two.1 in
    let four : (is_name fields.topic ≡ true) × (names_topic fields.topic fields.properties.items ≡ true) = and_parts _ _ three.1 in
    let P : Listed → Type 0 = λ l. IsSpelled (first_byte_of (publish (published fields.duplicate fields.qos fields.retain fields.topic fields.identifier l fields.payload))) (publish_body (published fields.duplicate fields.qos fields.retain fields.topic fields.identifier l fields.payload)) (publish (published fields.duplicate fields.qos fields.retain fields.topic fields.identifier l fields.payload)) in
    subst P (listed_is places.Publish fields.properties one.0)
    (publish_by fields.duplicate fields.qos fields.retain fields.topic fields.identifier fields.properties.items fields.payload
    (text_value fields.topic ok.topic three.0) four.0 (list_value places.Publish fields.properties ok.properties one.0) four.1 ok.identifier two.0))

-- ---- SUBSCRIBE, UNSUBSCRIBE and their answers

options_asked : (asks : Bool) (options : Option ℕ) → IfSome options (λ o. o < 256) → fits_request asks options ≡ true → AreOptions asks options
options_asked false None small e = refl
options_asked false (Some options) small e = absurd (cc)
options_asked true None small e = absurd (cc)
options_asked true (Some options) small e = (options, refl, small, e)

-- Valid filters may stand in a request.
filters_asked : (asks : Bool) (filters : List AskedFilter) → AllByRecursion IsAskedFilter filters → list_all (valid_filter asks) filters ≡ true → AllByRecursion (IsAsked asks) filters
unfolding valid_filter
filters_asked asks [] ok e = tt
filters_asked asks (asked ∷ filters) ok e =
    (let one : (valid_filter asks asked ≡ true) × (list_all (valid_filter asks) filters ≡ true) = and_parts _ _ e in
    let two : (is_text asked.filter ≡ true) × ((is_filter asked.filter && fits_request asks asked.options) ≡ true) = and_parts _ _ one.0 in
    let three : (is_filter asked.filter ≡ true) × (fits_request asks asked.options ≡ true) = and_parts _ _ two.1 in (
      record { text = text_value asked.filter ok.0.filter two.0; filter = three.0; options = options_asked asks asked.options ok.0.options three.1 },
      filters_asked asks filters ok.1 one.1,
    ))

-- Some are there.
some_asked : (filters : List AskedFilter) → not (length filters == 0) ≡ true → filters ≢ []
some_asked [] e = absurd (cc)
some_asked (asked ∷ filters) e = λ (none : (asked ∷ filters) ≡ []). cc

-- What begins with a Packet Identifier and properties is spelled by them, and by what spells the rest.
identified_spells : (place : Place) (next : ℕ × Listed → Format) (identifier : ℕ) (list : Listed) (trailing : List ℕ) (make : Listed → Entry) → IsIdentified identifier list
    → same_place list.place place ≡ true → is_identifier identifier ≡ true → Spells (next (identifier, listed place list.items)) trailing (make (listed place list.items))
    → Spells (identified place next) (two_bytes_spelling identifier ++ (list_spelling list.items ++ trailing)) (make list)
unfolding identified
identified_spells place next identifier list trailing make ok there known spells =
    subst (λ (l : Listed). Spells (identified place next) (two_bytes_spelling identifier ++ (list_spelling list.items ++ trailing)) (make l)) (listed_is place list there) (
      identifier,
      list_spelling list.items ++ trailing,
      record { is_value = ok.bound; spelled = refl },
      unobjected (is_identifier identifier) rules.W09 known,
      (list.items, trailing, record { is_value = list_value place list ok.properties there; spelled = refl }, refl, spells),
    )

request_spells : (kind : RequestKind) (identifier : ℕ) (list : Listed) (filters : List AskedFilter) → IsRequest identifier list filters → valid_request kind identifier list filters ≡ true
    → Spells (request_format kind) (request_body identifier list.items filters) (request kind identifier list filters)
unfolding valid_request valid_filters request_body
request_spells kind identifier list filters ok e =
    (let one : (same_place list.place (request_place kind) ≡ true) × ((is_identifier identifier && valid_filters (has_options kind) filters) ≡ true) = and_parts _ _ e in
    let two : (is_identifier identifier ≡ true) × (valid_filters (has_options kind) filters ≡ true) = and_parts _ _ one.1 in
    let three : (not (length filters == 0) ≡ true) × (list_all (valid_filter (has_options kind)) filters ≡ true) = and_parts _ _ two.1 in
    let are : AreAsked (has_options kind) filters = record { some = some_asked filters three.0; each = filters_asked (has_options kind) filters ok.each three.1 } in
    identified_spells (request_place kind) (λ start. all_filters (has_options kind) (request kind start.0 start.1)) identifier list (filters_spelling filters) (λ l. request kind identifier l filters) ok.identified one.0 two.0 (filters, are, refl, refl))

request_spelled : (kind : RequestKind) (identifier : ℕ) (list : Listed) (filters : List AskedFilter) → IsRequest identifier list filters → valid_request kind identifier list filters ≡ true
    → IsSpelled (first_byte_of (request kind identifier list filters)) (request_body identifier list.items filters) (request kind identifier list filters)
request_spelled requests.Subscribe identifier list filters ok e = request_spells requests.Subscribe identifier list filters ok e
request_spelled requests.Unsubscribe identifier list filters ok e = request_spells requests.Unsubscribe identifier list filters ok e

answer_spells : (kind : RequestKind) (identifier : ℕ) (list : Listed) (reasons : List ℕ) → IsIdentified identifier list → valid_answer kind identifier list reasons ≡ true
    → Spells (answer_format kind) (answer_body identifier list.items reasons) (answer kind identifier list reasons)
unfolding valid_answer answer_body
answer_spells kind identifier list reasons ok e =
    (let one : (same_place list.place (answer_place kind) ≡ true) × ((is_identifier identifier && list_all (is_code (answer_codes kind)) reasons) ≡ true) = and_parts _ _ e in
    let two : (is_identifier identifier ≡ true) × (list_all (is_code (answer_codes kind)) reasons ≡ true) = and_parts _ _ one.1 in
    identified_spells (answer_place kind) (λ start. all_codes (answer_codes kind) (answer kind start.0 start.1)) identifier list reasons (λ l. answer kind identifier l reasons) ok one.0 two.0 (two.1, refl))

answer_spelled : (kind : RequestKind) (identifier : ℕ) (list : Listed) (reasons : List ℕ) → IsIdentified identifier list → valid_answer kind identifier list reasons ≡ true
    → IsSpelled (first_byte_of (answer kind identifier list reasons)) (answer_body identifier list.items reasons) (answer kind identifier list reasons)
answer_spelled requests.Subscribe identifier list reasons ok e = answer_spells requests.Subscribe identifier list reasons ok e
answer_spelled requests.Unsubscribe identifier list reasons ok e = answer_spells requests.Unsubscribe identifier list reasons ok e

-- ---- CONNECT

-- A Will of these parts.
abbrev will_of : Qos → Bool → Listed → WillFields → WillFields
will_of qos retain list w = record { qos = qos; retain = retain; properties = list; topic = w.topic; payload = w.payload }

will_if_spelled : (flag : Bool) (flags : ℕ) (will : Option WillFields) (next : Option WillFields → Format) (left : List ℕ) (entry : Entry)
    → flag ≡ is_some will → IfSome will (λ w. (qos_of 8 (bit_and flags 24) ≡ w.qos) × (has_bits 32 flags ≡ w.retain)) → IfSome will IsWill → if_there valid_will will ≡ true
    → Spells (next will) left entry → Spells (will_if flag flags next) (spelling_if will_spelling will ++ left) entry
unfolding valid_will
will_if_spelled flag flags None next left entry there says ok e h = subst (λ (t : Bool). Spells (will_if t flags next) left entry) (sym there) h
will_if_spelled flag flags (Some w) next left entry there says ok e h =
    (let one : (same_place w.properties.place places.Will ≡ true) × ((is_text w.topic && is_binary w.payload) ≡ true) = and_parts _ _ e in
    let two : (is_text w.topic ≡ true) × (is_binary w.payload ≡ true) = and_parts _ _ one.1 in
    let rebuilt : will_of (qos_of 8 (bit_and flags 24)) (has_bits 32 flags) (listed places.Will w.properties.items) w ≡ w =
    ap (λ (q : Qos). will_of q (has_bits 32 flags) (listed places.Will w.properties.items) w) says.0
    ∙ (ap (λ (r : Bool). will_of w.qos r (listed places.Will w.properties.items) w) says.1
    ∙ ap (λ (l : Listed). will_of w.qos w.retain l w) (listed_is places.Will w.properties one.0)) in
    let said : Spells (next (Some (will_of (qos_of 8 (bit_and flags 24)) (has_bits 32 flags) (listed places.Will w.properties.items) w))) left entry =
    subst (λ (x : WillFields). Spells (next (Some x)) left entry) (sym rebuilt) h in
    subst (λ (t : Bool). Spells (will_if t flags next) (will_spelling w ++ left) entry) (sym there) (
      w.properties.items,
      (text_spelling w.topic ++ binary_spelling w.payload) ++ left,
      record { is_value = list_value places.Will w.properties ok.properties one.0; spelled = append_assoc (list_spelling w.properties.items) (text_spelling w.topic ++ binary_spelling w.payload) left },
      refl,
      (
        w.topic,
        binary_spelling w.payload ++ left,
        record { is_value = text_value w.topic ok.topic two.0; spelled = append_assoc (text_spelling w.topic) (binary_spelling w.payload) left },
        refl,
        (w.payload, left, record { is_value = binary_value w.payload two.1; spelled = refl }, refl, said),
      ),
    ))

-- A CONNECT as its body is read, but for what the flags say.
abbrev connected : Bool → Listed → ConnectFields → ConnectFields
connected clean_start list fields =
    record { clean_start = clean_start; keep_alive = fields.keep_alive; properties = list; client_identifier = fields.client_identifier; will = fields.will; user_name = fields.user_name; password = fields.password }

module _ (fields : ConnectFields) (ok : IsConnect fields) (flags : ℕ) (says : FlagsSay flags fields.clean_start fields.will (is_some fields.password) (is_some fields.user_name))
    (at_place : same_place fields.properties.place places.Connect ≡ true) (client : is_text fields.client_identifier ≡ true)
    (will : if_there valid_will fields.will ≡ true) (user_name : if_there is_text fields.user_name ≡ true) (password : if_there is_binary fields.password ≡ true) where
  abbrev with_password : Option WillFields → Option (List ℕ) → Option (List ℕ) → Format
  with_password w u p = done (connect (record { clean_start = has_bits 2 flags; keep_alive = fields.keep_alive; properties = listed places.Connect fields.properties.items; client_identifier = fields.client_identifier; will = w; user_name = u; password = p }))

  abbrev with_user_name : Option WillFields → Option (List ℕ) → Format
  with_user_name w u = field_if (has_bits 64 flags) binary (λ p. with_password w u p)

  abbrev with_will : Option WillFields → Format
  with_will w = field_if (has_bits 128 flags) text (λ u. with_user_name w u)

  ends_so : Spells (with_password fields.will fields.user_name fields.password) [] (connect fields)
  ends_so = (
    refl,
    ap (λ (b : Bool). connect (connected b (listed places.Connect fields.properties.items) fields)) says.clean_start_is
        ∙ ap (λ (l : Listed). connect (connected fields.clean_start l fields)) (listed_is places.Connect fields.properties at_place),
  )

  password_spelled : Spells (with_user_name fields.will fields.user_name) (spelling_if binary_spelling fields.password) (connect fields)
  password_spelled =
      ends_there (with_user_name fields.will fields.user_name) (spelling_if binary_spelling fields.password) (connect fields)
      (field_if_spelled (has_bits 64 flags) binary fields.password (λ p. with_password fields.will fields.user_name p) [] (connect fields) says.password_is
      (if_there_gives (λ p. Unit {0}) IsBinary is_binary fields.password (λ p _ e. binary_value p e) (any fields.password) password) ends_so)
    where
      any : (o : Option (List ℕ)) → IfSome o (λ p. Unit {0})
      any None = tt
      any (Some p) = tt

  user_name_spelled : Spells (with_will fields.will) (spelling_if text_spelling fields.user_name ++ spelling_if binary_spelling fields.password) (connect fields)
  user_name_spelled =
      field_if_spelled (has_bits 128 flags) text fields.user_name (λ u. with_user_name fields.will u) (spelling_if binary_spelling fields.password) (connect fields) says.user_name_is
      (if_there_gives IsUtf8 IsText is_text fields.user_name text_value ok.user_name user_name) password_spelled

  from_flags : Spells (connect_from flags) (two_bytes_spelling fields.keep_alive ++ (list_spelling fields.properties.items ++ (text_spelling fields.client_identifier ++ (spelling_if will_spelling fields.will ++ (spelling_if text_spelling fields.user_name ++ spelling_if binary_spelling fields.password))))) (connect fields)
  from_flags = (
    fields.keep_alive,
    list_spelling fields.properties.items ++ (text_spelling fields.client_identifier ++ (spelling_if will_spelling fields.will ++ (spelling_if text_spelling fields.user_name ++ spelling_if binary_spelling fields.password))),
    record { is_value = ok.keep_alive; spelled = refl },
    refl,
    (
      fields.properties.items,
      text_spelling fields.client_identifier ++ (spelling_if will_spelling fields.will ++ (spelling_if text_spelling fields.user_name ++ spelling_if binary_spelling fields.password)),
      record { is_value = list_value places.Connect fields.properties ok.properties at_place; spelled = refl },
      refl,
      (
        fields.client_identifier,
        spelling_if will_spelling fields.will ++ (spelling_if text_spelling fields.user_name ++ spelling_if binary_spelling fields.password),
        record { is_value = text_value fields.client_identifier ok.client_identifier client; spelled = refl },
        refl,
        will_if_spelled (has_bits 4 flags) flags fields.will (λ w. with_will w) (spelling_if text_spelling fields.user_name ++ spelling_if binary_spelling fields.password) (connect fields) says.will_is says.will_says ok.will will user_name_spelled,
      ),
    ),
  )

pub name_ascii : IsAscii (codes "MQTT")
name_ascii zero = omega arith
name_ascii (suc zero) = omega arith
name_ascii (suc (suc zero)) = omega arith
name_ascii (suc (suc (suc zero))) = omega arith
name_ascii (suc (suc (suc (suc i)))) = omega arith

connect_spelled : (fields : ConnectFields) → IsConnect fields → valid_connect fields ≡ true → IsSpelled 16 (connect_body fields) (connect fields)
unfolding valid_connect connect_body
connect_spelled fields ok e =
    (let one : (same_place fields.properties.place places.Connect ≡ true) × ((is_text fields.client_identifier && (if_there valid_will fields.will && (if_there is_text fields.user_name && if_there is_binary fields.password))) ≡ true) = and_parts _ _ e in
    let two : (is_text fields.client_identifier ≡ true) × ((if_there valid_will fields.will && (if_there is_text fields.user_name && if_there is_binary fields.password)) ≡ true) = and_parts _ _ one.1 in
    let three : (if_there valid_will fields.will ≡ true) × ((if_there is_text fields.user_name && if_there is_binary fields.password) ≡ true) = and_parts _ _ two.1 in
    let four : (if_there is_text fields.user_name ≡ true) × (if_there is_binary fields.password ≡ true) = and_parts _ _ three.1 in
    let says : FlagsSay (connect_flags fields) fields.clean_start fields.will (is_some fields.password) (is_some fields.user_name) = flags_say fields.clean_start fields.will (is_some fields.password) (is_some fields.user_name) in
    let name : IsText (codes "MQTT") = text_value (codes "MQTT") (IsUtf8-from_ascii (codes "MQTT") name_ascii) refl in (
      codes "MQTT",
      _,
      record { is_value = name; spelled = refl },
      refl,
      (
        5,
        _,
        record { is_value = omega arith; spelled = refl },
        refl,
        (
          connect_flags fields,
          _,
          record { is_value = says.small; spelled = refl },
          unobjected (are_connect_flags (connect_flags fields)) rules.W19 says.good,
          from_flags fields ok (connect_flags fields) says one.0 two.0 three.0 four.0 four.1,
        ),
      ),
    ))

pub canonical_spelled : (entry : Entry) → IsTyped entry → valid entry ≡ true → IsSpelled (first_byte_of entry) (canonical_body entry) entry
canonical_spelled (connect fields) typed e = connect_spelled fields typed e
canonical_spelled (connack session_present code list) typed e = connack_spelled session_present code list typed e
canonical_spelled (publish fields) typed e = publish_spelled fields typed e
canonical_spelled (acknowledgement kind identifier code list) typed e = acknowledgement_spelled kind identifier code list typed e
canonical_spelled (request kind identifier list filters) typed e = request_spelled kind identifier list filters typed e
canonical_spelled (answer kind identifier list reasons) typed e = answer_spelled kind identifier list reasons typed e
canonical_spelled pingreq typed e = (refl, refl)
canonical_spelled pingresp typed e = (refl, refl)
canonical_spelled (disconnect code list) typed e = disconnect_spelled code list typed e
canonical_spelled (auth code list) typed e = auth_spelled code list typed e
