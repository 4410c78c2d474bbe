-- What spells a packet is what is written of it, or a short form of that.
use Rattle.std.proofs.Common.{◌≡◌, ℕ, zero, suc, ◌+◌, ◌<◌, ◌≤◌, inl, inr, Bool, true, false, ◌||◌, not, List, [], ◌∷◌, ◌++◌, length, Option, Some, None, refl, sym, ◌∙◌, ap, subst, arith, append_assoc}
use Rattle.std.specs.Prelude.{nat_lt, ◌==◌, if◌then◌else◌, is_some, IfSome, bit_and, bytes_eq, codes}
use Rattle.std.specs.Str.{IsUtf8}
use Rattle.std.proofs.lemmas.Bool.{eqb-true, ltb-true, agree_below_at}
use Rattle.std.proofs.lemmas.List.{append-nil}
use Rattle.std.proofs.lemmas.Slice.Eq.{bytes_eq-Decides}
use Rattle.mq_wire.specs.Spellings.{two_bytes_spelling, text_spelling, binary_spelling}
use Rattle.mq_props.specs.declared.table.Place.{Place}
use Rattle.mq_props.specs.declared.table.Place.TheVariants as places
use Rattle.mq_props.specs.Values.{Property, body as properties_spelling}
use Rattle.mq_packet.specs.declared.packet.Qos.{Qos}
use Rattle.mq_packet.specs.declared.packet.Qos.TheVariants.{AtMostOnce, AtLeastOnce, ExactlyOnce}
use Rattle.mq_packet.specs.declared.packet.PacketType.{PacketType}
use Rattle.mq_packet.specs.declared.packet.PacketType.TheVariants as types
use Rattle.mq_packet.specs.declared.packet.AcknowledgementKind.{AcknowledgementKind}
use Rattle.mq_packet.specs.declared.packet.AcknowledgementKind.TheVariants as acknowledgements
use Rattle.mq_packet.specs.declared.packet.ReasonPacketKind.TheVariants as endings
use Rattle.mq_packet.specs.declared.packet.RequestKind.{RequestKind}
use Rattle.mq_packet.specs.declared.packet.RequestKind.TheVariants as requests
use Rattle.mq_packet.specs.declared.rule.PacketRule.TheVariants as rules
use Rattle.mq_packet.specs.Entries.{Entry, WillFields, ConnectFields, AskedFilter, listed, none_listed, acknowledgement_place, has_options}
use Rattle.mq_packet.specs.Formats.{Kind, text, binary, ValueOf, other_version, version_objection, Format, done, rest, all_codes, all_filters, bad_first_byte, field, at_end, field_if, will_if, are_connect_flags, has_bits, qos_of, connect_format, connack_format, publish_from, publish_unacknowledged, publish_acknowledged, publish_format, acknowledgement_format, identified, request_format, answer_format, reason_packet_format, format_of, format_by_type}
use Rattle.mq_packet.specs.Asking.{filters_spelling, AreAsked}
use Rattle.mq_packet.specs.Spelled.{IsValueOf, spelling, Spells, IsSpelled}
use Rattle.mq_packet.specs.Canonical.{acknowledgement_type, request_type, answer_type, bit, qos_bits, will_flags, connect_flags, spelling_if, list_spelling, will_spelling, first_byte_of, connect_body, connack_body, publish_body, request_body, answer_body}
use Rattle.mq_packet.specs.Valid.{IsListed, IsWill, IsTyped}
use Rattle.mq_packet.specs.ShortForms.{SpellsEnd, IsBodyOf}
use Rattle.mq_packet.proofs.RequestLaws.{all_typed}
use Rattle.mq_packet.specs.FirstBytes.{reserved_flags, flags_in, are_flags, first_byte_with}
use Rattle.mq_packet.proofs.FirstByteLaws.{reserved_byte, reserved_first, each_first}
use Rattle.mq_packet.proofs.ValueLaws.{not_objected}

-- ---- what the fields of a format write

-- After what was read, the fields of the format make a packet and its body: f puts what was read before what is left.
abbrev Writes : (Entry → List ℕ → Type 0) → Format → (List ℕ → List ℕ) → Type 0
Writes P (done packet) f = P packet (f [])
Writes P (rest packet) f = (bytes : List ℕ) → P (packet bytes) (f bytes)
Writes P (all_codes table packet) f = (reasons : List ℕ) → P (packet reasons) (f reasons)
Writes P (all_filters asks packet) f = (filters : List AskedFilter) → AreAsked asks filters → P (packet filters) (f (filters_spelling filters))
Writes P (bad_first_byte rule) f = Unit {0}
Writes P (field kind objection next) f = (value : ValueOf kind) → IsValueOf kind value → objection value ≡ None → Writes P (next value) (λ left. f (spelling kind value ++ left))
Writes P (at_end whole more) f = Writes P whole f × Writes P more f

-- What the format spells is so.
written : (P : Entry → List ℕ → Type 0) (format : Format) (f : List ℕ → List ℕ) (bytes : List ℕ) (entry : Entry) → Writes P format f → Spells format bytes entry → P entry (f bytes)
written P (done packet) f bytes entry h spelled = subst (λ (b : List ℕ). P entry (f b)) (sym spelled.0) (subst (λ (e : Entry). P e (f [])) spelled.1 h)
written P (rest packet) f bytes entry h spelled = subst (λ (e : Entry). P e (f bytes)) spelled (h bytes)
written P (all_codes table packet) f bytes entry h spelled = subst (λ (e : Entry). P e (f bytes)) spelled.1 (h bytes)
written P (all_filters asks packet) f bytes entry h spelled = subst (λ (b : List ℕ). P entry (f b)) (sym spelled.2) (subst (λ (e : Entry). P e (f (filters_spelling spelled.0))) spelled.3 (h spelled.0 spelled.1))
written P (bad_first_byte rule) f bytes entry h spelled = absurd spelled
written P (field kind objection next) f bytes entry h spelled =
    subst (λ (b : List ℕ). P entry (f b)) (sym spelled.2.spelled)
    (written P (next spelled.0) (λ left. f (spelling kind spelled.0 ++ left)) spelled.1 entry (h spelled.0 spelled.2.is_value spelled.3) spelled.4)
written P (at_end whole more) f [] entry h spelled = written P whole f [] entry h.0 spelled
written P (at_end whole more) f (b ∷ bytes) entry h spelled = written P more f (b ∷ bytes) entry h.1 spelled

-- The same after the same bytes.
writes_alike : (P : Entry → List ℕ → Type 0) (format : Format) (f g : List ℕ → List ℕ) → ((left : List ℕ) → f left ≡ g left) → Writes P format f → Writes P format g
writes_alike P (done packet) f g e h = subst (λ (b : List ℕ). P packet b) (e []) h
writes_alike P (rest packet) f g e h = λ bytes. subst (λ (b : List ℕ). P (packet bytes) b) (e bytes) (h bytes)
writes_alike P (all_codes table packet) f g e h = λ reasons. subst (λ (b : List ℕ). P (packet reasons) b) (e reasons) (h reasons)
writes_alike P (all_filters asks packet) f g e h = λ filters are. subst (λ (b : List ℕ). P (packet filters) b) (e (filters_spelling filters)) (h filters are)
writes_alike P (bad_first_byte rule) f g e h = tt
writes_alike P (field kind objection next) f g e h = λ value is none.
    writes_alike P (next value) (λ left. f (spelling kind value ++ left)) (λ left. g (spelling kind value ++ left)) (λ left. e (spelling kind value ++ left)) (h value is none)
writes_alike P (at_end whole more) f g e h = (writes_alike P whole f g e h.0, writes_alike P more f g e h.1)

-- A packet with this first byte and body, which its types allow.
pub record IsMade (first : ℕ) (entry : Entry) (body : List ℕ) : Type 0 where
  pub first_is : first ≡ first_byte_of entry
  pub body_is : IsBodyOf entry body
  pub typed : IsTyped entry

-- ---- fields that may be missing

field_if_writes : (P : Entry → List ℕ → Type 0) (flag : Bool) (kind : Kind) (next : Option (ValueOf kind) → Format) (f : List ℕ → List ℕ)
    → ((value : Option (ValueOf kind)) → is_some value ≡ flag → IfSome value (IsValueOf kind) → Writes P (next value) (λ left. f (spelling_if (spelling kind) value ++ left)))
    → Writes P (field_if flag kind next) f
field_if_writes P false kind next f h = h None refl tt
field_if_writes P true kind next f h = λ value is none. h (Some value) refl is

-- What the Connect Flags say of a Will.
abbrev will_part : Bool → ℕ → ℕ
will_part false flags = 0
will_part true flags = 4 + qos_bits 8 (qos_of 8 (bit_and flags 24)) + bit 32 (has_bits 32 flags)

will_if_writes : (P : Entry → List ℕ → Type 0) (flag : Bool) (flags : ℕ) (next : Option WillFields → Format) (f : List ℕ → List ℕ)
    → ((will : Option WillFields) → will_flags will ≡ will_part flag flags → IfSome will IsWill → Writes P (next will) (λ left. f (spelling_if will_spelling will ++ left)))
    → Writes P (will_if flag flags next) f
will_if_writes P false flags next f h = h None refl tt
will_if_writes P true flags next f h = λ list is_list _ topic is_topic _ payload is_payload _.
    (let will : WillFields = record { qos = qos_of 8 (bit_and flags 24); retain = has_bits 32 flags; properties = listed places.Will list; topic = topic; payload = payload } in
    let typed : IsWill will = record { properties = record { allowed = is_list.0; bound = is_list.1 }; topic = is_topic.utf8 } in
    let joined : (left : List ℕ) → will_spelling will ++ left ≡ list_spelling list ++ (text_spelling topic ++ (binary_spelling payload ++ left)) =
    λ left. append_assoc (list_spelling list) (text_spelling topic ++ binary_spelling payload) left ∙ ap (λ (l : List ℕ). list_spelling list ++ l) (append_assoc (text_spelling topic) (binary_spelling payload) left) in
    writes_alike P (next (Some will)) (λ left. f (will_spelling will ++ left)) (λ left. f (list_spelling list ++ (text_spelling topic ++ (binary_spelling payload ++ left)))) (λ left. ap f (joined left)) (h (Some will) refl typed))

-- ---- the numbers of the flags

or_then : (a b : Bool) → (a || b) ≡ true → a ≡ false → b ≡ true
or_then true b e h = absurd (cc)
or_then false b e h = e

not_then : (a b : Bool) → (not a || b) ≡ true → a ≡ true → b ≡ true
not_then true b e h = e
not_then false b e h = absurd (cc)

-- The Connect Flags by their bits.
abbrev flags_read : ℕ → ℕ
flags_read flags = bit 2 (has_bits 2 flags) + will_part (has_bits 4 flags) flags + bit 64 (has_bits 64 flags) + bit 128 (has_bits 128 flags)

abbrev flags_test : ℕ → Bool
flags_test flags = not (are_connect_flags flags) || (flags_read flags == flags)

flags_back : (flags : ℕ) → flags < 256 → are_connect_flags flags ≡ true → flags ≡ flags_read flags
flags_back flags small good =
    (let known : flags_test flags ≡ true = agree_below_at flags_test (λ _. true) 256 flags refl small in
    sym (eqb-true (flags_read flags) flags (not_then (are_connect_flags flags) (flags_read flags == flags) known good)))

-- The flags of a PUBLISH by their bits.
abbrev publish_bits : Bool → ℕ → Bool → ℕ
publish_bits duplicate qos retain = bit 8 duplicate + qos + bit 1 retain

abbrev zero_test : ℕ → Bool
zero_test flags = not (bit_and flags 6 == 0) || (has_bits 8 flags || (publish_bits false 0 (has_bits 1 flags) == flags))

abbrev above_test : ℕ → ℕ → Bool
above_test qos flags = not (bit_and flags 6 == qos) || (publish_bits (has_bits 8 flags) qos (has_bits 1 flags) == flags)

zero_back : (flags : ℕ) → flags < 16 → (bit_and flags 6 == 0) ≡ true → has_bits 8 flags ≡ false → flags ≡ publish_bits false 0 (has_bits 1 flags)
zero_back flags small qos again =
    (let known : zero_test flags ≡ true = agree_below_at zero_test (λ _. true) 16 flags refl small in
    sym (eqb-true (publish_bits false 0 (has_bits 1 flags)) flags (or_then (has_bits 8 flags) _ (not_then (bit_and flags 6 == 0) _ known qos) again)))

one_back : (flags : ℕ) → flags < 16 → (bit_and flags 6 == 2) ≡ true → flags ≡ publish_bits (has_bits 8 flags) 2 (has_bits 1 flags)
one_back flags small qos =
    (let known : above_test 2 flags ≡ true = agree_below_at (above_test 2) (λ _. true) 16 flags refl small in
    sym (eqb-true (publish_bits (has_bits 8 flags) 2 (has_bits 1 flags)) flags (not_then (bit_and flags 6 == 2) _ known qos)))

two_back : (flags : ℕ) → flags < 16 → (bit_and flags 6 == 4) ≡ true → flags ≡ publish_bits (has_bits 8 flags) 4 (has_bits 1 flags)
two_back flags small qos =
    (let known : above_test 4 flags ≡ true = agree_below_at (above_test 4) (λ _. true) 16 flags refl small in
    sym (eqb-true (publish_bits (has_bits 8 flags) 4 (has_bits 1 flags)) flags (not_then (bit_and flags 6 == 4) _ known qos)))

-- ---- CONNECT, CONNACK and PUBLISH

-- The body of a CONNECT with this name, version and these flags.
abbrev connected : List ℕ → ℕ → ℕ → ConnectFields → List ℕ
connected name version flags fields =
    text_spelling name ++ (version ∷ flags ∷ (two_bytes_spelling fields.keep_alive
    ++ (list_spelling fields.properties.items
    ++ (text_spelling fields.client_identifier
    ++ (spelling_if will_spelling fields.will
    ++ (spelling_if text_spelling fields.user_name
    ++ (spelling_if binary_spelling fields.password ++ [])))))))

connect_is : (name : List ℕ) (version flags : ℕ) (fields : ConnectFields) → name ≡ codes "MQTT" → version ≡ 5 → flags ≡ connect_flags fields → connected name version flags fields ≡ connect_body fields
unfolding connect_body
connect_is name version flags fields one two three =
    ap (λ (l : List ℕ). connected l version flags fields) one
    ∙ (ap (λ (n : ℕ). connected (codes "MQTT") n flags fields) two
    ∙ (ap (λ (n : ℕ). connected (codes "MQTT") 5 n fields) three
    ∙ ap (λ (l : List ℕ). text_spelling (codes "MQTT") ++ (5 ∷ connect_flags fields ∷ (two_bytes_spelling fields.keep_alive ++ (list_spelling fields.properties.items ++ (text_spelling fields.client_identifier ++ (spelling_if will_spelling fields.will ++ (spelling_if text_spelling fields.user_name ++ l))))))) (append-nil (spelling_if binary_spelling fields.password))))

-- The flags that such fields ask for.
abbrev flags_by : Bool → ℕ → Bool → Bool → ℕ
flags_by clean_start will password user_name = bit 2 clean_start + will + bit 64 password + bit 128 user_name

utf8_if : (value : Option (List ℕ)) → IfSome value (IsValueOf text) → IfSome value IsUtf8
utf8_if None h = tt
utf8_if (Some bytes) h = h.utf8

five_is : (version : ℕ) → version_objection version ≡ None → version ≡ 5
five_is version e =
    elim (version == 5) as (λ t. (version == 5) ≡ t → (if t then None else Some (other_version version)) ≡ None → version ≡ 5) [
      | true ↦ λ is h. eqb-true version 5 is
      | false ↦ λ is h. absurd (cc)
    ] refl e

connect_writes : (first : ℕ) → first ≡ 16 → Writes (IsMade first) connect_format (λ left. left)
connect_writes first first_is = λ name is_name name_is version is_version version_is flags small good keep_alive is_keep _ list is_list _ client is_client _.
    will_if_writes (IsMade first) (has_bits 4 flags) flags _ _ (λ will will_is is_will.
    field_if_writes (IsMade first) (has_bits 128 flags) text _ _ (λ user_name there_user is_user.
    field_if_writes (IsMade first) (has_bits 64 flags) binary _ _ (λ password there_password is_password.
    (let fields : ConnectFields = record { clean_start = has_bits 2 flags; keep_alive = keep_alive; properties = listed places.Connect list; client_identifier = client; will = will; user_name = user_name; password = password } in
    let flags_are : flags ≡ connect_flags fields =
    flags_back flags small (not_objected (are_connect_flags flags) rules.W19 good)
    ∙ (ap (λ (w : ℕ). flags_by (has_bits 2 flags) w (has_bits 64 flags) (has_bits 128 flags)) (sym will_is)
    ∙ (ap (λ (b : Bool). flags_by (has_bits 2 flags) (will_flags will) b (has_bits 128 flags)) (sym there_password)
    ∙ ap (λ (b : Bool). flags_by (has_bits 2 flags) (will_flags will) (is_some password) b) (sym there_user))) in
    let named : name ≡ codes "MQTT" = (bytes_eq-Decides name (codes "MQTT")).0 (not_objected (bytes_eq name (codes "MQTT")) rules.W18 name_is) in
    record {
      first_is = first_is;
      body_is = connect_is name version flags fields named (five_is version version_is) flags_are;
      typed = record {
        keep_alive = is_keep;
        properties = record { allowed = is_list.0; bound = is_list.1 };
        client_identifier = is_client.utf8;
        will = is_will;
        user_name = utf8_if user_name is_user;
      };
    }))))

below_two : (flags : ℕ) → flags < 2 → flags ≡ bit 1 (flags == 1)
below_two zero h = refl
below_two (suc zero) h = refl
below_two (suc (suc n)) h = absurd (omega arith)

connack_writes : (first : ℕ) → first ≡ 32 → Writes (IsMade first) connack_format (λ left. left)
unfolding connack_body
connack_writes first first_is = λ flags small good code is_code _ list is_list _.
    record {
      first_is = first_is;
      body_is = ap (λ (n : ℕ). n ∷ code ∷ (list_spelling list ++ [])) (below_two flags (ltb-true flags 2 (not_objected (nat_lt flags 2) rules.W20 good))) ∙ ap (λ (l : List ℕ). bit 1 (flags == 1) ∷ code ∷ l) (append-nil (list_spelling list));
      typed = record { allowed = is_list.0; bound = is_list.1 };
    }

publish_from_writes : (first : ℕ) (duplicate : Bool) (qos : Qos) (retain : Bool) (topic : List ℕ) (identifier : Option ℕ)
    → first ≡ first_byte_with types.Publish (publish_bits duplicate (qos_bits 2 qos) retain) → IsUtf8 topic → IfSome identifier (λ i. i ≤ 65535)
    → Writes (IsMade first) (publish_from duplicate qos retain topic identifier) (λ left. text_spelling topic ++ (spelling_if two_bytes_spelling identifier ++ left))
unfolding publish_body
publish_from_writes first duplicate qos retain topic identifier first_is is_topic is_identifier = λ list is_list _ payload.
    record {
      first_is = first_is;
      body_is = refl;
      typed = record { topic = is_topic; identifier = is_identifier; properties = record { allowed = is_list.0; bound = is_list.1 } };
    }

unacknowledged_writes : (first : ℕ) (retain : Bool) → first ≡ first_byte_with types.Publish (publish_bits false 0 retain) → Writes (IsMade first) (publish_unacknowledged retain) (λ left. left)
unacknowledged_writes first retain first_is = λ topic is_topic _. publish_from_writes first false AtMostOnce retain topic None first_is is_topic.utf8 tt

acknowledged_writes : (first : ℕ) (duplicate : Bool) (qos : Qos) (retain : Bool) → first ≡ first_byte_with types.Publish (publish_bits duplicate (qos_bits 2 qos) retain) → Writes (IsMade first) (publish_acknowledged duplicate qos retain) (λ left. left)
acknowledged_writes first duplicate qos retain first_is = λ topic is_topic _ identifier is_identifier _. publish_from_writes first duplicate qos retain topic (Some identifier) first_is is_topic.utf8 is_identifier

-- One choice by the first byte.
or_known : (P : Entry → List ℕ → Type 0) (b : Bool) (one two : Format) → (b ≡ true → Writes P one (λ left. left)) → (b ≡ false → Writes P two (λ left. left)) → Writes P (if b then one else two) (λ left. left)
or_known P true one two h k = h refl
or_known P false one two h k = k refl

publish_writes : (first : ℕ) → first ≡ first_byte_with types.Publish (flags_in first) → Writes (IsMade first) (publish_format (flags_in first)) (λ left. left)
publish_writes first is =
    (let flags : ℕ = flags_in first in
    let small : flags < 16 = omega arith in
    let made : (bits : ℕ) → flags ≡ bits → first ≡ first_byte_with types.Publish bits = λ bits same. is ∙ ap (first_byte_with types.Publish) same in
    or_known (IsMade first) (bit_and flags 6 == 0) (if has_bits 8 flags then bad_first_byte rules.W08 else publish_unacknowledged (has_bits 1 flags)) _
    (λ zero. or_known (IsMade first) (has_bits 8 flags) (bad_first_byte rules.W08) (publish_unacknowledged (has_bits 1 flags)) (λ _. tt) (λ once. unacknowledged_writes first (has_bits 1 flags) (made _ (zero_back flags small zero once))))
    (λ _. or_known (IsMade first) (bit_and flags 6 == 2) (publish_acknowledged (has_bits 8 flags) AtLeastOnce (has_bits 1 flags)) _
    (λ one. acknowledged_writes first (has_bits 8 flags) AtLeastOnce (has_bits 1 flags) (made _ (one_back flags small one)))
    (λ _. or_known (IsMade first) (bit_and flags 6 == 4) (publish_acknowledged (has_bits 8 flags) ExactlyOnce (has_bits 1 flags)) (bad_first_byte rules.W07)
    (λ two. acknowledged_writes first (has_bits 8 flags) ExactlyOnce (has_bits 1 flags) (made _ (two_back flags small two))) (λ _. tt))))

-- ---- acknowledgements, DISCONNECT and AUTH

-- No properties.
nothing : (place : Place) → IsListed (none_listed place)
nothing place = (let none : length (properties_spelling []) ≡ 0 = refl in record { allowed = tt; bound = omega (arith, none) })

acknowledgement_writes : (first : ℕ) (kind : AcknowledgementKind) → first ≡ reserved_byte (acknowledgement_type kind) → Writes (IsMade first) (acknowledgement_format kind) (λ left. left)
acknowledgement_writes first kind first_is = λ identifier is_identifier _. (
  record { first_is = first_is; body_is = ([], refl, inr (inr (refl, refl, refl))); typed = record { bound = is_identifier; properties = nothing (acknowledgement_place kind) } },
  λ code is_code _. (
    record { first_is = first_is; body_is = (code ∷ [], refl, inr (inl (refl, refl))); typed = record { bound = is_identifier; properties = nothing (acknowledgement_place kind) } },
    λ list is_list _. record {
      first_is = first_is;
      body_is = (code ∷ (list_spelling list ++ []), refl, inl (ap (λ (l : List ℕ). code ∷ l) (append-nil (list_spelling list))));
      typed = record { bound = is_identifier; properties = record { allowed = is_list.0; bound = is_list.1 } };
    },
  ),
)

-- A Reason Code and properties, which end a packet.
whole_end : (code : ℕ) (items : List Property) → SpellsEnd code items (code ∷ (list_spelling items ++ []))
whole_end code items = inl (ap (λ (l : List ℕ). code ∷ l) (append-nil (list_spelling items)))

disconnect_writes : (first : ℕ) → first ≡ 224 → Writes (IsMade first) (reason_packet_format endings.Disconnect) (λ left. left)
disconnect_writes first first_is = (
  record { first_is = first_is; body_is = inr (inr (refl, refl, refl)); typed = nothing places.Disconnect },
  λ code is_code _. (
    record { first_is = first_is; body_is = inr (inl (refl, refl)); typed = nothing places.Disconnect },
    λ list is_list _. record { first_is = first_is; body_is = whole_end code list; typed = record { allowed = is_list.0; bound = is_list.1 } },
  ),
)

auth_writes : (first : ℕ) → first ≡ 240 → Writes (IsMade first) (reason_packet_format endings.Auth) (λ left. left)
auth_writes first first_is = (
  record { first_is = first_is; body_is = inr (inr (refl, refl, refl)); typed = nothing places.Auth },
  λ code is_code _. (
    record { first_is = first_is; body_is = inr (inl (refl, refl)); typed = nothing places.Auth },
    λ list is_list _. record { first_is = first_is; body_is = whole_end code list; typed = record { allowed = is_list.0; bound = is_list.1 } },
  ),
)

-- ---- SUBSCRIBE, UNSUBSCRIBE and their answers

request_writes : (first : ℕ) (kind : RequestKind) → first ≡ reserved_byte (request_type kind) → Writes (IsMade first) (request_format kind) (λ left. left)
unfolding identified request_body
request_writes first kind first_is = λ identifier is_identifier _ list is_list _ filters are.
    record {
      first_is = first_is;
      body_is = refl;
      typed = record { identified = record { bound = is_identifier; properties = record { allowed = is_list.0; bound = is_list.1 } }; each = all_typed (has_options kind) filters are.each };
    }

answer_writes : (first : ℕ) (kind : RequestKind) → first ≡ reserved_byte (answer_type kind) → Writes (IsMade first) (answer_format kind) (λ left. left)
unfolding identified answer_body
answer_writes first kind first_is = λ identifier is_identifier _ list is_list _ reasons.
    record {
      first_is = first_is;
      body_is = refl;
      typed = record { bound = is_identifier; properties = record { allowed = is_list.0; bound = is_list.1 } };
    }

-- ---- any first byte

type_writes : (first : ℕ) (type : PacketType) → first ≡ first_byte_with type (flags_in first) → are_flags (reserved_flags type) (flags_in first) ≡ true
    → Writes (IsMade first) (format_by_type type (flags_in first)) (λ left. left)
type_writes first types.Connect is e = connect_writes first (reserved_first first 0 types.Connect is e)
type_writes first types.Connack is e = connack_writes first (reserved_first first 0 types.Connack is e)
type_writes first types.Publish is e = publish_writes first is
type_writes first types.Puback is e = acknowledgement_writes first acknowledgements.Puback (reserved_first first 0 types.Puback is e)
type_writes first types.Pubrec is e = acknowledgement_writes first acknowledgements.Pubrec (reserved_first first 0 types.Pubrec is e)
type_writes first types.Pubrel is e = acknowledgement_writes first acknowledgements.Pubrel (reserved_first first 2 types.Pubrel is e)
type_writes first types.Pubcomp is e = acknowledgement_writes first acknowledgements.Pubcomp (reserved_first first 0 types.Pubcomp is e)
type_writes first types.Subscribe is e = request_writes first requests.Subscribe (reserved_first first 2 types.Subscribe is e)
type_writes first types.Suback is e = answer_writes first requests.Subscribe (reserved_first first 0 types.Suback is e)
type_writes first types.Unsubscribe is e = request_writes first requests.Unsubscribe (reserved_first first 2 types.Unsubscribe is e)
type_writes first types.Unsuback is e = answer_writes first requests.Unsubscribe (reserved_first first 0 types.Unsuback is e)
type_writes first types.Pingreq is e = record { first_is = reserved_first first 0 types.Pingreq is e; body_is = refl; typed = tt }
type_writes first types.Pingresp is e = record { first_is = reserved_first first 0 types.Pingresp is e; body_is = refl; typed = tt }
type_writes first types.Disconnect is e = disconnect_writes first (reserved_first first 0 types.Disconnect is e)
type_writes first types.Auth is e = auth_writes first (reserved_first first 0 types.Auth is e)

format_writes : (first : ℕ) → Writes (IsMade first) (format_of first) (λ left. left)
format_writes first = each_first (λ format. Writes (IsMade first) format (λ left. left)) first tt tt (λ type is e. type_writes first type is e)

-- A packet that is spelled has this first byte, and a body that is one of its own.
pub spelled_made : (first : ℕ) (body : List ℕ) (entry : Entry) → IsSpelled first body entry → IsMade first entry body
spelled_made first body entry h = written (IsMade first) (format_of first) (λ left. left) body entry (format_writes first) h
