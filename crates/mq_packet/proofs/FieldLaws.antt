-- The reading of each kind of field is exact: it gives the value that stands spelled at the front, and is refused exactly
-- where none does.
use Rattle.std.proofs.Common.{◌≡◌, ℕ, ◌+◌, Bool, true, false, ◌&&◌, not, eqb, ltb, List, [], ◌∷◌, ◌++◌, length, drop, Result, Ok, Err, refl, sym, ap, ◌∙◌}
use Rattle.std.proofs.lemmas.List.{drop_at}
use Rattle.mq_wire.specs.declared.fault.Reason.{Reason}
use Rattle.mq_wire.specs.declared.fault.WireFault.{WireFault}
use Rattle.mq_wire.specs.Left.{Left, placed}
use Rattle.mq_wire.specs.Fields.{text_at}
use Rattle.mq_wire.specs.FieldTypes.{FieldType, one_byte, two_byte_integer, utf8_string, binary_data}
use Rattle.mq_wire.specs.Misspelled.{RefusesMisspelled}
use Rattle.mq_wire.specs.Spellings.{AreBytes, BeginsWith, IsExact}
use Rattle.mq_wire.specs.Plain.{is_plain, is_plain_byte}
use Rattle.mq_wire.proofs.Exports.{placed_ok, placed_err, both, byte_exact, two_bytes_exact, text_exact, binary_exact, byte_misspelled, two_bytes_misspelled, text_misspelled, binary_misspelled}
use Rattle.mq_topic.specs.Levels.{is_name}
use Rattle.mq_props.specs.declared.fault.PropFault.{PropFault}
use Rattle.mq_props.specs.declared.table.Place.{Place}
use Rattle.mq_props.specs.Values.{Property}
use Rattle.mq_props.specs.Allowed.{Lists}
use Rattle.mq_props.specs.Reading.{list_on}
use Rattle.mq_props.proofs.Exports.{Listing, list_found, list_only, list_breaks, breaks_list}
use Rattle.mq_packet.specs.declared.fault.DecodeFault.{DecodeFault}
use Rattle.mq_packet.specs.Formats.{Kind, byte, two_bytes, text, binary, properties, ValueOf, topic_objection}
use Rattle.mq_packet.specs.Decoding.{broken, rule_of, list_rule, spelled, spelled_list, field_on, read_field}
use Rattle.mq_packet.specs.Misspellings.{MisspelledField, MisspelledAs}
use Rattle.mq_packet.specs.Spelled.{spelling, Begin}

-- What is left: these bytes, from this place on.
abbrev pub left_from : ℕ → List ℕ → Left
left_from at bytes = record { at = at; rest = bytes }

-- What stands at the front of these bytes: the value, spelled, and this left after it.
pub record Front (kind : Kind) (at : ℕ) (bytes : List ℕ) (value : ValueOf kind) (new : Left) : Type 0 where
  pub begin : Begin kind bytes value new.rest
  pub trailing : new ≡ left_from (at + length (spelling kind value)) new.rest

-- a field that was read
abbrev pub given : {A : Type 0} → A → Result A DecodeFault
given x = Ok x

-- one that was refused
abbrev pub failed : {A : Type 0} → DecodeFault → Result A DecodeFault
failed fault = Err fault

pub given_is : {A : Type 0} (x y : A) → given x ≡ given y → x ≡ y
given_is x y e = cc

pub failed_is : {A : Type 0} (x y : DecodeFault) → failed {A = A} x ≡ failed y → x ≡ y
failed_is x y e = cc

pub spelled_ok : {X : Type 0} (r : Result X WireFault) (y : X) → spelled r ≡ Ok y → r ≡ Ok y
spelled_ok (Ok x) y e = cc
spelled_ok (Err fault) y e = absurd cc

spelled_err : {X : Type 0} (r : Result X WireFault) (fault : DecodeFault) → spelled r ≡ Err fault → (first : WireFault) × (r ≡ Err first) × (fault ≡ broken first.at (rule_of first.reason))
spelled_err (Ok x) fault e = absurd cc
spelled_err {X} (Err first) fault e = (first, refl, sym (failed_is {A = X} (broken first.at (rule_of first.reason)) fault e))

list_ok : {X : Type 0} (r : Result X PropFault) (y : X) → spelled_list r ≡ Ok y → r ≡ Ok y
list_ok (Ok x) y e = cc
list_ok (Err fault) y e = absurd cc

list_err : {X : Type 0} (r : Result X PropFault) (fault : DecodeFault) → spelled_list r ≡ Err fault → (first : PropFault) × (r ≡ Err first) × (fault ≡ broken first.at (list_rule first.reason))
list_err (Ok x) fault e = absurd cc
list_err {X} (Err first) fault e = (first, refl, sym (failed_is {A = X} (broken first.at (list_rule first.reason)) fault e))

-- ---- values

-- what an exact reading gives
wire_front : {X : Type 0} {read : List ℕ → Result (X × ℕ) Reason} {Values : X → Type 0} {spells : X → List ℕ} → IsExact read Values spells → (at : ℕ) (bytes : List ℕ) (value : X) (new : Left) → AreBytes bytes → spelled (placed (left_from at bytes) (read bytes)) ≡ Ok (value, new)
    → Values value × (bytes ≡ spells value ++ new.rest) × (new ≡ left_from (at + length (spells value)) new.rest)
wire_front {X} {read} {Values} {spells} exact at bytes value new known e =
    let size = placed_ok (left_from at bytes) (read bytes) value new (spelled_ok (placed (left_from at bytes) (read bytes)) (value, new) e) in
    let stands : BeginsWith Values spells bytes value size.0 = exact.only bytes value size.0 known size.1 in
    let rest : new.rest ≡ drop size.0 bytes = ap (λ (l : Left). l.rest) size.2 in (
      stands.value,
      stands.spelled ∙ ap (λ (l : List ℕ). spells value ++ l) (sym rest),
      size.2 ∙ ap (λ (k : ℕ). left_from (at + k) (drop size.0 bytes)) stands.taken ∙ ap (λ (l : List ℕ). left_from (at + length (spells value)) l) (sym rest),
    )

-- what it is given
wire_read : {X : Type 0} {read : List ℕ → Result (X × ℕ) Reason} {Values : X → Type 0} {spells : X → List ℕ} → IsExact read Values spells → (at : ℕ) (bytes : List ℕ) (value : X) (left : List ℕ) → Values value → bytes ≡ spells value ++ left
    → spelled (placed (left_from at bytes) (read bytes)) ≡ Ok (value, left_from (at + length (spells value)) left)
wire_read {X} {read} {Values} {spells} exact at bytes value left good is =
    let trailing : drop (length (spells value)) bytes ≡ left = ap (drop (length (spells value))) is ∙ drop_at (spells value) left (length (spells value)) refl in
    ap (λ (r : Result (X × ℕ) Reason). spelled (placed (left_from at bytes) r)) (ap read is ∙ exact.all value left good)
    ∙ ap (λ (l : List ℕ). given (value, left_from (at + length (spells value)) l)) trailing

list_front : (place : Place) (at : ℕ) (bytes : List ℕ) (value : List Property) (new : Left) → AreBytes bytes → list_on place (left_from at bytes) ≡ Ok (value, new) → Front (properties place) at bytes value new
list_front place at bytes value new known e =
    let found : Listing place (left_from at bytes) value new = list_found place (left_from at bytes) value new known e in
    let parts : bytes ≡ spelling (properties place) value ++ new.rest = found.parts ∙ ap (λ (front : List ℕ). front ++ new.rest) found.lists.spelled in
    let taken : length found.bytes ≡ length (spelling (properties place) value) = ap (λ (l : List ℕ). length l) found.lists.spelled in
    let rest : new.rest ≡ drop (length found.bytes) bytes = ap (λ (l : Left). l.rest) found.following in
    record {
      begin = record { is_value = (found.lists.allowed, found.lists.bound); spelled = parts };
      trailing = found.following ∙ ap (λ (k : ℕ). left_from (at + k) (drop (length found.bytes) bytes)) taken ∙ ap (λ (l : List ℕ). left_from (at + length (spelling (properties place) value)) l) (sym rest);
    }

list_read : (place : Place) (at : ℕ) (bytes : List ℕ) (value : List Property) (left : List ℕ) → Begin (properties place) bytes value left → list_on place (left_from at bytes) ≡ Ok (value, left_from (at + length (spelling (properties place) value)) left)
list_read place at bytes value left begin =
    let lists : Lists place value (spelling (properties place) value) = record { spelled = refl; bound = begin.is_value.1; allowed = begin.is_value.0 } in
    let size : ℕ = length (spelling (properties place) value) in
    let trailing : drop size bytes ≡ left = ap (drop size) begin.spelled ∙ drop_at (spelling (properties place) value) left size refl in
    list_only place (left_from at bytes) value (spelling (properties place) value) left lists begin.spelled
    ∙ ap (λ (l : List ℕ). Ok (value, left_from (at + length (spelling (properties place) value)) l)) trailing

-- A field that is read stands spelled at the front.
pub field_found : (kind : Kind) (at : ℕ) (bytes : List ℕ) (value : ValueOf kind) (new : Left) → AreBytes bytes → field_on kind (left_from at bytes) ≡ Ok (value, new) → Front kind at bytes value new
field_found byte at bytes value new known e = let h = wire_front byte_exact at bytes value new known e in record { begin = record { is_value = h.0; spelled = h.1 }; trailing = h.2 }
field_found two_bytes at bytes value new known e = let h = wire_front two_bytes_exact at bytes value new known e in record { begin = record { is_value = h.0; spelled = h.1 }; trailing = h.2 }
field_found text at bytes value new known e = let h = wire_front text_exact at bytes value new known e in record { begin = record { is_value = h.0; spelled = h.1 }; trailing = h.2 }
field_found binary at bytes value new known e = let h = wire_front binary_exact at bytes value new known e in record { begin = record { is_value = h.0; spelled = h.1 }; trailing = h.2 }
field_found (properties place) at bytes value new known e = list_front place at bytes value new known (list_ok (list_on place (left_from at bytes)) (value, new) e)

-- A value that stands spelled at the front is read.
pub field_read : (kind : Kind) (at : ℕ) (bytes : List ℕ) (value : ValueOf kind) (left : List ℕ) → Begin kind bytes value left → field_on kind (left_from at bytes) ≡ Ok (value, left_from (at + length (spelling kind value)) left)
field_read byte at bytes value left begin = wire_read byte_exact at bytes value left begin.is_value begin.spelled
field_read two_bytes at bytes value left begin = wire_read two_bytes_exact at bytes value left begin.is_value begin.spelled
field_read text at bytes value left begin = wire_read text_exact at bytes value left begin.is_value begin.spelled
field_read binary at bytes value left begin = wire_read binary_exact at bytes value left begin.is_value begin.spelled
field_read (properties place) at bytes value left begin = ap spelled_list (list_read place at bytes value left begin)

-- ---- faults

-- of a reading that refuses what is misspelled: what it is refused for
wire_misspelled : {X : Type 0} {read : List ℕ → Result (X × ℕ) Reason} (type : FieldType) → RefusesMisspelled read type → (at : ℕ) (bytes : List ℕ) (fault : DecodeFault) → AreBytes bytes → spelled (placed (left_from at bytes) (read bytes)) ≡ Err fault
    → MisspelledField type at bytes fault
wire_misspelled {X} {read} type refuses at bytes fault known e =
    let first = spelled_err (placed (left_from at bytes) (read bytes)) fault e in
    let why = placed_err (left_from at bytes) (read bytes) first.0 first.1 in
    record { reason = first.0.reason; misspelled = (refuses.exactly bytes first.0.reason known).0 why.0; is = first.2 ∙ ap (λ (n : ℕ). broken n (rule_of first.0.reason)) why.1 }

-- and what it refuses
misspelled_wire : {X : Type 0} {read : List ℕ → Result (X × ℕ) Reason} (type : FieldType) → RefusesMisspelled read type → (at : ℕ) (bytes : List ℕ) (fault : DecodeFault) → AreBytes bytes → MisspelledField type at bytes fault
    → spelled (placed (left_from at bytes) (read bytes)) ≡ Err fault
misspelled_wire {X} {read} type refuses at bytes fault known h =
    ap (λ (r : Result (X × ℕ) Reason). spelled (placed (left_from at bytes) r)) ((refuses.exactly bytes h.reason known).1 h.misspelled) ∙ ap (λ (f : DecodeFault). failed {A = X × Left} f) (sym h.is)

list_misspelled : (place : Place) (at : ℕ) (bytes : List ℕ) (fault : DecodeFault) → AreBytes bytes → field_on (properties place) (left_from at bytes) ≡ Err fault → MisspelledAs (properties place) at bytes fault
list_misspelled place at bytes fault known e =
    let first = list_err (list_on place (left_from at bytes)) fault e in
    record { first = first.0; breaks = list_breaks place (left_from at bytes) first.0 known first.1; is = first.2 }

-- A field that is refused isn't spelled at the front, and has the fault of that.
pub field_misspelled : (kind : Kind) (at : ℕ) (bytes : List ℕ) (fault : DecodeFault) → AreBytes bytes → field_on kind (left_from at bytes) ≡ Err fault → MisspelledAs kind at bytes fault
field_misspelled byte at bytes fault known e = wire_misspelled one_byte byte_misspelled at bytes fault known e
field_misspelled two_bytes at bytes fault known e = wire_misspelled two_byte_integer two_bytes_misspelled at bytes fault known e
field_misspelled text at bytes fault known e = wire_misspelled utf8_string text_misspelled at bytes fault known e
field_misspelled binary at bytes fault known e = wire_misspelled binary_data binary_misspelled at bytes fault known e
field_misspelled (properties place) at bytes fault known e = list_misspelled place at bytes fault known e

-- Bytes that don't begin with a field of the kind are refused, for the fault that they have so.
pub misspelled_field : (kind : Kind) (at : ℕ) (bytes : List ℕ) (fault : DecodeFault) → AreBytes bytes → MisspelledAs kind at bytes fault → field_on kind (left_from at bytes) ≡ Err fault
misspelled_field byte at bytes fault known h = misspelled_wire one_byte byte_misspelled at bytes fault known h
misspelled_field two_bytes at bytes fault known h = misspelled_wire two_byte_integer two_bytes_misspelled at bytes fault known h
misspelled_field text at bytes fault known h = misspelled_wire utf8_string text_misspelled at bytes fault known h
misspelled_field binary at bytes fault known h = misspelled_wire binary_data binary_misspelled at bytes fault known h
misspelled_field (properties place) at bytes fault known h =
    ap spelled_list (breaks_list place (left_from at bytes) h.first known h.breaks) ∙ ap (λ (f : DecodeFault). failed {A = List Property × Left} f) (sym h.is)

-- ---- a Topic Name of plain bytes

no_wildcard : (a b c d : Bool) → (a && (b && (c && d))) ≡ true → (c && d) ≡ true
no_wildcard true true c d h = h
no_wildcard true false c d h = absurd cc
no_wildcard false b c d h = absurd cc

plain_name : (topic : List ℕ) → is_plain topic ≡ true → is_name topic ≡ true
plain_name [] h = refl
plain_name (b ∷ topic) h =
    let parts : (is_plain_byte b ≡ true) × (is_plain topic ≡ true) = both (is_plain_byte b) (is_plain topic) h in
    rw (no_wildcard (ltb b 128) (not (eqb b 0)) (not (eqb b 35)) (not (eqb b 43)) parts.0, plain_name topic parts.1) refl

-- it is read, and nothing is objected to it
pub plain_topic : (left : Left) (topic : List ℕ) (new : Left) → placed left (text_at left.rest) ≡ Ok (topic, new) → is_plain topic ≡ true → read_field text topic_objection left ≡ Ok (topic, new)
plain_topic left topic new e h = rw (e, plain_name topic h) refl
