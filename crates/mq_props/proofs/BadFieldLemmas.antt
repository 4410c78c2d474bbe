-- A property is refused for its first bad field.
use Rattle.std.proofs.Common.{◌≡◌, ℕ, ◌+◌, List, length, drop, Option, None, Some, Result, Ok, Err, refl, sym, ap, subst, ◌∙◌, ◌⊎◌, inl, inr}
use Rattle.std.proofs.lemmas.Bool.{cases_Bool}
use Rattle.mq_wire.specs.declared.fault.Reason.{Reason}
use Rattle.mq_wire.specs.declared.fault.WireFault.{WireFault}
use Rattle.mq_wire.specs.Left.{Left, placed}
use Rattle.mq_wire.specs.Fields.{varint_at, byte_at, two_bytes_at, four_bytes_at, text_at, pair_at, binary_at, ◌>>=◌}
use Rattle.mq_wire.specs.Spellings.{AreBytes, IsVarint, varint_spelling, BeginsWith}
use Rattle.mq_wire.specs.Misspelled.{Misspelled}
use Rattle.mq_wire.proofs.Exports.{AreBytes-drop, AreBytes-after, byte_misspelled, two_bytes_misspelled, four_bytes_misspelled, varint_misspelled, text_misspelled, pair_misspelled, binary_misspelled, placed_ok, varint_exact}
use Rattle.mq_props.specs.declared.fault.PropFault.{PropFault}
use Rattle.mq_props.specs.declared.fault.PropReason.TheVariants.{Wire, Unknown, NotAllowed, Repeated, Value as BadValue, Wildcard}
use Rattle.mq_props.specs.declared.table.Place.{Place}
use Rattle.mq_props.specs.declared.table.ValueType.{ValueType}
use Rattle.mq_props.specs.declared.table.ValueType.TheVariants as types
use Rattle.mq_props.specs.Table.{Line, row_of, is_listed}
use Rattle.mq_props.specs.Values.{Value, byte_value, two_bytes_value, four_bytes_value, varint_value, text_value, binary_value, Property, value_spelling}
use Rattle.mq_props.specs.Allowed.{is_repeated, in_range, is_wild}
use Rattle.mq_props.specs.BadFields.{Numbered, NamedBy, field_type, Begins, IsValued, BreaksIdentifier, BreaksValue, BreaksProperty}
use Rattle.mq_props.specs.Reading.{from_wire, judged_at, value_on, admitted, valued, property_on}
use Rattle.mq_props.proofs.Finding.{line_known}
use Rattle.mq_props.proofs.Fields.{value_at, value_on_is, mapped, pair_of, IsOf, value_exact}
use Rattle.mq_props.proofs.Steps.{from_wire_ok, admitted_ok, judged_ok}
use Rattle.mq_props.proofs.Exact.{left_at, read, named_read, value_read}

abbrev failed : {A : Type 0} → PropFault → Result A PropFault
failed fault = Err fault

failed_is : {A : Type 0} (x y : PropFault) → failed {A = A} x ≡ failed y → x ≡ y
failed_is x y e = cc

-- ---- how a property is read, after its identifier, and after its line

abbrev with_value : Place → Line → ℕ → Result (Value × Left) WireFault → Result (Property × Left) PropFault
with_value place line at r = from_wire r >>= λ value. judged_at at (valued place line value.0) >>= λ property. Ok (property, value.1)

abbrev with_line : Place → Left → Result Line PropFault → Result (Property × Left) PropFault
with_line place following r = r >>= λ line. with_value place line following.at (value_on line.kind following)

abbrev with_id : Place → List Property → ℕ → Result (ℕ × Left) WireFault → Result (Property × Left) PropFault
with_id place before at r = from_wire r >>= λ id. with_line place id.1 (judged_at at (admitted place before (row_of id.0)))

-- ---- a bad field is refused

pub named_on : (left : Left) (id : ℕ) (following : Left) → Numbered left id following → placed left (varint_at left.rest) ≡ read (id, following)
named_on left id following named =
    ap (λ (bytes : List ℕ). placed (left_at left.at bytes) (varint_at bytes)) named.spelled
    ∙ named_read left.at id following.rest named.is_number
    ∙ ap (λ (at : ℕ). read (id, left_at at following.rest)) (sym named.place)

property_named : (place : Place) (before : List Property) (left : Left) (id : ℕ) (following : Left) → Numbered left id following → property_on place before left ≡ with_line place following (judged_at left.at (admitted place before (row_of id)))
unfolding property_on
property_named place before left id following named = ap (with_id place before left.at) (named_on left id following named)

property_known : (place : Place) (before : List Property) (left : Left) (line : Line) (following : Left) → NamedBy left line following → property_on place before left ≡ with_line place following (judged_at left.at (admitted place before (Some line)))
property_known place before left line following named =
    property_named place before left line.id following named.named ∙ ap (λ (o : Option Line). with_line place following (judged_at left.at (admitted place before o))) named.known

property_begun : (place : Place) (before : List Property) (left : Left) (line : Line) (following : Left) → Begins place before left line following → property_on place before left ≡ with_value place line following.at (value_on line.kind following)
property_begun place before left line following begins = property_known place before left line following begins.named ∙ rw (begins.listed, begins.once) refl

pub breaks_identifier : (place : Place) (before : List Property) (left : Left) (fault : PropFault) → AreBytes left.rest → BreaksIdentifier place before left fault → property_on place before left ≡ Err fault
unfolding property_on
breaks_identifier place before left fault fits (inl bad) =
    ap (λ (r : Result (ℕ × ℕ) Reason). with_id place before left.at (placed left r)) ((varint_misspelled.exactly left.rest bad.reason fits).1 bad.misspelled) ∙ ap failed (sym bad.is)
breaks_identifier place before left fault fits (inr (inl bad)) =
    property_named place before left bad.id bad.following bad.named ∙ ap (λ (o : Option Line). with_line place bad.following (judged_at left.at (admitted place before o))) bad.unknown ∙ ap failed (sym bad.is)
breaks_identifier place before left fault fits (inr (inr (inl bad))) = property_known place before left bad.line bad.following bad.named ∙ rw bad.unlisted (ap failed (sym bad.is))
breaks_identifier place before left fault fits (inr (inr (inr bad))) = property_known place before left bad.line bad.following bad.named ∙ rw (bad.listed, bad.again) (ap failed (sym bad.is))

abbrev refused_for : {A : Type 0} → Reason → Result A Reason
refused_for reason = Err reason

misspelled_at : (kind : ValueType) (bytes : List ℕ) (reason : Reason) → AreBytes bytes → Misspelled (field_type kind) bytes reason → value_at kind bytes ≡ refused_for reason
misspelled_at types.Byte bytes reason fits h = ap (mapped byte_value) ((byte_misspelled.exactly bytes reason fits).1 h)
misspelled_at types.TwoBytes bytes reason fits h = ap (mapped two_bytes_value) ((two_bytes_misspelled.exactly bytes reason fits).1 h)
misspelled_at types.FourBytes bytes reason fits h = ap (mapped four_bytes_value) ((four_bytes_misspelled.exactly bytes reason fits).1 h)
misspelled_at types.Varint bytes reason fits h = ap (mapped varint_value) ((varint_misspelled.exactly bytes reason fits).1 h)
misspelled_at types.Text bytes reason fits h = ap (mapped text_value) ((text_misspelled.exactly bytes reason fits).1 h)
misspelled_at types.Pair bytes reason fits h = ap (mapped pair_of) ((pair_misspelled.exactly bytes reason fits).1 h)
misspelled_at types.Binary bytes reason fits h = ap (mapped binary_value) ((binary_misspelled.exactly bytes reason fits).1 h)

-- what stands after an identifier are bytes
bytes_begun : (place : Place) (before : List Property) (left : Left) (line : Line) (following : Left) → AreBytes left.rest → Begins place before left line following → AreBytes following.rest
bytes_begun place before left line following fits begins = AreBytes-after (varint_spelling line.id) following.rest left.rest fits begins.named.named.spelled

-- the value that stands spelled is read
valued_on : (kind : ValueType) (left : Left) (value : Value) (is : IsValued kind left value) → value_on kind left ≡ read (value, left_at (left.at + length (value_spelling value)) is.rest)
valued_on kind left value is = ap (λ (bytes : List ℕ). value_on kind (left_at left.at bytes)) is.spelled ∙ value_read left.at kind value is.rest (is.typed, is.valid)

pub breaks_value : (place : Place) (before : List Property) (left : Left) (fault : PropFault) → AreBytes left.rest → BreaksValue place before left fault → property_on place before left ≡ Err fault
breaks_value place before left fault fits (inl bad) =
    property_begun place before left bad.line bad.following bad.begins
    ∙ ap (with_value place bad.line bad.following.at) (value_on_is bad.line.kind bad.following)
    ∙ ap (λ (r : Result (Value × ℕ) Reason). with_value place bad.line bad.following.at (placed bad.following r)) (misspelled_at bad.line.kind bad.following.rest bad.reason (bytes_begun place before left bad.line bad.following fits bad.begins) bad.misspelled)
    ∙ ap failed (sym bad.is)
breaks_value place before left fault fits (inr (inl bad)) =
    property_begun place before left bad.line bad.following bad.begins
    ∙ ap (with_value place bad.line bad.following.at) (valued_on bad.line.kind bad.following bad.value bad.valued)
    ∙ rw bad.out (ap failed (sym bad.is))
breaks_value place before left fault fits (inr (inr bad)) =
    property_begun place before left bad.line bad.following bad.begins
    ∙ ap (with_value place bad.line bad.following.at) (valued_on bad.line.kind bad.following bad.value bad.valued)
    ∙ rw (bad.ranged, bad.wild) (ap failed (sym bad.is))

pub breaks_property : (place : Place) (before : List Property) (left : Left) (fault : PropFault) → AreBytes left.rest → BreaksProperty place before left fault → property_on place before left ≡ Err fault
breaks_property place before left fault fits (inl bad) = breaks_identifier place before left fault fits bad
breaks_property place before left fault fits (inr bad) = breaks_value place before left fault fits bad

-- ---- what is refused has a bad field

bind_err : {A B : Type 0} (r : Result A PropFault) (f : A → Result B PropFault) (fault : PropFault) → (r >>= f) ≡ Err fault → (r ≡ Err fault) ⊎ ((x : A) × (r ≡ Ok x) × (f x ≡ Err fault))
bind_err (Ok x) f fault e = inr (x, refl, e)
bind_err {A} {B} (Err first) f fault e = inl (ap (λ (g : PropFault). failed {A = A} g) (failed_is {A = B} first fault e))

-- a field that was refused
wire_err : {X : Type 0} (left : Left) (r : Result (X × ℕ) Reason) (fault : PropFault) → from_wire (placed left r) ≡ Err fault → (reason : Reason) × (r ≡ Err reason) × (fault ≡ record { at = left.at; reason = Wire reason })
wire_err left (Ok x) fault e = absurd cc
wire_err {X} left (Err reason) fault e = (reason, refl, sym (failed_is {A = X × Left} (record { at = left.at; reason = Wire reason }) fault e))

-- an identifier that was read
pub named_from : (left : Left) (id : ℕ) (following : Left) → AreBytes left.rest → from_wire (placed left (varint_at left.rest)) ≡ Ok (id, following) → Numbered left id following × AreBytes following.rest
named_from left id following fits e =
    let found = placed_ok left (varint_at left.rest) id following (from_wire_ok (placed left (varint_at left.rest)) (id, following) e) in
    let stands : BeginsWith IsVarint varint_spelling left.rest id found.0 = varint_exact.only left.rest id found.0 fits found.1 in
    subst (λ (l : Left). Numbered left id l × AreBytes l.rest) (sym found.2)
    (record { is_number = stands.value; spelled = stands.spelled; place = ap (λ (n : ℕ). left.at + n) stands.taken }, AreBytes-drop found.0 left.rest fits)

-- an identifier's line names the property
named_by : (left : Left) (id : ℕ) (following : Left) (line : Line) → Numbered left id following → row_of id ≡ Some line → NamedBy left line following
named_by left id following line named known =
    let same = sym (line_known id line known) in
    record { named = subst (λ (i : ℕ). Numbered left i following) same named; known = subst (λ (i : ℕ). row_of i ≡ Some line) same known }

-- the line of an identifier is refused
line_breaks : (place : Place) (before : List Property) (left : Left) (id : ℕ) (following : Left) (fault : PropFault) (o : Option Line) → Numbered left id following → row_of id ≡ o → judged_at left.at (admitted place before o) ≡ Err fault → BreaksIdentifier place before left fault
line_breaks place before left id following fault None named known e = inr (inl (record { id = id; following = following; named = named; unknown = known; is = sym (failed_is {A = Line} (record { at = left.at; reason = Unknown }) fault e) }))
line_breaks place before left id following fault (Some line) named known e =
    let by_line = named_by left id following line named known in
    elim (cases_Bool (is_listed place line)) [
      | inl listed ↦
          elim (cases_Bool (is_repeated place before line.id)) [
            | inl again ↦ inr (inr (inr (record { line = line; following = following; named = by_line; listed = listed; again = again; is = sym (failed_is {A = Line} (record { at = left.at; reason = Repeated }) fault (rw (listed, again) at e)) })))
            | inr once ↦ absurd (let never = rw (listed, once) at e in cc)
          ]
      | inr unlisted ↦ inr (inr (inl (record { line = line; following = following; named = by_line; unlisted = unlisted; is = sym (failed_is {A = Line} (record { at = left.at; reason = NotAllowed }) fault (rw unlisted at e)) })))
    ]

mapped_err : {X Y : Type 0} (make : X → Y) (r : Result (X × ℕ) Reason) (reason : Reason) → mapped make r ≡ Err reason → r ≡ Err reason
mapped_err make (Ok x) reason e = absurd cc
mapped_err {X} {Y} make (Err first) reason e = ap (λ (other : Reason). refused_for {A = X × ℕ} other) (reason_is {A = Y × ℕ} first reason e)
  where
    reason_is : {A : Type 0} (a b : Reason) → refused_for {A = A} a ≡ refused_for b → a ≡ b
    reason_is a b same = cc

misspelled_from : (kind : ValueType) (bytes : List ℕ) (reason : Reason) → AreBytes bytes → value_at kind bytes ≡ Err reason → Misspelled (field_type kind) bytes reason
misspelled_from types.Byte bytes reason fits e = (byte_misspelled.exactly bytes reason fits).0 (mapped_err byte_value (byte_at bytes) reason e)
misspelled_from types.TwoBytes bytes reason fits e = (two_bytes_misspelled.exactly bytes reason fits).0 (mapped_err two_bytes_value (two_bytes_at bytes) reason e)
misspelled_from types.FourBytes bytes reason fits e = (four_bytes_misspelled.exactly bytes reason fits).0 (mapped_err four_bytes_value (four_bytes_at bytes) reason e)
misspelled_from types.Varint bytes reason fits e = (varint_misspelled.exactly bytes reason fits).0 (mapped_err varint_value (varint_at bytes) reason e)
misspelled_from types.Text bytes reason fits e = (text_misspelled.exactly bytes reason fits).0 (mapped_err text_value (text_at bytes) reason e)
misspelled_from types.Pair bytes reason fits e = (pair_misspelled.exactly bytes reason fits).0 (mapped_err pair_of (pair_at bytes) reason e)
misspelled_from types.Binary bytes reason fits e = (binary_misspelled.exactly bytes reason fits).0 (mapped_err binary_value (binary_at bytes) reason e)

-- a property, with what is left after it
abbrev with_rest : Left → Property → Result (Property × Left) PropFault
with_rest new property = Ok (property, new)

-- a value that was read is refused
judged_breaks : (place : Place) (before : List Property) (left : Left) (line : Line) (following : Left) (value : Value) (new : Left) (fault : PropFault) → Begins place before left line following → IsValued line.kind following value
    → (judged_at following.at (valued place line value) >>= with_rest new) ≡ Err fault → BreaksValue place before left fault
judged_breaks place before left line following value new fault begins is e =
    elim (cases_Bool (in_range line.range value)) [
      | inl ranged ↦
          elim (cases_Bool (is_wild place line.id value)) [
            | inl wild ↦ inr (inr (record { line = line; following = following; begins = begins; value = value; valued = is; ranged = ranged; wild = wild; is = sym (failed_is {A = Property × Left} (record { at = following.at; reason = Wildcard }) fault (rw (ranged, wild) at e)) }))
            | inr plain ↦ absurd (let never = rw (ranged, plain) at e in cc)
          ]
      | inr out ↦ inr (inl (record { line = line; following = following; begins = begins; value = value; valued = is; out = out; is = sym (failed_is {A = Property × Left} (record { at = following.at; reason = BadValue }) fault (rw out at e)) }))
    ]

-- the value of a property that may stand in the list is refused
value_breaks : (place : Place) (before : List Property) (left : Left) (line : Line) (following : Left) (fault : PropFault) → AreBytes following.rest → Begins place before left line following → with_value place line following.at (value_on line.kind following) ≡ Err fault → BreaksValue place before left fault
value_breaks place before left line following fault fits begins e =
    elim (bind_err (from_wire (value_on line.kind following)) (λ value. judged_at following.at (valued place line value.0) >>= λ property. Ok (property, value.1)) fault e) [
      | inl first ↦
          let x = wire_err following (value_at line.kind following.rest) fault (sym (ap from_wire (value_on_is line.kind following)) ∙ first) in
          inl (record { line = line; following = following; begins = begins; reason = x.0; misspelled = misspelled_from line.kind following.rest x.0 fits x.1; is = x.2 })
      | inr value ↦
          let found = placed_ok following (value_at line.kind following.rest) value.0.0 value.0.1 (sym (value_on_is line.kind following) ∙ from_wire_ok (value_on line.kind following) value.0 value.1) in
          let stands : BeginsWith (IsOf line.kind) value_spelling following.rest value.0.0 found.0 = (value_exact line.kind).only following.rest value.0.0 found.0 fits found.1 in
          let is : IsValued line.kind following value.0.0 = record { typed = stands.value.0; valid = stands.value.1; rest = drop found.0 following.rest; spelled = stands.spelled } in
          judged_breaks place before left line following value.0.0 value.0.1 fault begins is value.2
    ]

pub property_breaks : (place : Place) (before : List Property) (left : Left) (fault : PropFault) → AreBytes left.rest → property_on place before left ≡ Err fault → BreaksProperty place before left fault
unfolding property_on
property_breaks place before left fault fits e =
    elim (bind_err (from_wire (placed left (varint_at left.rest))) (λ id. with_line place id.1 (judged_at left.at (admitted place before (row_of id.0)))) fault e) [
      | inl first ↦ let x = wire_err left (varint_at left.rest) fault first in inl (inl (record { reason = x.0; misspelled = (varint_misspelled.exactly left.rest x.0 fits).0 x.1; is = x.2 }))
      | inr id ↦
          let named = named_from left id.0.0 id.0.1 fits id.1 in
          elim (bind_err (judged_at left.at (admitted place before (row_of id.0.0))) (λ line. with_value place line id.0.1.at (value_on line.kind id.0.1)) fault id.2) [
            | inl bad ↦ inl (line_breaks place before left id.0.0 id.0.1 fault (row_of id.0.0) named.0 refl bad)
            | inr line ↦
                let admits = admitted_ok place before (row_of id.0.0) line.0 (judged_ok left.at (admitted place before (row_of id.0.0)) line.0 line.1) in
                let begins : Begins place before left line.0 id.0.1 = record { named = named_by left id.0.0 id.0.1 line.0 named.0 admits.known; listed = admits.listed; once = admits.once } in
                inr (value_breaks place before left line.0 id.0.1 fault named.1 begins line.2)
          ]
    ]
