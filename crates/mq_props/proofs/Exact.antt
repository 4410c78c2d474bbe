-- The reading of a property, and of a list of them, is exact.
use Rattle.std.proofs.Common.{◌≡◌, ℕ, zero, suc, ◌+◌, ◌<◌, ◌≤◌, true, false, eqb, List, [], ◌∷◌, ◌++◌, length, drop, Option, Some, Result, Ok, refl, sym, ap, subst, ◌∙◌, append_assoc, inl, inr, length-append, arith}
use Rattle.std.specs.Option.{option_map_or}
use Rattle.std.proofs.lemmas.Bool.{ne_eqb, cases_Bool}
use Rattle.std.proofs.lemmas.List.Concat.{flat_map-cons}
use Rattle.std.proofs.lemmas.List.{drop_at, append-nil}
use Rattle.mq_wire.specs.declared.fault.WireFault.{WireFault}
use Rattle.mq_wire.specs.Left.{Left, placed}
use Rattle.mq_wire.specs.Fields.{varint_at, ◌>>=◌}
use Rattle.mq_wire.specs.Spellings.{AreBytes, IsVarint, varint_spelling, BeginsWith}
use Rattle.mq_wire.proofs.Exports.{AreBytes-drop, varint_exact}
use Rattle.mq_props.specs.declared.fault.PropFault.{PropFault}
use Rattle.mq_props.specs.declared.fault.PropReason.{PropReason}
use Rattle.mq_props.specs.declared.table.Place.{Place}
use Rattle.mq_props.specs.declared.table.ValueType.{ValueType}
use Rattle.mq_props.specs.Table.{Line, row_of}
use Rattle.mq_props.specs.Values.{Value, Property, value_spelling, property_spelling, body}
use Rattle.mq_props.specs.Allowed.{is_repeated, is_wild, IsAllowed, AllowedAfter, AreAllowed}
use Rattle.mq_props.specs.Reading.{from_wire, judged_at, value_on, admitted, valued, property_on, properties_within, properties_on, item_valued, item_known, item_named, item_on, items_within, items_on, items_of}
use Rattle.mq_props.specs.Listed.{IsList}
use Rattle.mq_props.proofs.Finding.{line_known, known_below}
use Rattle.mq_props.proofs.Fields.{value_on_is, varint_taken, IsOf, value_exact}
use Rattle.mq_props.proofs.Steps.{Found, property_on_ok, found_shorter, bind_ok, done_is}

-- ---- what is read is spelled so, and allowed

-- a property stands spelled at the front of what is left
pub record Spells (left : Left) (p : Property) (new : Left) : Type 0 where
  pub spelled : left.rest ≡ property_spelling p ++ new.rest
  pub fits : AreBytes new.rest
  pub following : new.at ≡ left.at + length (property_spelling p)

pub found_spells : (place : Place) (before : List Property) (left : Left) (p : Property) (new : Left) → AreBytes left.rest → Found place before left p new → Spells left p new × IsAllowed place before p
found_spells place before left p new fits found =
    let named : BeginsWith IsVarint varint_spelling left.rest p.id found.size = varint_exact.only left.rest p.id found.size fits found.named in
    let after_fits : AreBytes (drop found.size left.rest) = AreBytes-drop found.size left.rest fits in
    let value : BeginsWith (IsOf found.line.kind) value_spelling (drop found.size left.rest) p.value found.more = (value_exact found.line.kind).only (drop found.size left.rest) p.value found.more after_fits found.value in
    let rest_is : new.rest ≡ drop found.more (drop found.size left.rest) = ap (λ (l : Left). l.rest) found.following in
    let parts : left.rest ≡ property_spelling p ++ drop found.more (drop found.size left.rest) =
    named.spelled ∙ ap (λ (bytes : List ℕ). varint_spelling p.id ++ bytes) value.spelled ∙ sym (append_assoc (varint_spelling p.id) (value_spelling p.value) (drop found.more (drop found.size left.rest))) in (
      record {
        spelled = subst (λ (bytes : List ℕ). left.rest ≡ property_spelling p ++ bytes) (sym rest_is) parts;
        fits = subst (λ (bytes : List ℕ). AreBytes bytes) (sym rest_is) (AreBytes-drop found.more (drop found.size left.rest) after_fits);
        following = omega (arith, ap (λ (l : Left). l.at) found.following, named.taken, value.taken, length-append (varint_spelling p.id) (value_spelling p.value));
      },
      record {
        line = found.line;
        known = found.known;
        listed = found.listed;
        once = found.once;
        typed = value.value.0;
        valid = value.value.1;
        ranged = found.ranged;
        plain = found.plain;
      },
    )

-- properties that were read after others
record ReadAfter (place : Place) (before : List Property) (bytes : List ℕ) (all : List Property) : Type 0 where
  ps : List Property
  whole : all ≡ before ++ ps
  spelled : bytes ≡ body ps
  allowed : AllowedAfter place before ps

nil_from : (bytes : List ℕ) → eqb (length bytes) 0 ≡ true → bytes ≡ []
nil_from [] e = refl
nil_from (a ∷ bytes) e = absurd (let other = ne_eqb (length (a ∷ bytes)) 0 (λ f. omega (arith, f)) in cc)

nil_of : (bytes : List ℕ) → length bytes ≤ 0 → bytes ≡ []
nil_of [] le = refl
nil_of (a ∷ bytes) le = absurd (omega (arith, le))

read_after : (fuel : ℕ) (place : Place) (before : List Property) (left : Left) (all : List Property) → AreBytes left.rest → length left.rest ≤ fuel → properties_within fuel place before left ≡ Ok all → ReadAfter place before left.rest all
read_after zero place before left all fits enough e = record { ps = []; whole = sym (done_is before all e) ∙ sym (append-nil before); spelled = nil_of left.rest enough; allowed = tt }
read_after (suc fuel) place before left all fits enough e =
    elim (cases_Bool (eqb (length left.rest) 0)) [
      | inl none ↦
          let same : before ≡ all = done_is before all (rw none at e) in
          record { ps = []; whole = sym same ∙ sym (append-nil before); spelled = nil_from left.rest none; allowed = tt }
      | inr some ↦
          let x = bind_ok (property_on place before left) (λ x. properties_within fuel place (before ++ x.0 ∷ []) x.1) all (rw some at e) in
          let found = property_on_ok place before left x.0.0 x.0.1 x.1 in
          let here = found_spells place before left x.0.0 x.0.1 fits found in
          let more = read_after fuel place (before ++ x.0.0 ∷ []) x.0.1 all here.0.fits (omega (arith, found_shorter place before left x.0.0 x.0.1 found, enough)) x.2 in
          record {
            ps = x.0.0 ∷ more.ps;
            whole = more.whole ∙ append_assoc before (x.0.0 ∷ []) more.ps;
            spelled = here.0.spelled ∙ ap (λ (bytes : List ℕ). property_spelling x.0.0 ++ bytes) more.spelled ∙ sym (flat_map-cons property_spelling x.0.0 more.ps);
            allowed = (here.1, more.allowed);
          }
    ]

-- ---- what is spelled and allowed is read

abbrev pub left_at : ℕ → List ℕ → Left
left_at at rest = record { at = at; rest = rest }

abbrev done : {A : Type 0} → A → Result A PropFault
done x = Ok x

abbrev pub read : {A : Type 0} → A → Result A WireFault
read x = Ok x

pub named_read : (at id : ℕ) (rest : List ℕ) → IsVarint id → placed (left_at at (varint_spelling id ++ rest)) (varint_at (varint_spelling id ++ rest)) ≡ read (id, left_at (at + length (varint_spelling id)) rest)
named_read at id rest value =
    ap (placed (left_at at (varint_spelling id ++ rest))) (varint_exact.all id rest value)
    ∙ ap (λ (bytes : List ℕ). read (id, left_at (at + length (varint_spelling id)) bytes)) (drop_at (varint_spelling id) rest (length (varint_spelling id)) refl)

pub value_read : (at : ℕ) (kind : ValueType) (v : Value) (rest : List ℕ) → IsOf kind v → value_on kind (left_at at (value_spelling v ++ rest)) ≡ read (v, left_at (at + length (value_spelling v)) rest)
value_read at kind v rest is =
    value_on_is kind (left_at at (value_spelling v ++ rest))
    ∙ ap (placed (left_at at (value_spelling v ++ rest))) ((value_exact kind).all v rest is)
    ∙ ap (λ (bytes : List ℕ). read (v, left_at (at + length (value_spelling v)) bytes)) (drop_at (value_spelling v) rest (length (value_spelling v)) refl)

abbrev judged : {A : Type 0} → A → Result A PropReason
judged x = Ok x

admits : (place : Place) (before : List Property) (p : Property) (is : IsAllowed place before p) → admitted place before (row_of p.id) ≡ judged is.line
admits place before p is =
    let once : is_repeated place before is.line.id ≡ false = subst (λ (id : ℕ). is_repeated place before id ≡ false) (sym (line_known p.id is.line is.known)) is.once in
    ap (admitted place before) is.known ∙ rw (is.listed, once) refl

values : (place : Place) (before : List Property) (p : Property) (is : IsAllowed place before p) → valued place is.line p.value ≡ judged p
values place before p is =
    let same = line_known p.id is.line is.known in
    let plain : is_wild place is.line.id p.value ≡ false = subst (λ (id : ℕ). is_wild place id p.value ≡ false) (sym same) is.plain in
    let made : valued place is.line p.value ≡ judged (record { id = is.line.id; value = p.value }) = rw (is.ranged, plain) refl in
    made ∙ ap (λ (id : ℕ). judged (record { id = id; value = p.value })) same

id_fits : (place : Place) (before : List Property) (p : Property) → IsAllowed place before p → IsVarint p.id
id_fits place before p is = omega (arith, known_below p.id is.line is.known, line_known p.id is.line is.known)

-- what follows a property at a place
abbrev pub after : ℕ → Property → List ℕ → Left
after at p rest = left_at (at + length (varint_spelling p.id) + length (value_spelling p.value)) rest

parts : (p : Property) (rest : List ℕ) → property_spelling p ++ rest ≡ varint_spelling p.id ++ (value_spelling p.value ++ rest)
parts p rest = append_assoc (varint_spelling p.id) (value_spelling p.value) rest

pub property_read : (place : Place) (before : List Property) (p : Property) (at : ℕ) (rest : List ℕ) → IsAllowed place before p → property_on place before (left_at at (property_spelling p ++ rest)) ≡ done (p, after at p rest)
unfolding property_on
property_read place before p at rest is =
    let inside : List ℕ = value_spelling p.value ++ rest in
    let start : Left = left_at at (varint_spelling p.id ++ inside) in
    let following : Left = left_at (at + length (varint_spelling p.id)) inside in
    let with_value : Line → Value × Left → Result (Property × Left) PropFault = λ line value. judged_at following.at (valued place line value.0) >>= λ property. Ok (property, value.1) in
    ap (λ (bytes : List ℕ). property_on place before (left_at at bytes)) (parts p rest)
    ∙ ap (λ (r : Result (ℕ × Left) WireFault). from_wire r >>= λ id. judged_at start.at (admitted place before (row_of id.0)) >>= λ line. from_wire (value_on line.kind id.1) >>= λ value. judged_at id.1.at (valued place line value.0) >>= λ property. Ok (property, value.1)) (named_read at p.id inside (id_fits place before p is))
    ∙ ap (λ (r : Result Line PropReason). judged_at start.at r >>= λ line. from_wire (value_on line.kind following) >>= with_value line) (admits place before p is)
    ∙ ap (λ (r : Result (Value × Left) WireFault). from_wire r >>= with_value is.line) (value_read (at + length (varint_spelling p.id)) is.line.kind p.value rest (is.typed, is.valid))
    ∙ ap (λ (r : Result Property PropReason). judged_at following.at r >>= λ property. done (property, after at p rest)) (values place before p is)

abbrev some_item : Property × Left → Option (Property × Left)
some_item x = Some x

item_read : (place : Place) (before : List Property) (p : Property) (at : ℕ) (rest : List ℕ) → IsAllowed place before p → item_on (left_at at (property_spelling p ++ rest)) ≡ some_item (p, after at p rest)
unfolding item_on
item_read place before p at rest is =
    let inside : List ℕ = value_spelling p.value ++ rest in
    let following : Left = left_at (at + length (varint_spelling p.id)) inside in
    ap (λ (bytes : List ℕ). item_on (left_at at bytes)) (parts p rest)
    ∙ ap item_named (named_read at p.id inside (id_fits place before p is))
    ∙ ap (λ (line : Option Line). item_known line following) is.known
    ∙ ap (item_valued is.line) (value_read (at + length (varint_spelling p.id)) is.line.kind p.value rest (is.typed, is.valid))
    ∙ ap (λ (id : ℕ). some_item (record { id = id; value = p.value }, after at p rest)) (line_known p.id is.line is.known)

-- a property takes some bytes
pub spelling_some : (place : Place) (before : List Property) (p : Property) → IsAllowed place before p → 0 < length (property_spelling p)
spelling_some place before p is =
    let taken = varint_taken (varint_spelling p.id ++ []) (p.id, length (varint_spelling p.id)) (varint_exact.all p.id [] (id_fits place before p is)) in
    omega (arith, taken.0, length-append (varint_spelling p.id) (value_spelling p.value))

fuel_left : (place : Place) (before : List Property) (p : Property) (ps : List Property) (fuel : ℕ) → IsAllowed place before p → length (body (p ∷ ps)) ≤ fuel → (less : ℕ) × (fuel ≡ suc less) × (length (body ps) ≤ less)
fuel_left place before p ps zero is enough = absurd (omega (arith, enough, spelling_some place before p is, ap length (flat_map-cons property_spelling p ps), length-append (property_spelling p) (body ps)))
fuel_left place before p ps (suc less) is enough = (less, refl, omega (arith, enough, spelling_some place before p is, ap length (flat_map-cons property_spelling p ps), length-append (property_spelling p) (body ps)))

pub some_bytes : (bytes : List ℕ) → 0 < length bytes → eqb (length bytes) 0 ≡ false
some_bytes bytes lt = ne_eqb (length bytes) 0 (λ e. omega (arith, e, lt))

properties_read : (fuel : ℕ) (place : Place) (before ps : List Property) (at : ℕ) → length (body ps) ≤ fuel → AllowedAfter place before ps → properties_within fuel place before (left_at at (body ps)) ≡ done (before ++ ps)
properties_read zero place before [] at enough allowed = ap done (sym (append-nil before))
properties_read (suc fuel) place before [] at enough allowed = ap done (sym (append-nil before))
properties_read zero place before (p ∷ ps) at enough allowed = absurd (omega (arith, (fuel_left place before p ps zero allowed.0 enough).1))
properties_read (suc fuel) place before (p ∷ ps) at enough allowed =
    let fuel_is = fuel_left place before p ps (suc fuel) allowed.0 enough in
    let whole = flat_map-cons property_spelling p ps in
    let some : eqb (length (body (p ∷ ps))) 0 ≡ false = some_bytes (body (p ∷ ps)) (omega (arith, spelling_some place before p allowed.0, ap length whole, length-append (property_spelling p) (body ps))) in
    let first : property_on place before (left_at at (body (p ∷ ps))) ≡ done (p, after at p (body ps)) = ap (λ (bytes : List ℕ). property_on place before (left_at at bytes)) whole ∙ property_read place before p at (body ps) allowed.0 in
    let rest = properties_read fuel place (before ++ p ∷ []) ps (at + length (varint_spelling p.id) + length (value_spelling p.value)) (omega (arith, fuel_is.1, fuel_is.2)) allowed.1 in
    rw some (ap (λ (r : Result (Property × Left) PropFault). r >>= λ x. properties_within fuel place (before ++ x.0 ∷ []) x.1) first ∙ rest ∙ ap done (append_assoc before (p ∷ []) ps))

items_read : (fuel : ℕ) (place : Place) (before ps : List Property) (at : ℕ) → length (body ps) ≤ fuel → AllowedAfter place before ps → items_within fuel (left_at at (body ps)) ≡ ps
unfolding item_on varint_at
items_read zero place before [] at enough allowed = refl
items_read (suc fuel) place before [] at enough allowed = refl
items_read zero place before (p ∷ ps) at enough allowed = absurd (omega (arith, (fuel_left place before p ps zero allowed.0 enough).1))
items_read (suc fuel) place before (p ∷ ps) at enough allowed =
    let fuel_is = fuel_left place before p ps (suc fuel) allowed.0 enough in
    let first : item_on (left_at at (body (p ∷ ps))) ≡ some_item (p, after at p (body ps)) = ap (λ (bytes : List ℕ). item_on (left_at at bytes)) (flat_map-cons property_spelling p ps) ∙ item_read place before p at (body ps) allowed.0 in
    let rest = items_read fuel place (before ++ p ∷ []) ps (at + length (varint_spelling p.id) + length (value_spelling p.value)) (omega (arith, fuel_is.1, fuel_is.2)) allowed.1 in
    ap (λ (o : Option (Property × Left)). option_map_or (λ x. x.0 ∷ items_within fuel x.1) o []) first ∙ ap (λ (qs : List Property). p ∷ qs) rest

-- ---- lists

-- what properties spell, they are read from
pub items_of-body : (place : Place) (ps : List Property) → AreAllowed place ps → items_of (body ps) ≡ ps
unfolding items_of items_on
items_of-body place ps allowed = items_read (length (body ps)) place [] ps 0 (omega arith) allowed

-- what is read is spelled by the bytes, and allowed
pub properties_only : (place : Place) (at : ℕ) (bytes : List ℕ) (ps : List Property) → AreBytes bytes → properties_on place [] (left_at at bytes) ≡ Ok ps → (bytes ≡ body ps) × AreAllowed place ps
unfolding properties_on
properties_only place at bytes ps fits e =
    let found = read_after (length bytes) place [] (left_at at bytes) ps fits (omega arith) e in
    let same : found.ps ≡ ps = sym found.whole in
    subst (λ (qs : List Property). (bytes ≡ body qs) × AreAllowed place qs) same (found.spelled, found.allowed)

-- what is spelled and allowed is read
pub properties_all : (place : Place) (at : ℕ) (ps : List Property) → AreAllowed place ps → properties_on place [] (left_at at (body ps)) ≡ Ok ps
unfolding properties_on
properties_all place at ps allowed = properties_read (length (body ps)) place [] ps at (omega arith) allowed

-- the bytes that properties are read from are a list of the place
pub list_read : (place : Place) (at : ℕ) (bytes : List ℕ) (ps : List Property) → AreBytes bytes → length bytes ≤ 268435455 → properties_on place [] (left_at at bytes) ≡ Ok ps → (items_of bytes ≡ ps) × IsList place bytes
list_read place at bytes ps fits bound e =
    let only = properties_only place at bytes ps fits e in
    (ap items_of only.0 ∙ items_of-body place ps only.1, record { properties = ps; allowed = only.1; spelled = only.0; bound = bound })

-- a list's properties are those that are read from its bytes
pub list_items : (place : Place) (bytes : List ℕ) (is : IsList place bytes) → items_of bytes ≡ is.properties
list_items place bytes is = ap items_of is.spelled ∙ items_of-body place is.properties is.allowed

-- so the bytes spell what is read from them
pub list_spelled : (place : Place) (bytes : List ℕ) → IsList place bytes → bytes ≡ body (items_of bytes)
list_spelled place bytes is = is.spelled ∙ ap body (sym (list_items place bytes is))

-- and it may make a list in the place
pub list_allowed : (place : Place) (bytes : List ℕ) → IsList place bytes → AreAllowed place (items_of bytes)
list_allowed place bytes is = subst (λ (ps : List Property). AreAllowed place ps) (sym (list_items place bytes is)) is.allowed
