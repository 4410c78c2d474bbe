-- The properties that stand one after another.
use Rattle.std.proofs.Common.{◌≡◌, ℕ, zero, suc, ◌<◌, ◌≤◌, Bool, true, false, ◌&&◌, ◌||◌, cond, eqb, List, [], ◌∷◌, length, Option, None, Some, Result, Ok, Err, refl, sym, ap, subst, ◌∙◌, length-drop, arith}
use Rattle.std.specs.Option.{option_map_or}
use Rattle.std.specs.List.{find, list_any}
use Rattle.std.proofs.lemmas.Bool.{eq-eqb, ne_eqb}
use Rattle.mq_wire.specs.declared.fault.WireFault.{WireFault}
use Rattle.mq_wire.specs.Left.{Left, placed}
use Rattle.mq_wire.specs.Fields.{varint_at, byte_at, two_bytes_at, four_bytes_at, text_at, pair_at, binary_at}
use Rattle.mq_wire.proofs.Exports.{placed_ok}
use Rattle.mq_props.specs.declared.table.ValueType.{ValueType}
use Rattle.mq_props.specs.declared.table.ValueType.TheVariants as types
use Rattle.mq_props.specs.Table.{Line, rows, row_of, kind_number, has_kind}
use Rattle.mq_props.specs.Values.{Value, byte_value, two_bytes_value, four_bytes_value, varint_value, text_value, binary_value, Property, value_type}
use Rattle.mq_props.specs.Reading.{value_on, item_valued, item_known, item_named, item_on, items_within, items_on}
use Rattle.mq_props.specs.Allowed.{first_of}
use Rattle.mq_props.proofs.Finding.{line_known}
use Rattle.mq_props.proofs.Fields.{value_at, value_on_is, mapped_ok, pair_of, varint_taken}

-- ---- one property

typed_at : (kind : ValueType) (bytes : List ℕ) (v : Value) (n : ℕ) → value_at kind bytes ≡ Ok (v, n) → value_type v ≡ kind
typed_at types.Byte bytes v n e = let x = mapped_ok byte_value (byte_at bytes) v n e in sym (ap value_type x.2)
typed_at types.TwoBytes bytes v n e = let x = mapped_ok two_bytes_value (two_bytes_at bytes) v n e in sym (ap value_type x.2)
typed_at types.FourBytes bytes v n e = let x = mapped_ok four_bytes_value (four_bytes_at bytes) v n e in sym (ap value_type x.2)
typed_at types.Varint bytes v n e = let x = mapped_ok varint_value (varint_at bytes) v n e in sym (ap value_type x.2)
typed_at types.Text bytes v n e = let x = mapped_ok text_value (text_at bytes) v n e in sym (ap value_type x.2)
typed_at types.Pair bytes v n e = let x = mapped_ok pair_of (pair_at bytes) v n e in sym (ap value_type x.2)
typed_at types.Binary bytes v n e = let x = mapped_ok binary_value (binary_at bytes) v n e in sym (ap value_type x.2)

record ReadsValue (kind : ValueType) (left : Left) (v : Value) (new : Left) : Type 0 where
  typed : value_type v ≡ kind
  within : length new.rest ≤ length left.rest

value_reads : (kind : ValueType) (left : Left) (v : Value) (new : Left) → value_on kind left ≡ Ok (v, new) → ReadsValue kind left v new
value_reads kind left v new e =
    let read = placed_ok left (value_at kind left.rest) v new (sym (value_on_is kind left) ∙ e) in
    record { typed = typed_at kind left.rest v read.0 read.1; within = omega (arith, ap (λ (l : Left). length l.rest) read.2, length-drop read.0 left.rest) }

any_at : {X : Type 0} (b c : Bool) (y x : X) (rest : Option X) (others : Bool) (q : X → Bool) → q y ≡ c → q x ≡ true → (rest ≡ Some x → others ≡ true) → cond b (Some y) rest ≡ Some x → (c || others) ≡ true
any_at b true y x rest others q is passes later e = refl
any_at false false y x rest others q is passes later e = later e
any_at true false y x rest others q is passes later e = let same : y ≡ x = cc in absurd (let no : q x ≡ false = rw (← same) is in cc)

found-any : {X : Type 0} (p q : X → Bool) (xs : List X) (x : X) → q x ≡ true → find p xs ≡ Some x → list_any q xs ≡ true
found-any p q [] x passes e = absurd cc
found-any p q (y ∷ ys) x passes e = any_at (p y) (q y) y x (find p ys) (list_any q ys) q refl passes (λ f. found-any p q ys x passes f) e

kind_same : (kind : ValueType) (n id : ℕ) → n ≡ id → (eqb (kind_number kind) (kind_number kind) && eqb n id) ≡ true
kind_same kind n id same = rw (eq-eqb (kind_number kind) (kind_number kind) refl, eq-eqb n id same) refl

line_kind : (id : ℕ) (line : Line) → row_of id ≡ Some line → has_kind line.kind id ≡ true
unfolding row_of has_kind
line_kind id line known = found-any (λ (row : Line). eqb row.id id) (λ (row : Line). eqb (kind_number row.kind) (kind_number line.kind) && eqb row.id id) rows line (kind_same line.kind line.id id (line_known id line known)) known

-- a property that stands at the front of what is left
pub record ComesFirst (left : Left) (x : Property × Left) : Type 0 where
  pub typed : has_kind (value_type x.0.value) x.0.id ≡ true
  pub shorter : length x.1.rest < length left.rest

abbrev some : {A : Type 0} → A → Option A
some x = Some x

some_is : {A : Type 0} (x y : A) → some x ≡ some y → x ≡ y
some_is x y e = cc

valued_first : (left following : Left) (line : Line) (r : Result (Value × Left) WireFault) (x : Property × Left) → length following.rest < length left.rest → has_kind line.kind line.id ≡ true → value_on line.kind following ≡ r → item_valued line r ≡ Some x → ComesFirst left x
valued_first left following line (Err fault) x less kind is e = absurd cc
valued_first left following line (Ok value) x less kind is e =
    let reads = value_reads line.kind following value.0 value.1 is in
    let made : Property × Left = (record { id = line.id; value = value.0 }, value.1) in
    subst (λ (y : Property × Left). ComesFirst left y) (some_is made x e)
    (record { typed = rw reads.typed kind; shorter = omega (arith, less, reads.within) })

known_first : (left following : Left) (id : ℕ) (o : Option Line) (x : Property × Left) → length following.rest < length left.rest → row_of id ≡ o → item_known o following ≡ Some x → ComesFirst left x
known_first left following id None x less is e = absurd cc
known_first left following id (Some line) x less is e =
    let kind : has_kind line.kind line.id ≡ true = rw (line_known id line is) (line_kind id line is) in
    valued_first left following line (value_on line.kind following) x less kind refl e

named_first : (left : Left) (r : Result (ℕ × Left) WireFault) (x : Property × Left) → placed left (varint_at left.rest) ≡ r → item_named r ≡ Some x → ComesFirst left x
named_first left (Err fault) x is e = absurd cc
named_first left (Ok id) x is e =
    let read = placed_ok left (varint_at left.rest) id.0 id.1 is in
    let taken = varint_taken left.rest (id.0, read.0) read.1 in
    known_first left id.1 id.0 (row_of id.0) x (omega (arith, taken.0, taken.1, ap (λ (l : Left). length l.rest) read.2, length-drop read.0 left.rest)) refl e

pub item_first : (left : Left) (x : Property × Left) → item_on left ≡ Some x → ComesFirst left x
unfolding item_on
item_first left x e = named_first left (placed left (varint_at left.rest)) x refl e

-- ---- all of them

item_nil : (left : Left) → length left.rest ≤ 0 → item_on left ≡ None
item_nil left le = by_cases (item_on left) refl
  where
    by_cases : (o : Option (Property × Left)) → item_on left ≡ o → item_on left ≡ None
    by_cases None e = e
    by_cases (Some x) e = absurd (omega (arith, le, (item_first left x e).shorter))

abbrev first_and : (Left → List Property) → Option (Property × Left) → List Property
first_and rest o = option_map_or (λ x. x.0 ∷ rest x.1) o []

same_rest : (left : Left) (n m : ℕ) (o : Option (Property × Left)) → item_on left ≡ o → ((new : Left) → length new.rest < length left.rest → items_within n new ≡ items_within m new) → first_and (items_within n) o ≡ first_and (items_within m) o
same_rest left n m None e more = refl
same_rest left n m (Some x) e more = ap (λ (ps : List Property). x.0 ∷ ps) (more x.1 (item_first left x e).shorter)

enough : (n m : ℕ) (left : Left) → length left.rest ≤ n → length left.rest ≤ m → items_within n left ≡ items_within m left
enough zero zero left le le' = refl
enough zero (suc m) left le le' = sym (ap (first_and (items_within m)) (item_nil left le))
enough (suc n) zero left le le' = ap (first_and (items_within n)) (item_nil left le')
enough (suc n) (suc m) left le le' = same_rest left n m (item_on left) refl (λ new less. enough n m new (omega (arith, less, le)) (omega (arith, less, le')))

within_step : (n : ℕ) (left : Left) → length left.rest ≤ n → items_within n left ≡ first_and (items_within n) (item_on left)
within_step zero left le = sym (ap (first_and (items_within zero)) (item_nil left le))
within_step (suc n) left le = same_rest left n (suc n) (item_on left) refl (λ new less. enough n (suc n) new (omega (arith, less, le)) (omega (arith, less, le)))

-- no property stands there
pub items_on-none : (left : Left) → item_on left ≡ None → items_on left ≡ []
unfolding items_on
items_on-none left e = within_step (length left.rest) left (omega arith) ∙ ap (first_and (items_within (length left.rest))) e

-- one stands there, and others after it
pub items_on-some : (left : Left) (p : Property) (new : Left) → item_on left ≡ Some (p, new) → items_on left ≡ p ∷ items_on new
unfolding items_on
items_on-some left p new e =
    let less = (item_first left (p, new) e).shorter in
    within_step (length left.rest) left (omega arith)
    ∙ ap (first_and (items_within (length left.rest))) e
    ∙ ap (λ (ps : List Property). p ∷ ps) (enough (length left.rest) (length new.rest) new (omega (arith, less)) (omega arith))

-- ---- the first of an identifier

-- a property of another identifier is passed over
pub first_of-other : (id : ℕ) (p : Property) (ps : List Property) → (p.id ≡ id → ⊥) → first_of id (p ∷ ps) ≡ first_of id ps
first_of-other id p ps ne = rw (ne_eqb p.id id ne) refl

pub first_of-same : (id : ℕ) (p : Property) (ps : List Property) → p.id ≡ id → first_of id (p ∷ ps) ≡ Some p.value
first_of-same id p ps same = rw (eq-eqb p.id id same) refl

-- ---- as loops go over them

-- the first property has another identifier
pub first_passes : (id : ℕ) (left : Left) (p : Property) (new : Left) (whole : Option Value) → item_on left ≡ Some (p, new) → (p.id ≡ id → ⊥) → first_of id (items_on left) ≡ whole → first_of id (items_on new) ≡ whole
first_passes id left p new whole e other so_far = sym (first_of-other id p (items_on new) other) ∙ sym (ap (first_of id) (items_on-some left p new e)) ∙ so_far

-- the first property has this one
pub first_found : (id : ℕ) (left : Left) (p : Property) (new : Left) (whole : Option Value) → item_on left ≡ Some (p, new) → p.id ≡ id → first_of id (items_on left) ≡ whole → Some p.value ≡ whole
first_found id left p new whole e same so_far = sym (first_of-same id p (items_on new) same) ∙ sym (ap (first_of id) (items_on-some left p new e)) ∙ so_far

-- there is no property any more
pub first_none : (id : ℕ) (left : Left) (whole : Option Value) → item_on left ≡ None → first_of id (items_on left) ≡ whole → None ≡ whole
first_none id left whole e so_far = sym (ap (first_of id) (items_on-none left e)) ∙ so_far

pub item_shorter : (left : Left) (p : Property) (new : Left) → item_on left ≡ Some (p, new) → length new.rest < length left.rest
item_shorter left p new e = (item_first left (p, new) e).shorter

pub item_typed : (left : Left) (p : Property) (new : Left) → item_on left ≡ Some (p, new) → has_kind (value_type p.value) p.id ≡ true
item_typed left p new e = (item_first left (p, new) e).typed

-- nothing is left of no bytes
pub items_on-nil : (at : ℕ) → items_on (record { at = at; rest = [] }) ≡ []
unfolding items_on
items_on-nil at = refl
