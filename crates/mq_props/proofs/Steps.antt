-- What it says that a property was read.
use Rattle.std.proofs.Common.{◌≡◌, ℕ, ◌<◌, Bool, true, false, cond, List, length, drop, Option, None, Some, Result, Ok, Err, refl, sym, ap, subst, ◌∙◌, length-drop, arith}
use Rattle.mq_wire.specs.declared.fault.WireFault.{WireFault}
use Rattle.mq_wire.specs.Left.{Left, past, placed}
use Rattle.mq_wire.specs.Fields.{varint_at, ◌>>=◌}
use Rattle.mq_wire.proofs.Exports.{placed_ok}
use Rattle.mq_props.specs.declared.fault.PropFault.{PropFault}
use Rattle.mq_props.specs.declared.fault.PropReason.{PropReason}
use Rattle.mq_props.specs.declared.fault.PropReason.TheVariants.{NotAllowed, Repeated, Value as BadValue, Wildcard}
use Rattle.mq_props.specs.declared.table.Place.{Place}
use Rattle.mq_props.specs.Table.{Line, row_of, is_listed}
use Rattle.mq_props.specs.Values.{Value, Property}
use Rattle.mq_props.specs.Allowed.{is_repeated, in_range, is_wild}
use Rattle.mq_props.specs.Reading.{from_wire, judged_at, value_on, admitted, valued, property_on}
use Rattle.mq_props.proofs.Finding.{line_known, known_below}
use Rattle.mq_props.proofs.Fields.{value_at, value_on_is, varint_taken}

-- the value of a step that succeeded
pub bind_ok : {A B : Type 0} (r : Result A PropFault) (f : A → Result B PropFault) (y : B) → (r >>= f) ≡ Ok y → (x : A) × (r ≡ Ok x) × (f x ≡ Ok y)
bind_ok (Ok x) f y e = (x, refl, e)
bind_ok (Err fault) f y e = absurd cc

abbrev done : {A : Type 0} → A → Result A PropFault
done x = Ok x

pub done_is : {A : Type 0} (x y : A) → done x ≡ done y → x ≡ y
done_is x y e = cc

pub from_wire_ok : {A : Type 0} (r : Result A WireFault) (x : A) → from_wire r ≡ Ok x → r ≡ Ok x
from_wire_ok (Ok y) x e = let same = done_is y x e in ap (λ z. Ok z) same
from_wire_ok (Err fault) x e = absurd cc

pub judged_ok : {A : Type 0} (at : ℕ) (r : Result A PropReason) (x : A) → judged_at at r ≡ Ok x → r ≡ Ok x
judged_ok at (Ok y) x e = let same = done_is y x e in ap (λ z. Ok z) same
judged_ok at (Err reason) x e = absurd cc

-- a line that was admitted
pub record Admits (place : Place) (before : List Property) (o : Option Line) (line : Line) : Type 0 where
  pub known : o ≡ Some line
  pub listed : is_listed place line ≡ true
  pub once : is_repeated place before line.id ≡ false

abbrev judged : {A : Type 0} → Result A PropReason → Result A PropReason
judged r = r

judged_is : {A : Type 0} (x y : A) → judged (Ok x) ≡ judged (Ok y) → x ≡ y
judged_is x y e = cc

choose_ok : {A : Type 0} (b c : Bool) (x y : A) (low high : PropReason) → cond b (cond c (Err low) (Ok x)) (Err high) ≡ judged (Ok y) → (b ≡ true) × (c ≡ false) × (x ≡ y)
choose_ok true true x y low high e = absurd cc
choose_ok true false x y low high e = (refl, refl, judged_is x y e)
choose_ok false c x y low high e = absurd cc

pub admitted_ok : (place : Place) (before : List Property) (o : Option Line) (line : Line) → admitted place before o ≡ Ok line → Admits place before o line
admitted_ok place before None line e = absurd cc
admitted_ok place before (Some found) line e =
    let is = choose_ok (is_listed place found) (is_repeated place before found.id) found line Repeated NotAllowed e in
    subst (λ (l : Line). Admits place before (Some found) l) is.2 (record { known = refl; listed = is.0; once = is.1 })

-- a property that was read: its identifier takes some bytes, and its value those after it
pub record Found (place : Place) (before : List Property) (left : Left) (p : Property) (new : Left) : Type 0 where
  pub size : ℕ
  pub line : Line
  pub named : varint_at left.rest ≡ Ok (p.id, size)
  pub same : line.id ≡ p.id
  pub known : row_of p.id ≡ Some line
  pub listed : is_listed place line ≡ true
  pub once : is_repeated place before p.id ≡ false
  pub more : ℕ
  pub value : value_at line.kind (drop size left.rest) ≡ Ok (p.value, more)
  pub following : new ≡ past (past left size) more
  pub ranged : in_range line.range p.value ≡ true
  pub plain : is_wild place p.id p.value ≡ false

-- the parts of a property that was read, before they are put together
found_from : (place : Place) (before : List Property) (left : Left) (id size more : ℕ) (line : Line) (v : Value) (new : Left) → varint_at left.rest ≡ Ok (id, size) → Admits place before (row_of id) line
    → value_at line.kind (drop size left.rest) ≡ Ok (v, more) → new ≡ past (past left size) more → in_range line.range v ≡ true → is_wild place line.id v ≡ false
    → Found place before left (record { id = line.id; value = v }) new
found_from place before left id size more line v new named admits value following ranged plain =
    let same : line.id ≡ id = line_known id line admits.known in
    record {
      size = size;
      line = line;
      named = subst (λ (i : ℕ). varint_at left.rest ≡ Ok (i, size)) (sym same) named;
      same = refl;
      known = subst (λ (i : ℕ). row_of i ≡ Some line) (sym same) admits.known;
      listed = admits.listed;
      once = admits.once;
      more = more;
      value = value;
      following = following;
      ranged = ranged;
      plain = plain;
    }

pub property_on_ok : (place : Place) (before : List Property) (left : Left) (p : Property) (new : Left) → property_on place before left ≡ Ok (p, new) → Found place before left p new
unfolding property_on
property_on_ok place before left p new e =
    let id = bind_ok (from_wire (placed left (varint_at left.rest))) (λ id. judged_at left.at (admitted place before (row_of id.0)) >>= λ line. from_wire (value_on line.kind id.1) >>= λ value. judged_at id.1.at (valued place line value.0) >>= λ property. Ok (property, value.1)) (p, new) e in
    let line = bind_ok (judged_at left.at (admitted place before (row_of id.0.0))) (λ line. from_wire (value_on line.kind id.0.1) >>= λ value. judged_at id.0.1.at (valued place line value.0) >>= λ property. Ok (property, value.1)) (p, new) id.2 in
    let value = bind_ok (from_wire (value_on line.0.kind id.0.1)) (λ value. judged_at id.0.1.at (valued place line.0 value.0) >>= λ property. Ok (property, value.1)) (p, new) line.2 in
    let property = bind_ok (judged_at id.0.1.at (valued place line.0 value.0.0)) (λ property. Ok (property, value.0.1)) (p, new) value.2 in
    let named = placed_ok left (varint_at left.rest) id.0.0 id.0.1 (from_wire_ok (placed left (varint_at left.rest)) id.0 id.1) in
    let admits = admitted_ok place before (row_of id.0.0) line.0 (judged_ok left.at (admitted place before (row_of id.0.0)) line.0 line.1) in
    let read = placed_ok id.0.1 (value_at line.0.kind id.0.1.rest) value.0.0 value.0.1 (sym (value_on_is line.0.kind id.0.1) ∙ from_wire_ok (value_on line.0.kind id.0.1) value.0 value.1) in
    let made : Property = record { id = line.0.id; value = value.0.0 } in
    let is = choose_ok (in_range line.0.range value.0.0) (is_wild place line.0.id value.0.0) made property.0 Wildcard BadValue (judged_ok id.0.1.at (valued place line.0 value.0.0) property.0 property.1) in
    let rest_is : id.0.1.rest ≡ drop named.0 left.rest = ap (λ (l : Left). l.rest) named.2 in
    let value_read : value_at line.0.kind (drop named.0 left.rest) ≡ Ok (value.0.0, read.0) = subst (λ (bytes : List ℕ). value_at line.0.kind bytes ≡ Ok (value.0.0, read.0)) rest_is read.1 in
    let following : value.0.1 ≡ past (past left named.0) read.0 = read.2 ∙ ap (λ (l : Left). past l read.0) named.2 in
    let here = found_from place before left id.0.0 named.0 read.0 line.0 value.0.0 value.0.1 named.1 admits value_read following is.0 is.1 in
    let whole : Property × Left = (property.0, value.0.1) in
    subst (λ (x : Property × Left). Found place before left x.0 x.1) (done_is whole (p, new) property.2)
    (subst (λ (q : Property). Found place before left q value.0.1) is.2 here)

-- it takes some bytes
pub found_shorter : (place : Place) (before : List Property) (left : Left) (p : Property) (new : Left) → Found place before left p new → length new.rest < length left.rest
found_shorter place before left p new found =
    let some = varint_taken left.rest (p.id, found.size) found.named in
    rw found.following (omega (arith, some.0, some.1, length-drop found.more (drop found.size left.rest), length-drop found.size left.rest))

-- its identifier is below 43
pub found_below : (place : Place) (before : List Property) (left : Left) (p : Property) (new : Left) → Found place before left p new → p.id < 43
found_below place before left p new found = subst (λ (id : ℕ). id < 43) found.same (known_below p.id found.line found.known)
