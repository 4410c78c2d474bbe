-- A list that takes a property is a list of its place.
use Rattle.std.proofs.Common.{◌≡◌, ℕ, ◌+◌, ◌<◌, ◌≤◌, Bool, true, false, not, ◌||◌, cond, ltb, List, [], ◌∷◌, ◌++◌, length, Option, None, Some, refl, sym, ap, subst, ◌∙◌, append_assoc, length-append, arith}
use Rattle.std.specs.Prelude.{Result, Ok, Err, OnErr}
use Rattle.std.proofs.lemmas.Bool.{ltb-false, lt-ltb}
use Rattle.std.proofs.lemmas.List.{append-nil}
use Rattle.std.proofs.lemmas.List.Concat.{flat_map-append, flat_map-cons}
use Rattle.mq_wire.specs.Spellings.{varint_spelling}
use Rattle.mq_props.specs.declared.fault.PushFault.{PushFault}
use Rattle.mq_props.specs.declared.fault.PushFault.TheVariants.{NotAllowed, Repeated, Value as BadValue, TooLong, Memory}
use Rattle.mq_props.specs.declared.table.Place.{Place}
use Rattle.mq_props.specs.declared.prop.Prop.{Prop}
use Rattle.mq_props.specs.Props.{prop_view}
use Rattle.mq_props.specs.Table.{Line, row_of, is_listed}
use Rattle.mq_props.specs.Values.{Value, Property, IsValue, value_type, value_spelling, property_spelling, body}
use Rattle.mq_props.specs.Allowed.{is_repeated, in_range, is_wild, IsAllowed, AllowedAfter, AreAllowed}
use Rattle.mq_props.specs.Reading.{items_of, items_on}
use Rattle.mq_props.specs.declared.facts.Facts.{Facts}
use Rattle.mq_props.specs.Views.{Knows}
use Rattle.mq_props.specs.Listed.{Listed, IsList}
use Rattle.mq_props.specs.Making.{HoldsList}
use Rattle.mq_props.specs.Pushing.{nul_in, is_long, is_large, is_bad, overflows, push_fault_by_line}
use Rattle.mq_props.proofs.Finding.{line_known}
use Rattle.mq_props.proofs.PropLines.{prop_line}
use Rattle.mq_props.proofs.Exact.{items_of-body, list_items, list_spelled, list_allowed}

-- an identifier is spelled in one byte
pub id_spelled : (id : ℕ) → id < 128 → varint_spelling id ≡ id ∷ []
unfolding varint_spelling
id_spelled id lt = rw (lt-ltb id 128 lt) refl

-- ---- what it is to be taken

cond_none : {X : Type 0} (b : Bool) (x : X) (rest : Option X) → cond b (Some x) rest ≡ None → (b ≡ false) × (rest ≡ None)
cond_none true x rest e = absurd cc
cond_none false x rest e = (refl, e)

or_false : (a b : Bool) → (a || b) ≡ false → (a ≡ false) × (b ≡ false)
or_false true b e = absurd cc
or_false false b e = (refl, e)

not_false : (b : Bool) → not b ≡ false → b ≡ true
not_false true e = refl
not_false false e = absurd cc

-- a property that is taken
pub record Taken (list : Listed) (p : Property) (line : Line) : Type 0 where
  pub listed : is_listed list.place line ≡ true
  pub once : is_repeated list.place list.items line.id ≡ false
  pub ranged : in_range line.range p.value ≡ true
  pub plain : is_wild list.place line.id p.value ≡ false
  pub no_nul : nul_in p.value ≡ false
  pub small : is_large p.value ≡ false
  pub short : is_long p.value ≡ false
  pub fits : length (body list.items) + length (property_spelling (record { id = line.id; value = p.value })) ≤ 268435455

taken_by : (list : Listed) (p : Property) (line : Line) → push_fault_by_line list p.value (Some line) ≡ None → Taken list p line
taken_by list p line e =
    let made : Property = record { id = line.id; value = p.value } in
    let listed = cond_none (not (is_listed list.place line)) NotAllowed (cond (is_repeated list.place list.items line.id) (Some Repeated) (cond (is_bad list.place line p.value) (Some BadValue) (cond (is_long p.value || overflows list.items made) (Some TooLong) None))) e in
    let once = cond_none (is_repeated list.place list.items line.id) Repeated (cond (is_bad list.place line p.value) (Some BadValue) (cond (is_long p.value || overflows list.items made) (Some TooLong) None)) listed.1 in
    let good = cond_none (is_bad list.place line p.value) BadValue (cond (is_long p.value || overflows list.items made) (Some TooLong) None) once.1 in
    let short = cond_none (is_long p.value || overflows list.items made) TooLong None good.1 in
    let ranged = or_false (not (in_range line.range p.value)) (is_wild list.place line.id p.value || (nul_in p.value || is_large p.value)) good.0 in
    let plain = or_false (is_wild list.place line.id p.value) (nul_in p.value || is_large p.value) ranged.1 in
    let no_nul = or_false (nul_in p.value) (is_large p.value) plain.1 in
    let within = or_false (is_long p.value) (overflows list.items made) short.0 in
    record {
      listed = not_false (is_listed list.place line) listed.0;
      once = once.0;
      ranged = not_false (in_range line.range p.value) ranged.0;
      plain = plain.0;
      no_nul = no_nul.0;
      small = no_nul.1;
      short = within.0;
      fits = ltb-false 268435455 (length (body list.items) + length (property_spelling made)) within.1;
    }

-- it has a line
pub taken : (list : Listed) (p : Property) (line : Line) → row_of p.id ≡ Some line → push_fault_by_line list p.value (row_of p.id) ≡ None → Taken list p line
taken list p line known e = taken_by list p line (sym (ap (push_fault_by_line list p.value) known) ∙ e)

-- a property isn't refused for want of memory before it is written
memory_by : (a b c d : Bool) → cond a (Some NotAllowed) (cond b (Some Repeated) (cond c (Some BadValue) (cond d (Some TooLong) None))) ≡ Some Memory → ⊥
memory_by true b c d e = cc
memory_by false true c d e = cc
memory_by false false true d e = cc
memory_by false false false true e = cc
memory_by false false false false e = cc

pub never_memory : (list : Listed) (v : Value) (o : Option Line) → push_fault_by_line list v o ≡ Some Memory → ⊥
never_memory list v None e = cc
never_memory list v (Some line) e =
    memory_by (not (is_listed list.place line)) (is_repeated list.place list.items line.id) (is_bad list.place line v) (is_long v || overflows list.items (record { id = line.id; value = v })) e

-- the value's own conditions, which hold whatever the line
pub record Writes (v : Value) : Type 0 where
  pub no_nul : nul_in v ≡ false
  pub small : is_large v ≡ false
  pub short : is_long v ≡ false

writes_by : (list : Listed) (p : Property) (o : Option Line) → push_fault_by_line list p.value o ≡ None → Writes p.value
writes_by list p None e = absurd cc
writes_by list p (Some line) e = let t = taken_by list p line e in record { no_nul = t.no_nul; small = t.small; short = t.short }

pub writes : (list : Listed) (p : Property) → push_fault_by_line list p.value (row_of p.id) ≡ None → Writes p.value
writes list p e = writes_by list p (row_of p.id) e

allowed-push : (place : Place) (before ps : List Property) (p : Property) → AllowedAfter place before ps → IsAllowed place (before ++ ps) p → AllowedAfter place before (ps ++ p ∷ [])
allowed-push place before [] p allowed is = (subst (λ (all : List Property). IsAllowed place all p) (append-nil before) is, tt)
allowed-push place before (q ∷ ps) p allowed is =
    (allowed.0, allowed-push place (before ++ q ∷ []) ps p allowed.1 (subst (λ (all : List Property). IsAllowed place all p) (sym (append_assoc before (q ∷ []) ps)) is))

body-push : (ps : List Property) (p : Property) → body (ps ++ p ∷ []) ≡ body ps ++ property_spelling p
body-push ps p = flat_map-append property_spelling ps (p ∷ []) ∙ ap (λ (last : List ℕ). body ps ++ last) (flat_map-cons property_spelling p [] ∙ append-nil (property_spelling p))

-- the list with the property at its end
pub record Pushed (place : Place) (bytes : List ℕ) (p : Property) : Type 0 where
  pub items : items_of (bytes ++ property_spelling p) ≡ items_of bytes ++ p ∷ []
  pub is_list : IsList place (bytes ++ property_spelling p)

pub pushed : (place : Place) (bytes : List ℕ) (p : Property) (line : Line) → IsList place bytes → row_of p.id ≡ Some line → value_type p.value ≡ line.kind → IsValue p.value
    → push_fault_by_line (record { place = place; items = items_of bytes }) p.value (row_of p.id) ≡ None → Pushed place bytes p
pushed place bytes p line is known typed valid e =
    let list : Listed = record { place = place; items = items_of bytes } in
    let t = taken list p line known e in
    let same = line_known p.id line known in
    let spelled : bytes ≡ body (items_of bytes) = list_spelled place bytes is in
    let allowed : IsAllowed place (items_of bytes) p = record {
      line = line;
      known = known;
      listed = t.listed;
      once = subst (λ (id : ℕ). is_repeated place (items_of bytes) id ≡ false) same t.once;
      typed = typed;
      valid = valid;
      ranged = t.ranged;
      plain = subst (λ (id : ℕ). is_wild place id p.value ≡ false) same t.plain;
    } in
    let all : AreAllowed place (items_of bytes ++ p ∷ []) = allowed-push place [] (items_of bytes) p (list_allowed place bytes is) allowed in
    let whole : bytes ++ property_spelling p ≡ body (items_of bytes ++ p ∷ []) = ap (λ (front : List ℕ). front ++ property_spelling p) spelled ∙ sym (body-push (items_of bytes) p) in
    let items : items_of (bytes ++ property_spelling p) ≡ items_of bytes ++ p ∷ [] = ap items_of whole ∙ items_of-body place (items_of bytes ++ p ∷ []) all in
    let size : length (property_spelling (record { id = line.id; value = p.value })) ≡ length (property_spelling p) = ap (λ (id : ℕ). length (property_spelling (record { id = id; value = p.value }))) same in
    record {
      items = items;
      is_list = record {
        properties = items_of bytes ++ p ∷ [];
        allowed = all;
        spelled = whole;
        bound = omega (arith, t.fits, size, ap length spelled, length-append bytes (property_spelling p));
      };
    }

-- a list of no properties
pub empty_list : (place : Place) → IsList place []
empty_list place = record { properties = []; allowed = tt; spelled = refl; bound = omega arith }

pub items_of-nil : items_of [] ≡ []
unfolding items_of items_on
items_of-nil = refl

-- how long the list gets
pub overflow_is : (bytes : List ℕ) (id : ℕ) (v : Value) → bytes ≡ body (items_of bytes) → id < 43 → ltb 268435455 (length bytes + (1 + length (value_spelling v))) ≡ overflows (items_of bytes) (record { id = id; value = v })
overflow_is bytes id v is lt =
    let size : length (property_spelling (record { id = id; value = v })) ≡ 1 + length (value_spelling v) = omega (arith, ap length (id_spelled id (omega (arith, lt))), length-append (varint_spelling id) (value_spelling v)) in
    let all : length bytes + (1 + length (value_spelling v)) ≡ length (body (items_of bytes)) + length (property_spelling (record { id = id; value = v })) = omega (arith, size, ap length is) in
    ap (λ (n : ℕ). ltb 268435455 n) all

-- no room for an identifier, and so for a property
pub no_room : (capacity size id : ℕ) (v : Value) → id < 128 → capacity < size + 1 → capacity < size + length (property_spelling (record { id = id; value = v }))
no_room capacity size id v small lt = omega (arith, lt, ap length (id_spelled id small), length-append (varint_spelling id) (value_spelling v))

-- no room for the value after it
pub no_room_after : (capacity more size following id : ℕ) (v : Value) → id < 128 → capacity ≤ more → following ≡ size + 1 → more < following + length (value_spelling v) → capacity < size + length (property_spelling (record { id = id; value = v }))
no_room_after capacity more size following id v small le is lt =
    omega (arith, le, is, lt, ap length (id_spelled id small), length-append (varint_spelling id) (value_spelling v))

pub room_after : (result : Result (Unit {0}) PushFault) (capacity more size following id : ℕ) (v : Value) → id < 128 → capacity ≤ more → following ≡ size + 1 → OnErr result (more < following + length (value_spelling v))
    → OnErr result (capacity < size + length (property_spelling (record { id = id; value = v })))
room_after (Ok u) capacity more size following id v small le is lacks = tt
room_after (Err fault) capacity more size following id v small le is lacks = no_room_after capacity more size following id v small le is lacks

-- ---- as the call leaves the list

pub record Leaves (place : Place) (bytes new : List ℕ) (p : Property) : Type 0 where
  pub is_list : IsList place new
  pub items : items_of new ≡ items_of bytes ++ p ∷ []

pub leaves : (place : Place) (bytes new : List ℕ) (prop : Prop) (p : Property) → p ≡ prop_view prop → IsList place bytes → push_fault_by_line (record { place = place; items = items_of bytes }) p.value (row_of p.id) ≡ None
    → new ≡ bytes ++ property_spelling p → IsValue p.value → Leaves place bytes new p
leaves place bytes new prop p same is e ok valid =
    let line = prop_line prop in
    let known : row_of p.id ≡ Some line.line = ap (λ (q : Property). row_of q.id) same ∙ line.known in
    let typed : value_type p.value ≡ line.line.kind = ap (λ (q : Property). value_type q.value) same ∙ line.typed in
    let done = pushed place bytes p line.line is known typed valid e in
    record { is_list = subst (λ (all : List ℕ). IsList place all) (sym ok) done.is_list; items = ap items_of ok ∙ done.items }

-- what is known of no properties is known of a list of none
pub keeps_nothing : (place : Place) (facts : Facts) → Knows facts [] → HoldsList place facts []
keeps_nothing place facts knows = record { is_list = record { properties = []; allowed = tt; spelled = refl; bound = omega arith }; knows = knows }

-- what is known is that of the properties that are read from the bytes
pub knows_items : (place : Place) (facts : Facts) (bytes : List ℕ) → HoldsList place facts bytes → Knows facts (items_of bytes)
knows_items place facts bytes keeps = subst (λ (ps : List Property). Knows facts ps) (sym (list_items place bytes keeps.is_list)) keeps.knows

-- it is kept, where the property is known
pub keeps_more : (place : Place) (facts : Facts) (bytes new : List ℕ) (p : Property) → Leaves place bytes new p → Knows facts (items_of bytes ++ p ∷ []) → HoldsList place facts new
keeps_more place facts bytes new p left knows = record { is_list = left.is_list; knows = subst (λ (ps : List Property). Knows facts ps) (sym left.items ∙ list_items place new left.is_list) knows }

-- a list that is read is kept, where its properties are known
pub keeps_read : (place : Place) (facts : Facts) (bytes : List ℕ) (ps : List Property) → IsList place bytes → items_of bytes ≡ ps → Knows facts ps → HoldsList place facts bytes
keeps_read place facts bytes ps is same knows = record { is_list = is; knows = subst (λ (qs : List Property). Knows facts qs) (sym same ∙ list_items place bytes is) knows }

pub listed_after : (place : Place) (bytes new : List ℕ) (list : Listed) (p q : Property) → (let was : Listed = record { place = place; items = items_of bytes } in was) ≡ list → p ≡ q → items_of new ≡ items_of bytes ++ p ∷ []
    → (let now : Listed = record { place = place; items = items_of new } in now) ≡ record { place = list.place; items = list.items ++ q ∷ [] }
listed_after place bytes new list p q was same e =
    let first : (let now : Listed = record { place = place; items = items_of new } in now) ≡ record { place = place; items = items_of bytes ++ p ∷ [] } = ap (λ (ps : List Property). record { place = place; items = ps }) e in
    first ∙ ap (λ (l : Listed). record { place = l.place; items = l.items ++ p ∷ [] }) was ∙ ap (λ (r : Property). record { place = list.place; items = list.items ++ r ∷ [] }) same
