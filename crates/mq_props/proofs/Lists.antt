-- The reading of a property list is exact, and names the first bad field.
use Rattle.std.proofs.Common.{◌≡◌, ℕ, zero, suc, ◌+◌, ◌<◌, ◌≤◌, eqb, ltb, false, List, [], ◌∷◌, ◌++◌, length, take, drop, Result, Ok, Err, refl, sym, ap, subst, ◌∙◌, inl, inr, append_assoc, length-append, arith}
use Rattle.std.specs.Prelude.{IsOkAnd, IfOk, IfErr}
use Rattle.std.proofs.lemmas.Bool.{cases_Bool, ltb-true, ltb-false, le-ltb}
use Rattle.std.proofs.lemmas.List.{take_at, drop_at, drop-drop, length-take, append-nil, take-append-drop}
use Rattle.std.proofs.lemmas.List.Concat.{flat_map-cons}
use Rattle.mq_wire.specs.declared.fault.Reason.{Reason}
use Rattle.mq_wire.specs.declared.fault.Reason.TheVariants.{Short}
use Rattle.mq_wire.specs.declared.fault.WireFault.{WireFault}
use Rattle.mq_wire.specs.Left.{Left, past, placed}
use Rattle.mq_wire.specs.Fields.{varint_at, ◌>>=◌}
use Rattle.mq_wire.specs.Spellings.{AreBytes, IsVarint, varint_spelling, BeginsWith}
use Rattle.mq_wire.proofs.Exports.{AreBytes-drop, AreBytes-take, AreBytes-after, varint_misspelled, placed_ok, varint_exact}
use Rattle.mq_props.specs.declared.fault.PropFault.{PropFault}
use Rattle.mq_props.specs.declared.fault.PropReason.TheVariants.{Wire}
use Rattle.mq_props.specs.declared.table.Place.{Place}
use Rattle.mq_props.specs.Values.{Property, property_spelling, body}
use Rattle.mq_props.specs.Allowed.{AllowedAfter, AreAllowed, Lists}
use Rattle.mq_props.specs.BadFields.{Numbered}
use Rattle.mq_props.specs.Breaks.{BreaksList}
use Rattle.mq_props.specs.Listed.{Listed}
use Rattle.mq_props.specs.Reading.{from_wire, within_length, property_on, properties_within, properties_on, list_on, ReadsFront}
use Rattle.mq_props.proofs.Steps.{property_on_ok, found_shorter, bind_ok, done_is, from_wire_ok}
use Rattle.mq_props.proofs.BadFieldLemmas.{property_breaks}
use Rattle.mq_props.proofs.Exact.{found_spells, named_read, properties_only, properties_all}

abbrev done : {A : Type 0} → A → Result A PropFault
done x = Ok x

abbrev failed : {A : Type 0} → PropFault → Result A PropFault
failed fault = Err fault

failed_is : {A : Type 0} (x y : PropFault) → failed {A = A} x ≡ failed y → x ≡ y
failed_is x y e = cc

past-past : (left : Left) (n m : ℕ) → past (past left n) m ≡ past left (n + m)
past-past left n m =
    let place : left.at + n + m ≡ left.at + (n + m) = omega arith in
    ap (λ (at : ℕ). record { at = at; rest = drop m (drop n left.rest) }) place ∙ ap (λ (rest : List ℕ). record { at = left.at + (n + m); rest = rest }) (drop-drop m n left.rest)

-- ---- what is read is spelled so

pub record Listing (place : Place) (left : Left) (ps : List Property) (new : Left) : Type 0 where
  pub bytes : List ℕ
  pub lists : Lists place ps bytes
  pub parts : left.rest ≡ bytes ++ new.rest
  pub following : new ≡ past left (length bytes)

pub counted_ok : (start : Left) (len : ℕ) (left inside : Left) → within_length start len left ≡ Ok inside → (len ≤ length left.rest) × (inside ≡ record { at = left.at; rest = take len left.rest })
counted_ok start len left inside e =
    elim (cases_Bool (ltb (length left.rest) len)) [
      | inl short ↦ absurd (let never = rw short at e in cc)
      | inr enough ↦ (ltb-false (length left.rest) len enough, sym (done_is (record { at = left.at; rest = take len left.rest }) inside (rw enough at e)))
    ]

listing_from : (place : Place) (left : Left) (len n : ℕ) (ps : List Property) → AreBytes left.rest → varint_at left.rest ≡ Ok (len, n) → len ≤ length (drop n left.rest) → properties_on place [] (record { at = left.at + n; rest = take len (drop n left.rest) }) ≡ Ok ps
    → Listing place left ps (past (past left n) len)
listing_from place left len n ps fits named enough read =
    let inside : List ℕ = take len (drop n left.rest) in
    let number : BeginsWith IsVarint varint_spelling left.rest len n = varint_exact.only left.rest len n fits named in
    let only = properties_only place (left.at + n) inside ps (AreBytes-take len (drop n left.rest) (AreBytes-drop n left.rest fits)) read in
    let size : len ≡ length (body ps) = omega (arith, ap length only.0, length-take len (drop n left.rest), enough) in
    let spelled : varint_spelling len ++ body ps ≡ varint_spelling (length (body ps)) ++ body ps = ap (λ (k : ℕ). varint_spelling k ++ body ps) size in
    let whole : left.rest ≡ (varint_spelling len ++ body ps) ++ drop len (drop n left.rest) =
    number.spelled
    ∙ ap (λ (rest : List ℕ). varint_spelling len ++ rest) (sym (take-append-drop len (drop n left.rest)) ∙ ap (λ (front : List ℕ). front ++ drop len (drop n left.rest)) only.0)
    ∙ sym (append_assoc (varint_spelling len) (body ps) (drop len (drop n left.rest))) in
    let taken : n + len ≡ length (varint_spelling len ++ body ps) = omega (arith, number.taken, size, length-append (varint_spelling len) (body ps)) in
    record {
      bytes = varint_spelling len ++ body ps;
      lists = record { spelled = spelled; bound = subst (λ (k : ℕ). IsVarint k) size number.value; allowed = only.1 };
      parts = whole;
      following = past-past left n len ∙ ap (past left) taken;
    }

pub list_found : (place : Place) (left : Left) (ps : List Property) (new : Left) → AreBytes left.rest → list_on place left ≡ Ok (ps, new) → Listing place left ps new
unfolding list_on
list_found place left ps new fits e =
    let len = bind_ok (from_wire (placed left (varint_at left.rest))) (λ len. within_length left len.0 len.1 >>= λ inside. properties_on place [] inside >>= λ qs. Ok (qs, past len.1 len.0)) (ps, new) e in
    let inside = bind_ok (within_length left len.0.0 len.0.1) (λ inside. properties_on place [] inside >>= λ qs. Ok (qs, past len.0.1 len.0.0)) (ps, new) len.2 in
    let read = bind_ok (properties_on place [] inside.0) (λ qs. Ok (qs, past len.0.1 len.0.0)) (ps, new) inside.2 in
    let named = placed_ok left (varint_at left.rest) len.0.0 len.0.1 (from_wire_ok (placed left (varint_at left.rest)) len.0 len.1) in
    let within = counted_ok left len.0.0 len.0.1 inside.0 inside.1 in
    let enough : len.0.0 ≤ length (drop named.0 left.rest) = subst (λ (l : Left). len.0.0 ≤ length l.rest) named.2 within.0 in
    let inside_is : inside.0 ≡ record { at = left.at + named.0; rest = take len.0.0 (drop named.0 left.rest) } = within.1 ∙ ap (λ (l : Left). record { at = l.at; rest = take len.0.0 l.rest }) named.2 in
    let listed = listing_from place left len.0.0 named.0 read.0 fits named.1 enough (sym (ap (properties_on place []) inside_is) ∙ read.1) in
    let following : past (past left named.0) len.0.0 ≡ past len.0.1 len.0.0 = sym (ap (λ (l : Left). past l len.0.0) named.2) in
    let made : List Property × Left = (read.0, past len.0.1 len.0.0) in
    subst (λ (x : List Property × Left). Listing place left x.0 x.1) (done_is made (ps, new) read.2) (subst (λ (l : Left). Listing place left read.0 l) following listed)

-- ---- what is spelled so is read

abbrev left_at : ℕ → List ℕ → Left
left_at at rest = record { at = at; rest = rest }

counted_all : (start : Left) (at : ℕ) (inside more : List ℕ) → within_length start (length inside) (left_at at (inside ++ more)) ≡ done (left_at at inside)
counted_all start at inside more =
    let enough : length inside ≤ length (inside ++ more) = omega (arith, length-append inside more) in
    rw (le-ltb (length (inside ++ more)) (length inside) enough, take_at inside more (length inside) refl) refl

spelled_read : (place : Place) (at : ℕ) (ps : List Property) (more : List ℕ) → IsVarint (length (body ps)) → AreAllowed place ps
    → list_on place (left_at at (varint_spelling (length (body ps)) ++ (body ps ++ more))) ≡ done (ps, past (left_at (at + length (varint_spelling (length (body ps)))) (body ps ++ more)) (length (body ps)))
unfolding list_on
spelled_read place at ps more bound allowed =
    let len : ℕ = length (body ps) in
    let start : Left = left_at at (varint_spelling len ++ (body ps ++ more)) in
    let following : Left = left_at (at + length (varint_spelling len)) (body ps ++ more) in
    ap (λ (r : Result (ℕ × Left) WireFault). from_wire r >>= λ x. within_length start x.0 x.1 >>= λ inside. properties_on place [] inside >>= λ qs. done (qs, past x.1 x.0)) (named_read at len (body ps ++ more) bound)
    ∙ ap (λ (r : Result Left PropFault). r >>= λ inside. properties_on place [] inside >>= λ qs. done (qs, past following len)) (counted_all start (at + length (varint_spelling len)) (body ps) more)
    ∙ ap (λ (r : Result (List Property) PropFault). r >>= λ qs. done (qs, past following len)) (properties_all place (at + length (varint_spelling len)) ps allowed)

pub list_only : (place : Place) (left : Left) (ps : List Property) (bytes rest : List ℕ) → Lists place ps bytes → left.rest ≡ bytes ++ rest → list_on place left ≡ Ok (ps, past left (length bytes))
list_only place left ps bytes rest lists parts =
    let len : ℕ = length (body ps) in
    let number : List ℕ = varint_spelling len in
    let whole : left.rest ≡ number ++ (body ps ++ rest) = parts ∙ ap (λ (front : List ℕ). front ++ rest) lists.spelled ∙ append_assoc number (body ps) rest in
    let taken : length number + len ≡ length bytes = omega (arith, ap length lists.spelled, length-append number (body ps)) in
    let first : past left (length number) ≡ left_at (left.at + length number) (body ps ++ rest) =
    ap (λ (tail : List ℕ). left_at (left.at + length number) tail) (ap (drop (length number)) whole ∙ drop_at number (body ps ++ rest) (length number) refl) in
    let following : past (left_at (left.at + length number) (body ps ++ rest)) len ≡ past left (length bytes) = sym (ap (λ (l : Left). past l len) first) ∙ past-past left (length number) len ∙ ap (past left) taken in
    ap (λ (all : List ℕ). list_on place (left_at left.at all)) whole ∙ spelled_read place left.at ps rest lists.bound lists.allowed ∙ ap (λ (l : Left). done (ps, l)) following

pub reads_only : {X Y : Type 0} (view : X → Y) (result : Result X PropFault) (read : Result (Y × Left) PropFault) (y : Y) (new following : Left) → ReadsFront view result read new → read ≡ Ok (y, following) → IsOkAnd result (λ x. view x ≡ y) × (new ≡ following)
reads_only {X} {Y} view (Ok x) read y new following h e =
    let found : Y × Left = (view x, new) in
    let same = done_is found (y, following) (sym h ∙ e) in
    (ap (λ (z : Y × Left). z.0) same, ap (λ (z : Y × Left). z.1) same)
reads_only {X} {Y} view (Err fault) read y new following h e = absurd (let never = sym h ∙ e in cc)

-- ---- what is refused

record RefusedAfter (place : Place) (before : List Property) (left : Left) (fault : PropFault) : Type 0 where
  good : List Property
  allowed : AllowedAfter place before good
  others : List ℕ
  some : 0 < length others
  parts : left.rest ≡ body good ++ others
  refused : property_on place (before ++ good) (left_at (left.at + length (body good)) others) ≡ Err fault

refused_here : (place : Place) (before : List Property) (left : Left) (fault : PropFault) → 0 < length left.rest → property_on place before left ≡ Err fault → RefusedAfter place before left fault
refused_here place before left fault some e =
    let here : left.at ≡ left.at + 0 = omega arith in
    record {
      good = [];
      allowed = tt;
      others = left.rest;
      some = some;
      parts = refl;
      refused = ap (λ (ps : List Property). property_on place ps (left_at (left.at + 0) left.rest)) (append-nil before) ∙ sym (ap (λ (at : ℕ). property_on place before (left_at at left.rest)) here) ∙ e;
    }

refused_on : (place : Place) (before : List Property) (left : Left) (p : Property) (new : Left) (fault : PropFault) → AreBytes left.rest → property_on place before left ≡ Ok (p, new) → RefusedAfter place (before ++ p ∷ []) new fault → RefusedAfter place before left fault
refused_on place before left p new fault fits e more =
    let here = found_spells place before left p new fits (property_on_ok place before left p new e) in
    let whole = flat_map-cons property_spelling p more.good in
    let at_is : new.at + length (body more.good) ≡ left.at + length (body (p ∷ more.good)) = omega (arith, here.0.following, ap length whole, length-append (property_spelling p) (body more.good)) in
    record {
      good = p ∷ more.good;
      allowed = (here.1, more.allowed);
      others = more.others;
      some = more.some;
      parts = here.0.spelled ∙ ap (λ (bytes : List ℕ). property_spelling p ++ bytes) more.parts ∙ sym (append_assoc (property_spelling p) (body more.good) more.others) ∙ sym (ap (λ (bytes : List ℕ). bytes ++ more.others) whole);
      refused = ap (λ (ps : List Property). property_on place ps (left_at (left.at + length (body (p ∷ more.good))) more.others)) (sym (append_assoc before (p ∷ []) more.good))
          ∙ sym (ap (λ (at : ℕ). property_on place ((before ++ p ∷ []) ++ more.good) (left_at at more.others)) at_is) ∙ more.refused;
    }

refused_by : (fuel : ℕ) (place : Place) (before : List Property) (left : Left) (fault : PropFault) (r : Result (Property × Left) PropFault) → AreBytes left.rest → 0 < length left.rest → property_on place before left ≡ r
    → ((x : Property × Left) → AreBytes x.1.rest → length x.1.rest < length left.rest → properties_within fuel place (before ++ x.0 ∷ []) x.1 ≡ Err fault → RefusedAfter place (before ++ x.0 ∷ []) x.1 fault)
    → (r >>= λ x. properties_within fuel place (before ++ x.0 ∷ []) x.1) ≡ Err fault → RefusedAfter place before left fault
refused_by fuel place before left fault (Err first) fits some is later e = refused_here place before left fault some (is ∙ ap (λ (f : PropFault). failed {A = Property × Left} f) (failed_is {A = List Property} first fault e))
refused_by fuel place before left fault (Ok x) fits some is later e =
    let found = property_on_ok place before left x.0 x.1 is in
    let here = found_spells place before left x.0 x.1 fits found in
    refused_on place before left x.0 x.1 fault fits is (later x here.0.fits (found_shorter place before left x.0 x.1 found) e)

above_zero : (n : ℕ) → eqb n 0 ≡ false → 0 < n
above_zero zero e = absurd cc
above_zero (suc n) e = omega arith

refused_within : (fuel : ℕ) (place : Place) (before : List Property) (left : Left) (fault : PropFault) → AreBytes left.rest → length left.rest ≤ fuel → properties_within fuel place before left ≡ Err fault → RefusedAfter place before left fault
refused_within zero place before left fault fits enough e = absurd cc
refused_within (suc fuel) place before left fault fits enough e =
    elim (cases_Bool (eqb (length left.rest) 0)) [
      | inl none ↦ absurd (let never = rw none at e in cc)
      | inr some ↦ refused_by fuel place before left fault (property_on place before left) fits (above_zero (length left.rest) some) refl (λ x fits_x less f. refused_within fuel place (before ++ x.0 ∷ []) x.1 fault fits_x (omega (arith, less, enough)) f) (rw some at e)
    ]

refused_on_all : (place : Place) (left : Left) (fault : PropFault) → AreBytes left.rest → properties_on place [] left ≡ Err fault → RefusedAfter place [] left fault
unfolding properties_on
refused_on_all place left fault fits e = refused_within (length left.rest) place [] left fault fits (omega arith) e

last_err : {A B : Type 0} (r : Result A PropFault) (make : A → B) (fault : PropFault) → (r >>= λ x. done (make x)) ≡ Err fault → r ≡ Err fault
last_err (Ok x) make fault e = absurd cc
last_err {A} {B} (Err first) make fault e = ap (λ (f : PropFault). failed {A = A} f) (failed_is {A = B} first fault e)

abbrev with_rest : Left → List Property → Result (List Property × Left) PropFault
with_rest new ps = Ok (ps, new)

breaks_after : (place : Place) (left : Left) (fault : PropFault) (len n : ℕ) → AreBytes left.rest → varint_at left.rest ≡ Ok (len, n)
    → (within_length left len (past left n) >>= λ inside. properties_on place [] inside >>= λ qs. with_rest (past (past left n) len) qs) ≡ Err fault → BreaksList place left fault
breaks_after place left fault len n fits named e =
    let stands : BeginsWith IsVarint varint_spelling left.rest len n = varint_exact.only left.rest len n fits named in
    let numbered : Numbered left len (past left n) = record { is_number = stands.value; spelled = stands.spelled; place = ap (λ (k : ℕ). left.at + k) stands.taken } in
    elim (cases_Bool (ltb (length (drop n left.rest)) len)) [
      | inl short ↦ inr (inl (record { len = len; inside = past left n; numbered = numbered; passes = ltb-true (length (drop n left.rest)) len short; is = sym (failed_is {A = List Property × Left} (record { at = left.at; reason = Wire Short }) fault (rw short at e)) }))
      | inr enough ↦
          let held : List ℕ = drop n left.rest in
          let inside : Left = left_at (left.at + n) (take len held) in
          let inside_fits : AreBytes inside.rest = AreBytes-take len held (AreBytes-drop n left.rest fits) in
          let f : properties_on place [] inside ≡ Err fault = last_err (properties_on place [] inside) (λ (qs : List Property). (qs, past (past left n) len)) fault (rw enough at e) in
          let refused = refused_on_all place inside fault inside_fits f in
          let others_fit : AreBytes refused.others = AreBytes-after (body refused.good) refused.others inside.rest inside_fits refused.parts in
          let size : len ≡ length (body refused.good ++ refused.others) = omega (arith, ap length refused.parts, length-take len held, ltb-false (length held) len enough) in
          let whole : held ≡ (body refused.good ++ refused.others) ++ drop len held = sym (take-append-drop len held) ∙ ap (λ (front : List ℕ). front ++ drop len held) refused.parts in
          let bad = property_breaks place refused.good (left_at (left.at + n + length (body refused.good)) refused.others) fault others_fit refused.refused in
          inr (inr (record { good = refused.good; others = refused.others; rest = drop len held; inside = past left n; numbered = subst (λ (k : ℕ). Numbered left k (past left n)) size numbered; parts = whole; allowed = refused.allowed; some = refused.some; refused = bad }))
    ]

breaks_by : (place : Place) (left : Left) (fault : PropFault) (r : Result (ℕ × ℕ) Reason) → AreBytes left.rest → varint_at left.rest ≡ r
    → (from_wire (placed left r) >>= λ len. within_length left len.0 len.1 >>= λ inside. properties_on place [] inside >>= λ qs. with_rest (past len.1 len.0) qs) ≡ Err fault → BreaksList place left fault
breaks_by place left fault (Err reason) fits is e =
    inl (record { reason = reason; misspelled = (varint_misspelled.exactly left.rest reason fits).0 is; is = sym (failed_is {A = List Property × Left} (record { at = left.at; reason = Wire reason }) fault e) })
breaks_by place left fault (Ok x) fits is e = breaks_after place left fault x.0 x.1 fits is e

pub list_breaks : (place : Place) (left : Left) (fault : PropFault) → AreBytes left.rest → list_on place left ≡ Err fault → BreaksList place left fault
unfolding list_on
list_breaks place left fault fits e = breaks_by place left fault (varint_at left.rest) fits refl e

-- ---- as the call answers

pub found_result : (place : Place) (left : Left) (result : Result Listed PropFault) (new : Left) → AreBytes left.rest → ReadsFront (λ (l : Listed). l.items) result (list_on place left) new
    → IfOk result (λ l. (bytes : List ℕ) × Lists place l.items bytes × (left.rest ≡ bytes ++ new.rest) × (new ≡ past left (length bytes)))
found_result place left (Ok l) new fits h = let found = list_found place left l.items new fits h in (found.bytes, found.lists, found.parts, found.following)
found_result place left (Err fault) new fits h = tt

pub broken_result : (place : Place) (left : Left) (result : Result Listed PropFault) (new : Left) → AreBytes left.rest → ReadsFront (λ (l : Listed). l.items) result (list_on place left) new → IfErr result (λ fault. BreaksList place left fault)
broken_result place left (Ok l) new fits h = tt
broken_result place left (Err fault) new fits h = list_breaks place left fault fits h

-- ---- a list of no properties

-- its length is 0, and it is read as such
pub empty_read : (place : Place) (left : Left) (following : List ℕ) → left.rest ≡ 0 ∷ following → list_on place left ≡ Ok ([], record { at = left.at + 1; rest = following })
unfolding list_on properties_on varint_at
empty_read place left following e =
    let enough : ltb (length following) 0 ≡ false = le-ltb (length following) 0 (omega arith) in
    let made : ℕ → Result (List Property × Left) PropFault = λ at. Ok ([], record { at = at; rest = following }) in
    let place : left.at + 1 + 0 ≡ left.at + 1 = omega arith in
    rw (e, enough) (ap made place)
