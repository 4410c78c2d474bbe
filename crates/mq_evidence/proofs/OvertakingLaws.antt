-- PUBLISHes that are sent again on a connection, with one event more.
use Rattle.std.proofs.Common.{◌≡◌, ℕ, zero, suc, ◌+◌, ◌-◌, ◌<◌, ◌≤◌, arith, Bool, true, false, cond, ◌&&◌, not, List, [], ◌∷◌, ◌++◌, length, get_or, leb, Bor, Option, Some, None, refl, ap, sym, ◌∙◌, subst}
use Rattle.std.specs.Prelude.{option_map, is_some, nat_lt, unwrap_or}
use Rattle.std.specs.Option.{option_or, option_and_then, MatchOption}
use Rattle.std.specs.List.{find, slice_get, HoldsAt}
use Rattle.std.specs.List.Sorted.{IsNonDecreasingBy, IsPartitionPoint}
use Rattle.std.proofs.lemmas.Bool.{ltb-true, ltb-false, lt-ltb}
use Rattle.std.proofs.lemmas.Bool.Decides.{nat_tests}
use Rattle.std.proofs.lemmas.Option.{slice_get-get_or, slice_get_past}
use Rattle.std.proofs.lemmas.List.Folds.{find-append}
use Rattle.std.proofs.lemmas.List.Sorted.{IsNonDecreasingBy-push, IsNonDecreasingBy-short}
use Rattle.mq_log.specs.declared.place.Place3.{Place3}
use Rattle.mq_rules.specs.declared.role.Role.{Role}
use Rattle.mq_rules.specs.declared.role.Tested.{Tested}
use Rattle.mq_rules.specs.declared.fate.Fate.{Fate}
use Rattle.mq_rules.specs.declared.note.Note.{Note}
use Rattle.mq_rules.specs.declared.note.Note.TheVariants as notes
use Rattle.mq_rules.specs.declared.note.Seen.{Seen}
use Rattle.mq_rules.specs.Words.{is_some_and, only}
use Rattle.mq_rules.specs.Notes.{is_open, opener_of, closer_of, resend_of}
use Rattle.mq_rules.specs.Moments.{Moment, newest, position, note, since, latest}
use Rattle.mq_rules.specs.Connections.{connection, session, latest_fate}
use Rattle.mq_rules.specs.Under.{seen, fate_before}
use Rattle.mq_rules.specs.Identifiers.{latest_opener, opens_id, closes_id, comes_after}
use Rattle.mq_rules.proofs.Exports.{connection-newest, option_or-none}
use Rattle.mq_rules.specs.Evidence.{nothing}
use Rattle.mq_evidence.specs.declared.overtaking.Overtaking.{Overtaking}
use Rattle.mq_evidence.specs.declared.overtaking.Resend.{Resend}
use Rattle.mq_evidence.specs.Evidence.{earliest, overtakes, first_overtaking, first_sent_at, it_with, two_of}
use Rattle.mq_evidence.specs.Stretches.{has_id, unended}
use Rattle.mq_evidence.specs.Overtaking.{IsOvertaking, opened_under, opened_at, is_after, is_above, is_later, later_one, resend_at, by_resend}

-- ---- lists

-- the place up to which a test holds, and from which it doesn't, is that of the first one that fails it
pub first-failing : {X : Type 0} (p q : X → Bool) (xs : List X) (i : ℕ) → ((x : X) → p x ≡ not (q x)) → IsPartitionPoint (λ x. p x ≡ true) (λ x. p x ≡ false) xs i → slice_get xs i ≡ find q xs
first-failing p q [] i same h = refl
first-failing p q (x ∷ xs) zero same h = let here : p x ≡ false = h.1 0 x (omega arith) (omega arith) in let yes : q x ≡ true = go (q x) (sym (same x) ∙ here) in sym (ap (λ b. cond b (Some x) (find q xs)) yes)
  where
    go : (b : Bool) → not b ≡ false → b ≡ true
    go true h = refl
    go false h = absurd (cc)
first-failing p q (x ∷ xs) (suc i) same h =
    let here : p x ≡ true = h.0 0 x (omega arith) (omega arith) in
    let fails : q x ≡ false = go (q x) (sym (same x) ∙ here) in
    first-failing p q xs i same (λ k d low high. h.0 (suc k) d (omega (arith, low)) (omega (arith, high)), λ k d low high. h.1 (suc k) d (omega (arith, low)) (omega (arith, high)))
    ∙ sym (ap (λ b. cond b (Some x) (find q xs)) fails)
  where
    go : (b : Bool) → not b ≡ true → b ≡ false
    go true h = absurd (cc)
    go false h = refl

-- where one passes a test, a first one does
found-there : {X : Type 0} (test : X → Bool) (xs : List X) (i : ℕ) (x : X) (o : Option X) → slice_get xs i ≡ Some x → test x ≡ true → option_or (find test xs) o ≡ find test xs
found-there test [] i x o at passes = absurd (cc)
found-there test (y ∷ ys) zero x o at passes = let same : y ≡ x = cc in let here : test y ≡ true = ap test same ∙ passes in ap (λ b. option_or (cond b (Some y) (find test ys)) o) here ∙ sym (ap (λ b. cond b (Some y) (find test ys)) here)
found-there test (y ∷ ys) (suc i) x o at passes = go (test y) (found-there test ys i x o at passes)
  where
    go : (b : Bool) → option_or (find test ys) o ≡ find test ys → option_or (cond b (Some y) (find test ys)) o ≡ cond b (Some y) (find test ys)
    go true h = refl
    go false h = h

-- what a slice gives at a place
pub got : {X : Type 0} (xs : List X) (i : ℕ) (r : Option (Bor X)) → MatchOption r (length xs ≤ i) (λ x. (i < length xs) × HoldsAt (λ y. x.now ≡ y) xs i) → option_map (λ x. x.now) r ≡ slice_get xs i
got xs i None past = sym (slice_get_past xs i past)
got xs i (Some x) there = ap Some (there.1 x.now) ∙ sym (slice_get-get_or xs i x.now there.0)

pub le-not-lt : (a b : ℕ) → leb a b ≡ not (nat_lt b a)
le-not-lt a b = grind (arith, nat_tests)

between : (n o r : ℕ) → nat_lt n o ≡ true → nat_lt r o ≡ false → nat_lt n r ≡ true
between n o r h k = let a : n < o = ltb-true n o h in let b : o ≤ r = ltb-false r o k in lt-ltb n r (omega arith)

-- ---- one that is sent again

-- it was first sent before the last one that is kept: then one that is kept serves in its place
pub kept-old : (xs : List Resend) (b : Bool) (p o n : ℕ) → b ≡ is_above (slice_get xs (length xs - 1)) o → b ≡ false → find (is_later n) xs ≡ option_or (find (is_later n) xs) (later_one n p (Some o))
kept-old xs b p o n is fails = go (slice_get xs (length xs - 1)) refl is
  where
    test : (r : Resend) (c : Bool) → nat_lt n o ≡ c → nat_lt r.opened o ≡ false → slice_get xs (length xs - 1) ≡ Some r → find (is_later n) xs ≡ option_or (find (is_later n) xs) (cond c (Some (record { position = p; opened = o })) None)
    test r true h k at = sym (found-there (is_later n) xs (length xs - 1) r (Some (record { position = p; opened = o })) at (between n o r.opened h k))
    test r false h k at = sym (option_or-none (find (is_later n) xs))

    go : (l : Option Resend) → slice_get xs (length xs - 1) ≡ l → b ≡ is_above l o → find (is_later n) xs ≡ option_or (find (is_later n) xs) (later_one n p (Some o))
    go None at is = absurd (cc)
    go (Some r) at is = let k : nat_lt r.opened o ≡ false = sym is ∙ fails in test r (nat_lt n o) refl k at

-- it was first sent later
pub kept-new : (xs ys : List Resend) (p o n : ℕ) → ys ≡ xs ++ record { position = p; opened = o } ∷ [] → find (is_later n) ys ≡ option_or (find (is_later n) xs) (later_one n p (Some o))
kept-new xs ys p o n is = ap (find (is_later n)) is ∙ find-append (is_later n) xs (record { position = p; opened = o } ∷ [])

pub rising-new : (xs ys : List Resend) (b : Bool) (p o : ℕ) → b ≡ is_above (slice_get xs (length xs - 1)) o → b ≡ true → ys ≡ xs ++ record { position = p; opened = o } ∷ [] → IsNonDecreasingBy (λ (r : Resend). r.opened) xs → IsNonDecreasingBy (λ (r : Resend). r.opened) ys
rising-new xs ys b p o is holds same up = subst (IsNonDecreasingBy (λ (r : Resend). r.opened)) (sym same) (IsNonDecreasingBy-push (λ (r : Resend). r.opened) xs (record { position = p; opened = o }) up last)
  where
    last : (d : Resend) → 0 < length xs → (get_or xs (length xs - 1) d).opened ≤ o
    last d some =
        let at : slice_get xs (length xs - 1) ≡ Some (get_or xs (length xs - 1) d) = slice_get-get_or xs (length xs - 1) d (omega (arith, some)) in
        let below : nat_lt (get_or xs (length xs - 1) d).opened o ≡ true = ap (λ l. is_above l o) (sym at) ∙ sym is ∙ holds in
        let less : (get_or xs (length xs - 1) d).opened < o = ltb-true _ o below in
        omega arith

-- ---- one event more

-- an OPEN sends nothing
open-resends : (n : Note) → is_open n ≡ true → resend_of n ≡ None
open-resends notes.Open h = refl
open-resends (notes.Close cuts part) h = absurd (cc)
open-resends notes.Rest h = absurd (cc)
open-resends (notes.Release identifier) h = absurd (cc)
open-resends (notes.Sent item) h = absurd (cc)
open-resends (notes.Recv item) h = absurd (cc)

pub overtaking-begun : (y : Overtaking) (role : Role) (fate : Fate) (at : Place3) (n : Note) (past : List Seen) → is_open n ≡ true → y.resends.items ≡ [] → IsOvertaking y role (Some fate) (seen at n ∷ past)
overtaking-begun y role fate at n past opens none = record {
  rising = subst (IsNonDecreasingBy (λ (r : Resend). r.opened)) (sym none) (IsNonDecreasingBy-short (λ (r : Resend). r.opened) [] (omega arith));
  first_are = λ k. ap (find (is_later k)) none ∙ sym (ap (option_map (resend_at role (Some fate))) (nothing-yet k));
}
  where
    m : Moment
    m = newest (seen at n) past

    nothing-yet : (k : ℕ) → earliest (is_after role (Some fate) k) (connection (seen at n ∷ past)) ≡ None
    nothing-yet k =
        ap (earliest (is_after role (Some fate) k)) (connection-newest (seen at n) past)
        ∙ ap (λ b. option_or (earliest (is_after role (Some fate) k) (cond b [] (connection past))) (cond (is_after role (Some fate) k m) (Some m) None)) opens
        ∙ ap (λ o. option_or None (cond (is_some_and (nat_lt k) (option_and_then (λ i. option_map position (unended (has_id opener_of i) (has_id closer_of i) (session role (Some fate) past))) o)) (Some m) None)) (open-resends n opens)

pub overtaking-more : (tested : Tested) (fate : Fate) (at : Place3) (n : Note) (past : List Seen) (x y : Overtaking) (p : ℕ) (opened : Option ℕ) → is_open n ≡ false → length past + 1 ≡ p
    → opened ≡ opened_under n (session tested.role (fate_before tested fate (seen at n) past) past) → IsOvertaking x tested.role (fate_before tested fate (seen at n) past) past
    → IsNonDecreasingBy (λ (r : Resend). r.opened) y.resends.items → ((k : ℕ) → find (is_later k) y.resends.items ≡ option_or (find (is_later k) x.resends.items) (later_one k p opened))
    → IsOvertaking y tested.role (Some fate) (seen at n ∷ past)
overtaking-more tested fate at n past x y p opened goes place is before up grown = record {
  rising = up;
  first_are = λ k.
      grown k
      ∙ ap (λ o. option_or o (later_one k p opened)) (old.first_are k)
      ∙ ap (λ o. option_or (option_map (resend_at role (Some fate)) (earliest (is_after role (Some fate) k) (connection past))) (later_one k p o)) here
      ∙ ap (λ q. option_or (option_map (resend_at role (Some fate)) (earliest (is_after role (Some fate) k) (connection past))) (later_one k q (opened_at role (Some fate) m))) (sym place)
      ∙ one-more k (earliest (is_after role (Some fate) k) (connection past)) (opened_at role (Some fate) m) refl
      ∙ ap (λ b. option_map (resend_at role (Some fate)) (option_or (earliest (is_after role (Some fate) k) (cond b [] (connection past))) (cond (is_after role (Some fate) k m) (Some m) None))) (sym goes)
      ∙ ap (λ ms. option_map (resend_at role (Some fate)) (earliest (is_after role (Some fate) k) ms)) (sym (connection-newest (seen at n) past));
}
  where
    role : Role
    role = tested.role

    m : Moment
    m = newest (seen at n) past

    same : fate_before tested fate (seen at n) past ≡ Some fate
    same = ap (λ b. cond b (latest_fate tested.role past) (Some fate)) goes

    old : IsOvertaking x role (Some fate) past
    old = subst (λ f. IsOvertaking x tested.role f past) same before

    here : opened ≡ opened_at role (Some fate) m
    here = is ∙ ap (λ f. opened_under n (session tested.role f past)) same

    one-more : (k : ℕ) (e : Option Moment) (o : Option ℕ) → opened_at role (Some fate) m ≡ o
        → option_or (option_map (resend_at role (Some fate)) e) (later_one k (length past + 1) (opened_at role (Some fate) m)) ≡ option_map (resend_at role (Some fate)) (option_or e (cond (is_after role (Some fate) k m) (Some m) None))
    one-more k (Some j) o h = refl
    one-more k None None h = ap (later_one k (length past + 1)) h ∙ ap (λ v. option_map (resend_at role (Some fate)) (cond (is_some_and (nat_lt k) v) (Some m) None)) (sym h)
    one-more k None (Some v) h =
        ap (later_one k (length past + 1)) h
        ∙ go (nat_lt k v)
        ∙ ap (λ w. option_map (λ j. record { position = position j; opened = unwrap_or w 0 }) (cond (is_some_and (nat_lt k) w) (Some m) None)) (sym h)
        ∙ last (is_after role (Some fate) k m)
      where
        go : (b : Bool) → cond b (Some (record { position = length past + 1; opened = v })) None ≡ option_map {T = Moment} {U = Resend} (λ j. record { position = position j; opened = v }) (cond b (Some m) None)
        go true = refl
        go false = refl

        last : (b : Bool) → option_map {T = Moment} {U = Resend} (λ j. record { position = position j; opened = unwrap_or (opened_at role (Some fate) m) 0 }) (cond b (Some m) None) ≡ option_map (resend_at role (Some fate)) (cond b (Some m) None)
        last true = refl
        last false = refl

-- ---- the evidence

earliest-alike : (t u : Moment → Bool) (ms : List Moment) → ((j : Moment) → t j ≡ u j) → earliest t ms ≡ earliest u ms
earliest-alike t u ms h = λ i. earliest (λ j. h j i) ms

earliest-none : (ms : List Moment) → earliest (λ j. false) ms ≡ None
earliest-none [] = refl
earliest-none (m ∷ ms) = ap (λ o. option_or o None) (earliest-none ms)

earliest-passes : (test : Moment → Bool) (ms : List Moment) (j : Moment) → earliest test ms ≡ Some j → test j ≡ true
earliest-passes test [] j h = absurd (cc)
earliest-passes test (m ∷ ms) j h = go (earliest test ms) (test m) refl (earliest-passes test ms j) h
  where
    go : (o : Option Moment) (b : Bool) → test m ≡ b → (o ≡ Some j → test j ≡ true) → option_or o (cond b (Some m) None) ≡ Some j → test j ≡ true
    go (Some n) b here rest h = rest h
    go None true here rest h = let same : m ≡ j = cc in ap test (sym same) ∙ here
    go None false here rest h = absurd (cc)

-- what is sent again at j was first sent after this moment, if that is there
abbrev overtakes_it : Role → Fate → Option Moment → Moment → Bool
overtakes_it role f None j = false
overtakes_it role f (Some n) j = is_after role (Some f) (position n) j

overtakes-is : (role : Role) (f : Fate) (i : ℕ) (k j : Moment) → overtakes role f i k j ≡ overtakes_it role f (latest_opener role f i k) j
overtakes-is role f i k j = go (latest_opener role f i k) (resend_of (note j)) ∙ end (latest_opener role f i k)
  where
    ms : List Moment
    ms = session role (Some f) j.past

    there : (b : Bool) (o : Option Moment) (n : Moment) → (b && comes_after o (Some n)) ≡ is_some_and (nat_lt (position n)) (option_map position (only b o))
    there true None n = refl
    there true (Some m) n = refl
    there false o n = refl

    never : (b : Bool) (o : Option Moment) → (b && comes_after o None) ≡ false
    never true None = refl
    never true (Some m) = refl
    never false o = refl

    go : (l : Option Moment) (r : Option ℕ) → is_some_and (λ o. since (opens_id o) (closes_id o) ms && comes_after (latest (opens_id o) ms) l) r
        ≡ cond (is_some l) (is_some_and (nat_lt (unwrap_or (option_map position l) 0)) (option_and_then (λ o. option_map position (unended (has_id opener_of o) (has_id closer_of o) ms)) r)) false
    go None None = refl
    go None (Some o) = never (since (opens_id o) (closes_id o) ms) (latest (opens_id o) ms)
    go (Some n) None = refl
    go (Some n) (Some o) = there (since (opens_id o) (closes_id o) ms) (latest (opens_id o) ms) n

    end : (l : Option Moment) → cond (is_some l) (is_some_and (nat_lt (unwrap_or (option_map position l) 0)) (opened_at role (Some f) j)) false ≡ overtakes_it role f l j
    end None = refl
    end (Some n) = refl

first-sent : (role : Role) (f : Fate) (j : Moment) (p : ℕ) → opened_at role (Some f) j ≡ Some p → first_sent_at role f j ≡ Some p
first-sent role f j p h = go (resend_of (note j)) h
  where
    ms : List Moment
    ms = session role (Some f) j.past

    open-one : (b : Bool) (o : Option Moment) → option_map position (only b o) ≡ Some p → option_map position o ≡ Some p
    open-one true o h = h
    open-one false o h = absurd (cc)

    go : (r : Option ℕ) → option_and_then (λ o. option_map position (unended (has_id opener_of o) (has_id closer_of o) ms)) r ≡ Some p → option_and_then (λ o. option_map position (latest (opens_id o) ms)) r ≡ Some p
    go None h = absurd (cc)
    go (Some o) h = open-one (since (opens_id o) (closes_id o) ms) (latest (opens_id o) ms) h

by-first : (role : Role) (f : Fate) (n : ℕ) (ms : List Moment) (found : Option Resend) → found ≡ option_map (resend_at role (Some f)) (earliest (is_after role (Some f) n) ms)
    → by_resend found n ≡ it_with (earliest (is_after role (Some f) n) ms) (two_of (option_and_then (first_sent_at role f) (earliest (is_after role (Some f) n) ms)) (Some n))
by-first role f n ms found is = ap (λ r. by_resend r n) is ∙ go (earliest (is_after role (Some f) n) ms) refl
  where
    one : (j : Moment) (o : Option ℕ) → opened_at role (Some f) j ≡ o → is_some_and (nat_lt n) o ≡ true
        → by_resend (Some (resend_at role (Some f) j)) n ≡ it_with (Some j) (two_of (first_sent_at role f j) (Some n))
    one j None h passes = absurd (cc)
    one j (Some p) h passes =
        ap (λ o. by_resend (Some (record { position = position j; opened = unwrap_or o 0 })) n) h
        ∙ sym (ap (λ o. it_with (Some j) (two_of o (Some n))) (first-sent role f j p h))

    go : (e : Option Moment) → earliest (is_after role (Some f) n) ms ≡ e → by_resend (option_map (resend_at role (Some f)) e) n ≡ it_with e (two_of (option_and_then (first_sent_at role f) e) (Some n))
    go None h = refl
    go (Some j) h = one j (opened_at role (Some f) j) refl (earliest-passes (is_after role (Some f) n) ms j h)

-- what was never first sent is overtaken by nothing
pub no-evidence : (role : Role) (f : Fate) (i : ℕ) (k : Moment) → None ≡ option_map position (latest_opener role f i k)
    → nothing ≡ it_with (first_overtaking role f i k) (two_of (option_and_then (first_sent_at role f) (first_overtaking role f i k)) (option_map position (latest_opener role f i k)))
no-evidence role f i k none =
    sym (ap (λ e. it_with e (two_of (option_and_then (first_sent_at role f) e) (option_map position (latest_opener role f i k)))) never)
  where
    absent : (l : Option Moment) → None ≡ option_map position l → l ≡ None
    absent None h = refl
    absent (Some m) h = absurd (cc)

    never : first_overtaking role f i k ≡ None
    never =
        earliest-alike (overtakes role f i k) (λ j. false) (connection k.past) (λ j. overtakes-is role f i k j ∙ ap (λ l. overtakes_it role f l j) (absent (latest_opener role f i k) none))
        ∙ earliest-none (connection k.past)

pub evidence-opened : (x : Overtaking) (role : Role) (f : Fate) (i : ℕ) (k : Moment) (n : ℕ) (found : Option Resend) → IsOvertaking x role (Some f) k.past → Some n ≡ option_map position (latest_opener role f i k)
    → found ≡ find (is_later n) x.resends.items
    → by_resend found n ≡ it_with (first_overtaking role f i k) (two_of (option_and_then (first_sent_at role f) (first_overtaking role f i k)) (option_map position (latest_opener role f i k)))
evidence-opened x role f i k n found kept own is =
    by-first role f n (connection k.past) found (is ∙ kept.first_are n)
    ∙ ap (λ e. it_with e (two_of (option_and_then (first_sent_at role f) e) (Some n))) (sym same)
    ∙ ap (λ o. it_with (first_overtaking role f i k) (two_of (option_and_then (first_sent_at role f) (first_overtaking role f i k)) o)) own
  where
    one : (j : Moment) (l : Option Moment) → Some n ≡ option_map position l → overtakes_it role f l j ≡ is_after role (Some f) n j
    one j None h = absurd (cc)
    one j (Some m) h = let at : n ≡ position m = cc in ap (λ p. is_after role (Some f) p j) (sym at)

    same : first_overtaking role f i k ≡ earliest (is_after role (Some f) n) (connection k.past)
    same = earliest-alike (overtakes role f i k) (is_after role (Some f) n) (connection k.past) (λ j. overtakes-is role f i k j ∙ one j (latest_opener role f i k) own)
