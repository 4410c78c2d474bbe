-- The places of the events of a list that pass a test, event by event.
use Rattle.std.proofs.Common.{◌≡◌, ℕ, ◌+◌, ◌<◌, ◌==◌, Bool, true, false, cond, ◌||◌, List, [], ◌∷◌, ◌++◌, length, take, get_or, Option, Some, None, refl, ap, sym, ◌∙◌, subst, arith}
use Rattle.std.specs.Prelude.{All, option_map, reverse}
use Rattle.std.specs.List.{list_any}
use Rattle.std.proofs.lemmas.Bool.{eqb-true, eq-eqb}
use Rattle.std.proofs.lemmas.List.Folds.{list_any-append}
use Rattle.std.proofs.lemmas.List.Elements.{All-nil, All-cons, All-head, All-tail, All-append}
use Rattle.std.proofs.lemmas.List.{length-reverse, length-take-le}
use Rattle.mq_log.specs.declared.place.Place3.{Place3}
use Rattle.mq_rules.specs.declared.note.Seen.{Seen}
use Rattle.mq_rules.specs.Words.{is_some_and}
use Rattle.mq_rules.specs.Moments.{Moment, newest, moment, IsPlaced}
use Rattle.mq_rules.proofs.Exports.{or_false, same_test, newest-first, moment-newest, moment-among, among-within, moment-beginning, moment-stays}
use Rattle.mq_plain.specs.Shown.{IsShown}
use Rattle.mq_plain.proofs.LoopLaws.{placed-beginning}

All-alike : {X : Type 0} (P Q : X → Type 0) → ((x : X) → P x → Q x) → (xs : List X) → All P xs → All Q xs
All-alike P Q f [] h = All-nil Q
All-alike P Q f (x ∷ xs) h = All-cons Q x xs (f x (All-head P x xs h)) (All-alike P Q f xs (All-tail P x xs h))

-- a log has no moment after its newest one
nothing-next : (past : List Seen) → moment past (length past + 1) ≡ None
nothing-next past = go (moment past (length past + 1)) refl
  where
    go : (o : Option Moment) → moment past (length past + 1) ≡ o → o ≡ None
    go None h = refl
    go (Some m) h = absurd (let at = (moment-beginning past (length past + 1) m h).at in let le = among-within m past (moment-among past (length past + 1) m h) in omega arith)

pub shown-start : (test : Moment → Bool) → IsShown test [] []
shown-start test = record { each = λ k. refl; own = All-nil _ }

-- what was shown is shown with one event more
own-later : (e : Seen) (past : List Seen) (p : Place3) → option_map (λ m. m.event.place) (moment past p.position) ≡ Some p → option_map (λ m. m.event.place) (moment (e ∷ past) p.position) ≡ Some p
own-later e past p h = go (moment past p.position) refl
  where
    go : (o : Option Moment) → moment past p.position ≡ o → option_map (λ m. m.event.place) (moment (e ∷ past) p.position) ≡ Some p
    go None is = absurd (let t : ◌≡◌ {A = Option Place3} None (Some p) = sym (ap (option_map (λ m. m.event.place)) is) ∙ h in cc)
    go (Some m) is = ap (option_map (λ m. m.event.place)) (moment-stays e past p.position m is) ∙ sym (ap (option_map (λ m. m.event.place)) is) ∙ h

-- the event passes
shown-more : (test : Moment → Bool) (e : Seen) (past : List Seen) (places : List Place3) → e.place.position ≡ length past + 1 → test (newest e past) ≡ true → IsShown test past places
    → IsShown test (e ∷ past) (places ++ e.place ∷ [])
shown-more test e past places placed passes shown = record {
  each = λ k. list_any-append (λ p. p.position == k) places (e.place ∷ []) ∙ ap (λ n. list_any (λ p. p.position == k) places || ((n == k) || false)) placed ∙ go k (k == length past + 1) refl;
  own = All-append (λ p. option_map (λ m. m.event.place) (moment (e ∷ past) p.position) ≡ Some p) places (e.place ∷ [])
      (All-alike (λ p. option_map (λ m. m.event.place) (moment past p.position) ≡ Some p) (λ p. option_map (λ m. m.event.place) (moment (e ∷ past) p.position) ≡ Some p) (own-later e past) places shown.own)
      (All-cons (λ p. option_map (λ m. m.event.place) (moment (e ∷ past) p.position) ≡ Some p) e.place [] (ap (option_map (λ m. m.event.place)) (moment-newest e past e.place.position placed)) (All-nil _));
}
  where
    turned : (k : ℕ) → ((length past + 1) == k) ≡ (k == length past + 1)
    turned k = same_test ((length past + 1) == k) (k == length past + 1) (λ h. eq-eqb k (length past + 1) (sym (eqb-true (length past + 1) k h))) (λ h. eq-eqb (length past + 1) k (sym (eqb-true k (length past + 1) h)))

    go : (k : ℕ) (b : Bool) → (k == length past + 1) ≡ b → (list_any (λ p. p.position == k) places || (((length past + 1) == k) || false)) ≡ is_some_and test (cond b (Some (newest e past)) (moment past k))
    go k true at =
        ap (λ b. b || (((length past + 1) == k) || false)) (shown.each k ∙ ap (λ n. is_some_and test (moment past n)) (eqb-true k (length past + 1) at) ∙ ap (is_some_and test) (nothing-next past))
        ∙ or_false ((length past + 1) == k) ∙ eq-eqb (length past + 1) k (sym (eqb-true k (length past + 1) at)) ∙ sym passes
    go k false at =
        ap (λ b. list_any (λ p. p.position == k) places || (b || false)) (turned k ∙ at) ∙ or_false (list_any (λ p. p.position == k) places) ∙ shown.each k

-- the same, with its place before the others
pub shown-front : (test : Moment → Bool) (e : Seen) (past : List Seen) (places : List Place3) → e.place.position ≡ length past + 1 → test (newest e past) ≡ true → IsShown test past places → IsShown test (e ∷ past) (e.place ∷ places)
shown-front test e past places placed passes shown =
    let more = shown-more test e past places placed passes shown in
    record {
      each = λ k. turned k ∙ more.each k;
      own = All-cons (λ p. option_map (λ m. m.event.place) (moment (e ∷ past) p.position) ≡ Some p) e.place places (ap (option_map (λ m. m.event.place)) (moment-newest e past e.place.position placed))
          (All-alike (λ p. option_map (λ m. m.event.place) (moment past p.position) ≡ Some p) (λ p. option_map (λ m. m.event.place) (moment (e ∷ past) p.position) ≡ Some p) (own-later e past) places shown.own);
    }
  where
    last : (a b : Bool) → (a || b) ≡ (b || (a || false))
    last true true = refl
    last true false = refl
    last false true = refl
    last false false = refl

    turned : (k : ℕ) → list_any (λ p. p.position == k) (e.place ∷ places) ≡ list_any (λ p. p.position == k) (places ++ e.place ∷ [])
    turned k = last (e.place.position == k) (list_any (λ p. p.position == k) places) ∙ sym (list_any-append (λ p. p.position == k) places (e.place ∷ []))

-- it doesn't
pub shown-same : (test : Moment → Bool) (e : Seen) (past : List Seen) (places : List Place3) → test (newest e past) ≡ false → IsShown test past places → IsShown test (e ∷ past) places
shown-same test e past places fails shown = record {
  each = λ k. go k (k == length past + 1) refl;
  own = All-alike (λ p. option_map (λ m. m.event.place) (moment past p.position) ≡ Some p) (λ p. option_map (λ m. m.event.place) (moment (e ∷ past) p.position) ≡ Some p) (own-later e past) places shown.own;
}
  where
    go : (k : ℕ) (b : Bool) → (k == length past + 1) ≡ b → list_any (λ p. p.position == k) places ≡ is_some_and test (cond b (Some (newest e past)) (moment past k))
    go k true at = shown.each k ∙ ap (λ n. is_some_and test (moment past n)) (eqb-true k (length past + 1) at) ∙ ap (is_some_and test) (nothing-next past) ∙ sym fails
    go k false at = shown.each k

-- how many events stand before the one at an index
pub length-before : (seen : List Seen) (i : ℕ) → i < length seen → length (reverse (take i seen)) ≡ i
length-before seen i lt = length-reverse (take i seen) ∙ length-take-le i seen (omega arith)

-- one event more of a list that is read from its front
pub shown-step : (test : Moment → Bool) (seen : List Seen) (i : ℕ) (e : Seen) (passes : Bool) (places new : List Place3) → IsPlaced (reverse seen) → i < length seen → e ≡ get_or seen i e
    → passes ≡ test (newest e (reverse (take i seen))) → new ≡ cond passes (places ++ e.place ∷ []) places
    → IsShown test (reverse (take i seen)) places → IsShown test (reverse (take (i + 1) seen)) new
shown-step test seen i e passes places new placed lt is passed grown shown =
    let past = reverse (take i seen) in
    let front : reverse (take (i + 1) seen) ≡ e ∷ past = newest-first seen i e lt is in
    let spot : IsPlaced (e ∷ past) = subst IsPlaced front (placed-beginning seen (i + 1) placed) in
    subst (λ log. IsShown test log new) (sym front) (go passes passed grown spot.0)
  where
    go : (b : Bool) → b ≡ test (newest e (reverse (take i seen))) → new ≡ cond b (places ++ e.place ∷ []) places → e.place.position ≡ length (reverse (take i seen)) + 1 → IsShown test (e ∷ reverse (take i seen)) new
    go true passed grown at = subst (λ ps. IsShown test (e ∷ reverse (take i seen)) ps) (sym grown) (shown-more test e (reverse (take i seen)) places at (sym passed) shown)
    go false passed grown at = subst (λ ps. IsShown test (e ∷ reverse (take i seen)) ps) (sym grown) (shown-same test e (reverse (take i seen)) places (sym passed) shown)

-- two tests that agree at the moments of the log show the same
pub shown-alike : (one other : Moment → Bool) (past : List Seen) (places : List Place3) → ((k : ℕ) (m : Moment) → moment past k ≡ Some m → one m ≡ other m) → IsShown one past places → IsShown other past places
shown-alike one other past places alike shown = record { each = λ k. shown.each k ∙ go k (moment past k) refl; own = shown.own }
  where
    go : (k : ℕ) (o : Option Moment) → moment past k ≡ o → is_some_and one o ≡ is_some_and other o
    go k None h = refl
    go k (Some m) h = alike k m h
