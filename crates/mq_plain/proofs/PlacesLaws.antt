-- The places of the moments that pass a test, found from the newest to the oldest.
use Rattle.std.proofs.Common.{◌≡◌, ℕ, ◌+◌, ◌<◌, ◌≤◌, ◌==◌, Bool, true, false, cond, ◌&&◌, ◌||◌, nat_lt, List, [], ◌∷◌, ◌++◌, length, Some, None, refl, ap, sym, ◌∙◌, subst, arith}
use Rattle.std.specs.Prelude.{All, option_map}
use Rattle.std.specs.List.{list_any}
use Rattle.std.proofs.lemmas.Bool.{eqb-true, eq-eqb, lt-ltb, ltb-true, le-ltb, ltb-false}
use Rattle.std.proofs.lemmas.List.Folds.{list_any-append}
use Rattle.std.proofs.lemmas.List.Elements.{All-push, All-nil}
use Rattle.mq_log.specs.declared.place.Place3.{Place3}
use Rattle.mq_rules.specs.declared.note.Seen.{Seen}
use Rattle.mq_rules.specs.Words.{is_some_and}
use Rattle.mq_rules.specs.Moments.{Moment, newest, moment}
use Rattle.mq_rules.proofs.Exports.{and_false, or_false, same_test, differ}
use Rattle.mq_plain.specs.Shown.{IsShown}

-- The places are those of the moments after this position that fit.
pub record IsGiven (fits : ℕ → Bool) (past : List Seen) (least : ℕ) (places : List Place3) : Type 0 where
  pub each : (k : ℕ) → list_any (λ p. p.position == k) places ≡ (nat_lt least k && fits k)
  pub own : All (λ p. option_map (λ m. m.event.place) (moment past p.position) ≡ Some p) places

moment-beyond : (log : List Seen) (k : ℕ) → length log < k → moment log k ≡ None
moment-beyond [] k h = refl
moment-beyond (e ∷ past) k h =
    let lt : length past < k = omega arith in
    ap (λ b. cond b (Some (newest e past)) (moment past k)) (differ k (length past + 1) (λ is. omega arith)) ∙ moment-beyond past k lt

pub moment-zero : (log : List Seen) → moment log 0 ≡ None
moment-zero [] = refl
moment-zero (e ∷ past) = ap (λ b. cond b (Some (newest e past)) (moment past 0)) (differ 0 (length past + 1) (λ is. omega arith)) ∙ moment-zero past

pub given-start : (test : Moment → Bool) (past : List Seen) → IsGiven (λ k. is_some_and test (moment past k)) past (length past) []
given-start test past = record { each = λ k. go k (nat_lt (length past) k) refl; own = All-nil (λ p. option_map (λ m. m.event.place) (moment past p.position) ≡ Some p) }
  where
    go : (k : ℕ) (b : Bool) → nat_lt (length past) k ≡ b → false ≡ (nat_lt (length past) k && is_some_and test (moment past k))
    go k true is = sym (ap (λ o. nat_lt (length past) k && is_some_and test o) (moment-beyond past k (ltb-true (length past) k is)) ∙ and_false (nat_lt (length past) k))
    go k false is = sym (ap (λ b. b && is_some_and test (moment past k)) is)

pub given-step : (fits : ℕ → Bool) (past : List Seen) (e : Seen) (rest : List Seen) (places new : List Place3) (due : Bool) → moment past (length rest + 1) ≡ Some (newest e rest)
    → e.place.position ≡ length rest + 1 → fits (length rest + 1) ≡ due → new ≡ cond due (places ++ e.place ∷ []) places
    → IsGiven fits past (length (e ∷ rest)) places → IsGiven fits past (length rest) new
given-step fits past e rest places new due there placed fit now was =
    subst (IsGiven fits past (length rest)) (sym now) (record { each = λ k. pushed k due ∙ ap (λ b. b || (due && (e.place.position == k))) (was.each k) ∙ at k (k == length rest + 1) refl; own = owned due })
  where
    Owned : Place3 → Type 0
    Owned p = option_map (λ (m : Moment). m.event.place) (moment past p.position) ≡ Some p

    pushed : (k : ℕ) (b : Bool) → list_any (λ p. p.position == k) (cond b (places ++ e.place ∷ []) places) ≡ (list_any (λ p. p.position == k) places || (b && (e.place.position == k)))
    pushed k true = list_any-append (λ p. p.position == k) places (e.place ∷ []) ∙ ap (λ b. list_any (λ p. p.position == k) places || b) (or_false (e.place.position == k))
    pushed k false = sym (or_false (list_any (λ p. p.position == k) places))

    beside : (x f d : Bool) → ((x && f) || (d && false)) ≡ (x && f)
    beside x f d = ap (λ b. (x && f) || b) (and_false d) ∙ or_false (x && f)

    same : (d : Bool) → (d && true) ≡ d
    same true = refl
    same false = refl

    at : (k : ℕ) (b : Bool) → (k == length rest + 1) ≡ b
        → ((nat_lt (length (e ∷ rest)) k && fits k) || (due && (e.place.position == k))) ≡ (nat_lt (length rest) k && fits k)
    at k true is =
        let spot = eqb-true k (length rest + 1) is in
        let first : nat_lt (length (e ∷ rest)) k ≡ false = le-ltb (length (e ∷ rest)) k (omega arith) in
        let second : nat_lt (length rest) k ≡ true = lt-ltb (length rest) k (omega arith) in
        let its : (e.place.position == k) ≡ true = eq-eqb e.place.position k (placed ∙ sym spot) in
        ap (λ b. (b && fits k) || (due && (e.place.position == k))) first ∙ ap (λ b. due && b) its ∙ same due
        ∙ sym (ap (λ b. b && fits k) second ∙ ap fits spot ∙ fit)
    at k false is =
        let other : k ≡ length rest + 1 → ⊥ = λ same. absurd (let yes : (k == length rest + 1) ≡ true = eq-eqb k (length rest + 1) same in cc) in
        let its : (e.place.position == k) ≡ false = differ e.place.position k (λ same. other (sym same ∙ placed)) in
        let less : nat_lt (length (e ∷ rest)) k ≡ nat_lt (length rest) k = same_test (nat_lt (length (e ∷ rest)) k) (nat_lt (length rest) k)
        (λ t. let lt : length (e ∷ rest) < k = ltb-true (length (e ∷ rest)) k t in lt-ltb (length rest) k (omega arith))
        (λ t. let lt : length rest < k = ltb-true (length rest) k t in lt-ltb (length (e ∷ rest)) k (omega (arith, lt, other))) in
        ap (λ b. (nat_lt (length (e ∷ rest)) k && fits k) || (due && b)) its ∙ beside (nat_lt (length (e ∷ rest)) k) (fits k) due ∙ ap (λ b. b && fits k) less

    owned : (b : Bool) → All (λ p. option_map (λ m. m.event.place) (moment past p.position) ≡ Some p) (cond b (places ++ e.place ∷ []) places)
    owned true = All-push (λ p. option_map (λ m. m.event.place) (moment past p.position) ≡ Some p) places e.place was.own
        (ap (λ n. option_map (λ (m : Moment). m.event.place) (moment past n)) placed ∙ ap (option_map (λ (m : Moment). m.event.place)) there)
    owned false = was.own

-- where no moment up to there fits
pub given-shown : (test : Moment → Bool) (past : List Seen) (least : ℕ) (places : List Place3) → ((k : ℕ) → k ≤ least → is_some_and test (moment past k) ≡ false)
    → IsGiven (λ k. is_some_and test (moment past k)) past least places → IsShown test past places
given-shown test past least places none given = record { each = λ k. given.each k ∙ go k (nat_lt least k) refl; own = given.own }
  where
    go : (k : ℕ) (b : Bool) → nat_lt least k ≡ b → (nat_lt least k && is_some_and test (moment past k)) ≡ is_some_and test (moment past k)
    go k true is = ap (λ b. b && is_some_and test (moment past k)) is
    go k false is =
        let le : k ≤ least = ltb-false least k is in
        ap (λ b. b && is_some_and test (moment past k)) is ∙ sym (none k le)
