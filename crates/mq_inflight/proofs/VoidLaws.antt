-- What was sent, or cut off, on void connections, under a fate: for S02.
use Rattle.std.proofs.Common.{◌≡◌, ℕ, ◌+◌, ◌≤◌, ◌==◌, arith, Bool, true, false, cond, ◌&&◌, ◌||◌, List, [], ◌∷◌, Option, Some, None, refl, ap, sym, ◌∙◌, inl, inr}
use Rattle.std.specs.Option.{option_or}
use Rattle.std.proofs.lemmas.Bool.{eqb-true, eq-eqb}
use Rattle.mq_rules.specs.declared.role.Role.{Role}
use Rattle.mq_rules.specs.declared.role.Tested.{Tested}
use Rattle.mq_rules.specs.declared.fate.Fate.{Fate}
use Rattle.mq_rules.specs.declared.fate.Fate.TheVariants.{Void, Adrift, New, Forgotten, Resumed, Unasked, Unknown}
use Rattle.mq_rules.specs.declared.note.Seen.{Seen}
use Rattle.mq_rules.specs.Notes.{is_open}
use Rattle.mq_rules.specs.Moments.{Moment, newest, moments, some, Among}
use Rattle.mq_rules.specs.Connections.{begun, number, fate, fate_under, latest_fate, accepts, voided, gives_fate, is_void}
use Rattle.mq_rules.specs.Identifiers.{delivers, was_sent_on_void}
use Rattle.mq_rules.proofs.Exports.{begun-closed, begun-open-of-given as begun-open, differ, fate-step, latest_fate-same, option_or-none}
use Rattle.mq_rules.specs.Under.{IsUnder, fate_before}
use Rattle.mq_inflight.specs.Using.{void_sent}
use Rattle.mq_fates.proofs.Exports.{numbers}

pub some-same : (p q : Moment → Bool) (ms : List Moment) → ((m : Moment) → Among m ms → p m ≡ q m) → some p ms ≡ some q ms
some-same p q [] h = refl
some-same p q (m ∷ ms) h = ap (λ b. b || some p ms) (h m (inl refl)) ∙ ap (λ b. q m || b) (some-same p q ms (λ n a. h n (inr a)))

going : (role : Role) (c : ℕ) (f : Fate) (e : Seen) (past : List Seen) → is_open e.note ≡ false → fate_under role (Some f) (e ∷ past) c ≡ fate_under role (Some f) past c
going role c f e past closed = ap (λ n. cond (c == n) (Some f) (fate role c (e ∷ past))) same ∙ go (c == begun past) refl
  where
    same : begun (e ∷ past) ≡ begun past
    same = begun-closed e past closed

    go : (b : Bool) → (c == begun past) ≡ b → cond b (Some f) (fate role c (e ∷ past)) ≡ cond b (Some f) (fate role c past)
    go true t = refl
    go false t =
        fate-step role c e past
        ∙ ap (λ n. option_or (fate role c past) (cond (n == c) (gives_fate role (newest e past)) None)) same
        ∙ ap (λ b. option_or (fate role c past) (cond b (gives_fate role (newest e past)) None)) (differ (begun past) c (λ is. let bad : (c == begun past) ≡ true = eq-eqb c (begun past) (sym is) in absurd (cc)))
        ∙ option_or-none (fate role c past)

opened : (role : Role) (c : ℕ) (f : Fate) (e : Seen) (past : List Seen) → is_open e.note ≡ true → c ≤ begun past → fate_under role (Some f) (e ∷ past) c ≡ fate_under role (latest_fate role past) past c
opened role c f e past opens le =
    let more : begun (e ∷ past) ≡ 1 + begun past = begun-open e past opens in
    ap (λ b. cond b (Some f) (fate role c (e ∷ past))) (differ c (begun (e ∷ past)) (λ is. omega arith))
    ∙ fate-step role c e past
    ∙ ap (λ b. option_or (fate role c past) (cond b (gives_fate role (newest e past)) None)) (differ (begun (e ∷ past)) c (λ is. omega arith))
    ∙ option_or-none (fate role c past)
    ∙ go (c == begun past) refl
  where
    go : (b : Bool) → (c == begun past) ≡ b → fate role c past ≡ cond b (latest_fate role past) (fate role c past)
    go true t = ap (λ n. fate role n past) (eqb-true c (begun past) t)
    go false t = refl

-- what passes a test on a void connection, where the latest one is taken to have this fate
abbrev pub on_void : (Moment → Bool) → Role → Option Fate → List Seen → Bool
on_void test role taken past = some (λ j. test j && voided (fate_under role taken past (number j))) (moments past)

-- the state, with one event more
pub on_void-next : (tested : Tested) (test : Moment → Bool) (f : Fate) (e : Seen) (past : List Seen)
    → on_void test tested.role (Some f) (e ∷ past) ≡ ((test (newest e past) && is_void f) || on_void test tested.role (fate_before tested f e past) past)
on_void-next tested test f e past =
    ap (λ b. (test (newest e past) && voided (cond b (Some f) (fate tested.role (begun (e ∷ past)) (e ∷ past)))) || some (λ j. test j && voided (fate_under tested.role (Some f) (e ∷ past) (number j))) (moments past))
    (eq-eqb (begun (e ∷ past)) (begun (e ∷ past)) refl)
    ∙ ap (λ b. (test (newest e past) && is_void f) || b) (go (is_open e.note) refl)
  where
    go : (b : Bool) → is_open e.note ≡ b → some (λ j. test j && voided (fate_under tested.role (Some f) (e ∷ past) (number j))) (moments past) ≡ on_void test tested.role (cond b (latest_fate tested.role past) (Some f)) past
    go true h = some-same (λ j. test j && voided (fate_under tested.role (Some f) (e ∷ past) (number j))) (λ j. test j && voided (fate_under tested.role (latest_fate tested.role past) past (number j))) (moments past)
        (λ m a. ap (λ o. test m && voided o) (opened tested.role (number m) f e past h (numbers past m a)))
    go false h = some-same (λ j. test j && voided (fate_under tested.role (Some f) (e ∷ past) (number j))) (λ j. test j && voided (fate_under tested.role (Some f) past (number j))) (moments past)
        (λ m a. ap (λ o. test m && voided o) (going tested.role (number m) f e past h))

pub void_sent-next : (tested : Tested) (i : ℕ) (f : Fate) (e : Seen) (past : List Seen)
    → void_sent tested.role i (Some f) (e ∷ past) ≡ ((delivers i (newest e past) && is_void f) || void_sent tested.role i (fate_before tested f e past) past)
void_sent-next tested i f e past = on_void-next tested (delivers i) f e past

-- what is accepted isn't void
pub accepted-unvoided : (f : Fate) → accepts f ≡ true → is_void f ≡ false
accepted-unvoided Void h = absurd (cc)
accepted-unvoided Adrift h = absurd (cc)
accepted-unvoided New h = refl
accepted-unvoided Forgotten h = refl
accepted-unvoided Resumed h = refl
accepted-unvoided Unasked h = refl
accepted-unvoided Unknown h = absurd (cc)

-- what the statement reads, at an event of an accepted connection
pub on_void-read : (tested : Tested) (test : Moment → Bool) (f : Fate) (at : ℕ) (e : Seen) (past : List Seen) → IsUnder tested f at e past → is_open e.note ≡ false → accepts f ≡ true
    → some (λ j. test j && voided (fate tested.role (number j) past)) (moments past) ≡ on_void test tested.role (Some f) past
on_void-read tested test f at e past under closed accepted = some-same (λ j. test j && voided (fate tested.role (number j) past)) (λ j. test j && voided (fate_under tested.role (Some f) past (number j))) (moments past)
    (λ m a. ap (λ b. test m && b) (go (number m) (number m == begun past) refl (latest_fate tested.role past) refl))
  where
    go : (c : ℕ) (b : Bool) → (c == begun past) ≡ b → (o : Option Fate) → latest_fate tested.role past ≡ o → voided (fate tested.role c past) ≡ voided (cond b (Some f) (fate tested.role c past))
    go c false t o is = refl
    go c true t None is = ap (λ n. voided (fate tested.role n past)) (eqb-true c (begun past) t) ∙ ap voided is ∙ sym (accepted-unvoided f accepted)
    go c true t (Some g) is =
        let now : latest_fate tested.role (e ∷ past) ≡ Some g = latest_fate-same tested.role e past closed ∙ ap (λ o. option_or o (gives_fate tested.role (newest e past))) is in
        ap (λ n. voided (fate tested.role n past)) (eqb-true c (begun past) t) ∙ ap voided is ∙ ap is_void (under.fits g now).0

pub void_sent-read : (tested : Tested) (i : ℕ) (f : Fate) (at : ℕ) (e : Seen) (past : List Seen) → IsUnder tested f at e past → is_open e.note ≡ false → accepts f ≡ true
    → was_sent_on_void tested.role i (newest e past) ≡ void_sent tested.role i (Some f) past
void_sent-read tested i f at e past under closed accepted = on_void-read tested (delivers i) f at e past under closed accepted
