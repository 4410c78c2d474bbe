-- The send quota and what is in flight add up to the Receive Maximum.
use Rattle.std.proofs.Common.{◌≡◌, ℕ, zero, suc, ◌+◌, ◌-◌, ◌<◌, ◌≤◌, ◌==◌, Bool, true, false, cond, ◌&&◌, not, nat_lt, List, [], ◌∷◌, refl, ◌∙◌, arith}
use Rattle.std.proofs.lemmas.Bool.{eq-eqb, eqb-true, lt-ltb, ltb-true, ltb-false, le-ltb}
use Rattle.mq_rules.specs.Moments.{Moment}
use Rattle.mq_rules.specs.Identifiers.{is_delivery, is_closer, passes}
use Rattle.mq_rules.specs.Counter.{in_flight, quota, keeps_quota}
use Rattle.mq_rules.proofs.Exports.{both_true, passes-counted, same_test}

-- ---- the quota

-- one event more, which sends nothing where the quota is 0
after_one : (d c : Bool) (most left old : ℕ) → not (d && (left == 0)) ≡ true → left + old ≡ most
    → cond d (left - 1) (cond c (cond (nat_lt left most) (left + 1) most) left) + cond d (old + 1) (cond c (old - 1) old) ≡ most
after_one true c most zero old keeps all = absurd (cc)
after_one true c most (suc left) old keeps all = omega arith
after_one false true most left old keeps all = go (nat_lt left most) refl
  where
    go : (b : Bool) → nat_lt left most ≡ b → cond b (left + 1) most + (old - 1) ≡ most
    go true is = let lt : left < most = ltb-true left most is in omega arith
    go false is = let le : most ≤ left = ltb-false left most is in omega arith
after_one false false most left old keeps all = all

-- until a PUBLISH is sent where the quota is 0, it is what the Receive Maximum leaves beside those in flight
pub quota-left : (most : ℕ) (ms : List Moment) → keeps_quota most ms ≡ true → quota most ms + in_flight ms ≡ most
quota-left most [] keeps = omega arith
quota-left most (m ∷ ms) keeps =
    let p = both_true (not (is_delivery m && (quota most ms == 0))) (keeps_quota most ms) keeps in
    after_one (is_delivery m) (is_closer m) most (quota most ms) (in_flight ms) p.0 (quota-left most ms p.1)

-- so the first PUBLISH that passes is the first one that is sent where the quota is 0
pub quota-passes : (most : ℕ) (m : Moment) (ms : List Moment) → keeps_quota most ms ≡ true → passes most (m ∷ ms) ≡ (is_delivery m && (quota most ms == 0))
quota-passes most m ms keeps = passes-counted most (m ∷ ms) ∙ go (is_delivery m) (is_closer m) (quota most ms) (in_flight ms) (quota-left most ms keeps)
  where
    go : (d c : Bool) (left old : ℕ) → left + old ≡ most → nat_lt most (cond d (old + 1) (cond c (old - 1) old)) ≡ (d && (left == 0))
    go true c left old all = same_test (nat_lt most (old + 1)) (left == 0)
        (λ t. let lt : most < old + 1 = ltb-true most (old + 1) t in eq-eqb left 0 (omega arith))
        (λ t. let is : left ≡ 0 = eqb-true left 0 t in lt-ltb most (old + 1) (omega arith))
    go false true left old all = le-ltb most (old - 1) (omega arith)
    go false false left old all = le-ltb most old (omega arith)
