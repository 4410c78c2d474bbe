-- Entries of different identifiers, each for a packet of its own, count no more than those packets.
use Rattle.std.proofs.Common.{◌≡◌, ℕ, ◌+◌, ◌≤◌, arith, nat_eq, Bool, true, false, cond, List, [], ◌∷◌, Option, Some, None, refl, ap, sym, ◌∙◌, inl, inr}
use Rattle.std.specs.List.{IsDistinct, AllByRecursion, sum_by}
use Rattle.std.specs.Map.{keys_of, lookup}
use Rattle.std.proofs.lemmas.Bool.{eqb-true, eq-eqb}
use Rattle.std.proofs.lemmas.Bool.Decides.{nat_tests}
use Rattle.std.proofs.lemmas.List.Sums.{sum_by-cons}
use Rattle.mq_rules.specs.Words.{is_id}
use Rattle.mq_rules.specs.Moments.{Moment, note, Among}
use Rattle.mq_rules.specs.Exchanges.{Exchange}
use Rattle.mq_fates.specs.Holding.{total}

-- what is found is under another identifier
pub apart : {K : Type 0} (k : ℕ) (es : List (ℕ × K)) → AllByRecursion (λ y. nat_eq k y ≡ false) (keys_of es) → (i : ℕ) (v : K) → lookup (nat_eq i) es ≡ Some v → nat_eq k i ≡ false
apart k [] all i v h = absurd (cc)
apart k (e ∷ es) all i v h = go (nat_eq i e.0) refl h (λ rest. apart k es all.1 i v rest)
  where
    go : (b : Bool) → nat_eq i e.0 ≡ b → cond b (Some e.1) (lookup (nat_eq i) es) ≡ Some v → (lookup (nat_eq i) es ≡ Some v → nat_eq k i ≡ false) → nat_eq k i ≡ false
    go true is h rest = ap (nat_eq k) (eqb-true i e.0 is) ∙ all.0
    go false is h rest = rest h

module _ {K : Type 0} (x : Exchange) (size : K → ℕ) where
  -- the identifier of a cause
  abbrev name : Moment → Option ℕ
  name m = x.cause (note m)

  abbrev without : ℕ → (Moment → ℕ) → Moment → ℕ
  without i weigh m = cond (is_id i (name m)) 0 (weigh m)

  fewer : (i : ℕ) (weigh : Moment → ℕ) (ms : List Moment) → total (without i weigh) ms ≤ total weigh ms
  fewer i weigh [] = omega arith
  fewer i weigh (m ∷ ms) = go (is_id i (name m)) (fewer i weigh ms)
    where
      go : (b : Bool) → total (without i weigh) ms ≤ total weigh ms → cond b 0 (weigh m) + total (without i weigh) ms ≤ weigh m + total weigh ms
      go true rest = omega (arith, rest)
      go false rest = omega (arith, rest)

  set-aside : (i : ℕ) (weigh : Moment → ℕ) (ms : List Moment) (j : Moment) → Among j ms → is_id i (name j) ≡ true → weigh j + total (without i weigh) ms ≤ total weigh ms
  set-aside i weigh [] j there is = absurd there
  set-aside i weigh (m ∷ ms) j (inl here) is =
      let first : without i weigh m ≡ 0 = ap (λ b. cond b 0 (weigh m)) (ap (λ m. is_id i (name m)) (sym here) ∙ is) in
      let same : weigh j ≡ weigh m = ap weigh here in
      let rest = fewer i weigh ms in
      omega (arith, first, same, rest)
  set-aside i weigh (m ∷ ms) j (inr there) is = go (is_id i (name m)) (set-aside i weigh ms j there is)
    where
      go : (b : Bool) → weigh j + total (without i weigh) ms ≤ total weigh ms → weigh j + (cond b 0 (weigh m) + total (without i weigh) ms) ≤ weigh m + total weigh ms
      go true rest = omega (arith, rest)
      go false rest = omega (arith, rest)

  other-name : (k i : ℕ) (o : Option ℕ) → nat_eq k i ≡ false → is_id i o ≡ true → is_id k o ≡ false
  other-name k i None other is = absurd (cc)
  other-name k i (Some x) other is = grind (arith, nat_tests)

  -- there is a cause among these that has the identifier, and counts as much
  abbrev pub HasOne : List Moment → (Moment → ℕ) → ℕ → K → Type 0
  HasOne ms weigh i v = (j : Moment) × Among j ms × (is_id i (name j) ≡ true) × (size v ≤ weigh j)

  pub distinct-sum : (es : List (ℕ × K)) → IsDistinct nat_eq (keys_of es) → (ms : List Moment) (weigh : Moment → ℕ) → ((i : ℕ) (v : K) → lookup (nat_eq i) es ≡ Some v → HasOne ms weigh i v) → sum_by (λ e. size e.1) es ≤ total weigh ms
  unfolding IsDistinct
  distinct-sum [] distinct ms weigh each = omega arith
  distinct-sum (e ∷ es) distinct ms weigh each =
      let first = each e.0 e.1 (ap (λ b. cond b (Some e.1) (lookup (nat_eq e.0) es)) (eq-eqb e.0 e.0 refl)) in
      let rest = distinct-sum es distinct.1 ms (without e.0 weigh) others in
      let whole = set-aside e.0 weigh ms first.0 first.1 first.2 in
      let sum = sum_by-cons (λ e. size e.1) e es in
      omega (arith, first.3, rest, whole, sum)
    where
      others : (i : ℕ) (v : K) → lookup (nat_eq i) es ≡ Some v → HasOne ms (without e.0 weigh) i v
      others i v h =
          let other : nat_eq e.0 i ≡ false = apart e.0 es distinct.0 i v h in
          let back : nat_eq i e.0 ≡ false = grind (arith, nat_tests) in
          let w = each i v (ap (λ b. cond b (Some e.1) (lookup (nat_eq i) es)) back ∙ h) in
          let kept : without e.0 weigh w.0 ≡ weigh w.0 = ap (λ b. cond b 0 (weigh w.0)) (other-name e.0 i (name w.0) other w.2) in
          (w.0, w.1, w.2, omega (arith, w.3, kept))
