-- How many Packet Identifiers pass a test, and how many there are under which something is kept.
use Rattle.std.proofs.Common.{◌≡◌, ℕ, zero, suc, ◌+◌, ◌<◌, ◌≤◌, nat_eq, nat_lt, Bool, true, false, cond, ◌&&◌, not, Option, Some, None, is_some, option_map, refl, ap, sym, ◌∙◌, arith}
use Rattle.std.proofs.lemmas.Bool.{eqb-true, eq-eqb, lt-ltb}
use Rattle.std.proofs.lemmas.Bool.Decides.{nat_tests}
use Rattle.mq_rules.specs.declared.by_identifier.ByIdentifier.{ByIdentifier}
use Rattle.mq_rules.specs.ByIdentifier.{kept}
use Rattle.mq_rules.specs.IdentifierCounts.{count_below, ids_where}
use Rattle.mq_rules.specs.KeptOrder.{ids_kept, value_under}

abbrev one_if : Bool → ℕ
one_if b = cond b 1 0

-- tests that say the same below n
count-same : (p q : ℕ → Bool) (n : ℕ) → ((i : ℕ) → i < n → p i ≡ q i) → count_below p n ≡ count_below q n
unfolding count_below
count-same p q zero same = refl
count-same p q (suc n) same =
    let here = ap one_if (same n (omega arith)) in
    let rest = count-same p q n (λ i lt. same i (omega (arith, lt))) in
    omega (arith, here, rest)

-- tests that differ at one number
count-changed : (old new : ℕ → Bool) (j n : ℕ) → j < n → ((i : ℕ) → nat_eq j i ≡ false → new i ≡ old i) → cond (old j) 1 0 + count_below new n ≡ cond (new j) 1 0 + count_below old n
unfolding count_below
count-changed old new j zero lt rest = absurd (omega (arith, lt))
count-changed old new j (suc n) lt rest = go (nat_eq j n) refl (λ below. count-changed old new j n below rest)
  where
    go : (b : Bool) → nat_eq j n ≡ b → (j < n → cond (old j) 1 0 + count_below new n ≡ cond (new j) 1 0 + count_below old n)
        → cond (old j) 1 0 + (cond (new n) 1 0 + count_below new n) ≡ cond (new j) 1 0 + (cond (old n) 1 0 + count_below old n)
    go true at further =
        let same : j ≡ n = eqb-true j n at in
        let before : count_below new n ≡ count_below old n = count-same new old n (λ i below. rest i (grind (arith, nat_tests))) in
        let first = ap (λ i. one_if (old i)) same in
        let second = ap (λ i. one_if (new i)) same in
        omega (arith, before, first, second)
    go false at further =
        let here = ap one_if (rest n at) in
        let before = further (grind (arith, nat_tests)) in
        omega (arith, here, before)

count-most : (p : ℕ → Bool) (n : ℕ) → count_below p n ≤ n
unfolding count_below
count-most p zero = omega arith
count-most p (suc n) = go (p n) (count-most p n)
  where
    go : (b : Bool) → count_below p n ≤ n → cond b 1 0 + count_below p n ≤ suc n
    go true h = omega (arith, h)
    go false h = omega (arith, h)

count-none : (p : ℕ → Bool) (n : ℕ) → ((i : ℕ) → p i ≡ false) → count_below p n ≡ 0
unfolding count_below
count-none p zero none = refl
count-none p (suc n) none = let here = ap one_if (none n) in let rest = count-none p n none in omega (arith, here, rest)

none-counted : (p : ℕ → Bool) (n i : ℕ) → count_below p n ≡ 0 → i < n → p i ≡ false
unfolding count_below
none-counted p zero i none lt = absurd (omega (arith, lt))
none-counted p (suc n) i none lt = go (p n) refl none (nat_eq i n) refl (λ rest below. none-counted p n i rest below)
  where
    go : (b : Bool) → p n ≡ b → cond b 1 0 + count_below p n ≡ 0 → (e : Bool) → nat_eq i n ≡ e → (count_below p n ≡ 0 → i < n → p i ≡ false) → p i ≡ false
    go true passes h e at further = absurd (omega (arith, h))
    go false passes h true at further = ap p (eqb-true i n at) ∙ passes
    go false passes h false at further = further (omega (arith, h)) (grind (arith, nat_tests))

-- ---- of Packet Identifiers

pub ids-same : (p q : ℕ → Bool) → ((i : ℕ) → p i ≡ q i) → ids_where p ≡ ids_where q
unfolding ids_where
ids-same p q same = count-same p q 65536 (λ i lt. same i)

pub ids-most : (p : ℕ → Bool) → ids_where p ≤ 65536
unfolding ids_where
ids-most p = count-most p 65536

pub ids-none : (p : ℕ → Bool) → ((i : ℕ) → p i ≡ false) → ids_where p ≡ 0
unfolding ids_where
ids-none p none = count-none p 65536 none

-- one of them apart from the others
pub ids-but : (p : ℕ → Bool) (j : ℕ) → j < 65536 → ids_where p ≡ cond (p j) 1 0 + ids_where (λ i. not (nat_eq j i) && p i)
unfolding ids_where
ids-but p j lt =
    let own = ap (λ b. one_if (not b && p j)) (eq-eqb j j refl) in
    let changed = count-changed (λ i. not (nat_eq j i) && p i) p j 65536 lt (λ i other. sym (ap (λ b. not b && p i) other)) in
    omega (arith, own, changed)

-- one that passes is counted
pub ids-some : (p : ℕ → Bool) (i : ℕ) → i < 65536 → p i ≡ true → nat_lt 0 (ids_where p) ≡ true
ids-some p i lt passes = let but = ids-but p i lt in let own = ap one_if passes in grind (arith, nat_tests)

-- what is counted are some that pass
some-below : (p : ℕ → Bool) (n : ℕ) → 0 < count_below p n → (i : ℕ) × (p i ≡ true)
unfolding count_below
some-below p zero more = absurd (omega (arith, more))
some-below p (suc n) more = go (p n) refl more (some-below p n)
  where
    go : (b : Bool) → p n ≡ b → 0 < cond b 1 0 + count_below p n → (0 < count_below p n → (i : ℕ) × (p i ≡ true)) → (i : ℕ) × (p i ≡ true)
    go true passes more rest = (n, passes)
    go false passes more rest = rest (omega (arith, more))

pub some-id : (p : ℕ → Bool) → nat_lt 0 (ids_where p) ≡ true → (i : ℕ) × (p i ≡ true)
unfolding ids_where
some-id p more = let lt : 0 < count_below p 65536 = grind (arith, nat_tests) in some-below p 65536 lt

-- ---- of those under which something is kept

module _ {T : Type 0} where
  pub under-kept : (table : ByIdentifier T) (i : ℕ) → i < 65536 → value_under table i ≡ kept table i
  unfolding value_under
  under-kept table i lt = ap (λ b. cond b (kept table i) None) (lt-ltb i 65536 lt)

  pub under-within : (table : ByIdentifier T) (i : ℕ) → is_some (value_under table i) ≡ true → i < 65536
  unfolding value_under
  under-within table i some = go (nat_lt i 65536) refl some
    where
      go : (b : Bool) → nat_lt i 65536 ≡ b → is_some (cond b (kept table i) None) ≡ true → i < 65536
      go true below some = grind (arith, nat_tests)
      go false over some = absurd (cc)

  pub under-nothing : (table : ByIdentifier T) (i : ℕ) → kept table i ≡ None → value_under table i ≡ None
  unfolding value_under
  under-nothing table i none = go (nat_lt i 65536)
    where
      go : (b : Bool) → cond b (kept table i) None ≡ None
      go true = none
      go false = refl

  pub under-past : (table : ByIdentifier T) (i : ℕ) → 65536 ≤ i → value_under table i ≡ None
  unfolding value_under
  under-past table i over = let past : nat_lt i 65536 ≡ false = grind (arith, nat_tests) in ap (λ b. cond b (kept table i) None) past

  pub under-same : (old new : ByIdentifier T) → ((i : ℕ) → kept new i ≡ kept old i) → (i : ℕ) → value_under new i ≡ value_under old i
  unfolding value_under
  under-same old new same i = ap (λ o. cond (nat_lt i 65536) o None) (same i)

  -- what is kept is changed under one identifier
  pub under-changed : (old new : ByIdentifier T) (j : ℕ) (next : Option T → Option T) → j < 65536 → ((i : ℕ) → kept new i ≡ cond (nat_eq j i) (next (kept old i)) (kept old i))
      → (i : ℕ) → value_under new i ≡ cond (nat_eq j i) (next (value_under old i)) (value_under old i)
  unfolding value_under
  under-changed old new j next lt changed i = go (nat_lt i 65536) refl
    where
      go : (b : Bool) → nat_lt i 65536 ≡ b → cond b (kept new i) None ≡ cond (nat_eq j i) (next (cond b (kept old i) None)) (cond b (kept old i) None)
      go true below = changed i
      go false over = let other : nat_eq j i ≡ false = grind (arith, nat_tests) in sym (ap (λ b. cond b (next None) None) other)

  pub counted-none : (table : ByIdentifier T) → ((i : ℕ) → value_under table i ≡ None) → 0 ≡ ids_kept table
  unfolding ids_where
  counted-none table none = sym (count-none (λ i. is_some (value_under table i)) 65536 (λ i. ap (is_some {T = T}) (none i)))

  pub none-kept : (table : ByIdentifier T) → 0 ≡ ids_kept table → (i : ℕ) → value_under table i ≡ None
  unfolding ids_where
  none-kept table none i = go (nat_lt i 65536) refl
    where
      nothing : (o : Option T) → is_some o ≡ false → o ≡ None
      nothing None h = refl
      nothing (Some v) h = absurd (cc)

      go : (b : Bool) → nat_lt i 65536 ≡ b → value_under table i ≡ None
      go true below = nothing (value_under table i) (none-counted (λ j. is_some (value_under table j)) 65536 i (sym none) (grind (arith, nat_tests)))
      go false over = under-past table i (grind (arith, nat_tests))

  counted-changed : (old new : ByIdentifier T) (before after j : ℕ) → j < 65536 → before ≡ ids_kept old → ((i : ℕ) → nat_eq j i ≡ false → value_under new i ≡ value_under old i)
      → cond (is_some (value_under old j)) 1 0 + after ≡ cond (is_some (value_under new j)) 1 0 + before → after ≡ ids_kept new
  unfolding ids_where
  counted-changed old new before after j lt was others sizes =
      let changed = count-changed (λ i. is_some (value_under old i)) (λ i. is_some (value_under new i)) j 65536 lt (λ i other. ap (is_some {T = T}) (others i other)) in
      omega (arith, changed, sizes, was)

  -- a value is put under an identifier
  pub counted-insert : (old new : ByIdentifier T) (before after j : ℕ) (v : T) (had : Bool) → j < 65536 → before ≡ ids_kept old → had ≡ is_some (value_under old j) → ((i : ℕ) → value_under new i ≡ cond (nat_eq j i) (Some v) (value_under old i))
      → cond had 1 0 + after ≡ 1 + before → after ≡ ids_kept new
  counted-insert old new before after j v had lt c was put sizes =
      let now : is_some (value_under new j) ≡ true = ap (is_some {T = T}) (put j ∙ ap (λ b. cond b (Some v) (value_under old j)) (eq-eqb j j refl)) in
      let first = ap one_if was in
      let second = ap one_if now in
      counted-changed old new before after j lt c (λ i other. put i ∙ ap (λ b. cond b (Some v) (value_under old i)) other) (omega (arith, first, second, sizes))

  -- what is there is replaced
  pub under-replaced : (old new : ByIdentifier T) (j : ℕ) (v : T) → j < 65536 → is_some (kept old j) ≡ true → ((i : ℕ) → kept new i ≡ cond (nat_eq j i) (Some v) (kept old i))
      → (i : ℕ) → value_under new i ≡ cond (nat_eq j i) (option_map (λ _. v) (value_under old i)) (value_under old i)
  under-replaced old new j v lt there put = under-changed old new j (option_map (λ _. v)) lt (λ i. put i ∙ go i (nat_eq j i) refl)
    where
      some : (o : Option T) → is_some o ≡ true → Some v ≡ option_map (λ _. v) o
      some None h = absurd (cc)
      some (Some w) h = refl

      go : (i : ℕ) (b : Bool) → nat_eq j i ≡ b → cond b (Some v) (kept old i) ≡ cond b (option_map (λ _. v) (kept old i)) (kept old i)
      go i true at = some (kept old i) (ap (λ n. is_some (kept old n)) (sym (eqb-true j i at)) ∙ there)
      go i false at = refl

  -- nothing is there that could be
  pub under-absent : (table : ByIdentifier T) (j : ℕ) (v : T) → is_some (kept table j) ≡ false → (i : ℕ) → value_under table i ≡ cond (nat_eq j i) (option_map (λ _. v) (value_under table i)) (value_under table i)
  unfolding value_under
  under-absent table j v none i = go (nat_eq j i) refl
    where
      nothing : (o : Option T) → is_some o ≡ false → o ≡ None
      nothing None h = refl
      nothing (Some v) h = absurd (cc)

      go : (b : Bool) → nat_eq j i ≡ b → value_under table i ≡ cond b (option_map (λ _. v) (value_under table i)) (value_under table i)
      go false at = refl
      go true at =
          let empty : value_under table i ≡ None = under-nothing table i (ap (kept table) (sym (eqb-true j i at)) ∙ nothing (kept table j) none) in
          empty ∙ sym (ap (option_map (λ _. v)) empty)

  pub counted-replace : (old new : ByIdentifier T) (before j : ℕ) (v : T) → before ≡ ids_kept old → ((i : ℕ) → value_under new i ≡ cond (nat_eq j i) (option_map (λ _. v) (value_under old i)) (value_under old i)) → before ≡ ids_kept new
  counted-replace old new before j v c put = c ∙ ids-same (λ i. is_some (value_under old i)) (λ i. is_some (value_under new i)) (λ i. sym (ap (is_some {T = T}) (put i) ∙ go (nat_eq j i) (value_under old i)))
    where
      go : (b : Bool) (o : Option T) → is_some (cond b (option_map (λ _. v) o) o) ≡ is_some o
      go true None = refl
      go true (Some w) = refl
      go false o = refl

  -- what is there is counted
  pub counted-there : (table : ByIdentifier T) (count j : ℕ) (found : Option T) (some : Bool) → j < 65536 → count ≡ ids_kept table → some ≡ is_some found → found ≡ value_under table j → cond some 1 0 ≤ count
  counted-there table count j found some lt c is from =
      let but = ids-but (λ i. is_some (value_under table i)) j lt in
      let own = ap one_if (is ∙ ap (is_some {T = T}) from) in
      omega (arith, but, own, c)

  -- it is taken out
  pub counted-remove : (old new : ByIdentifier T) (before after j : ℕ) (found : Option T) (some : Bool) → j < 65536 → before ≡ ids_kept old → some ≡ is_some found → found ≡ value_under old j
      → ((i : ℕ) → value_under new i ≡ cond (nat_eq j i) None (value_under old i)) → cond some 1 0 + after ≡ before → after ≡ ids_kept new
  counted-remove old new before after j found some lt c is from out sizes =
      let now : is_some (value_under new j) ≡ false = ap (is_some {T = T}) (out j ∙ ap (λ b. cond b None (value_under old j)) (eq-eqb j j refl)) in
      let first = ap one_if (is ∙ ap (is_some {T = T}) from) in
      let second = ap one_if now in
      counted-changed old new before after j lt c (λ i other. out i ∙ ap (λ b. cond b None (value_under old i)) other) (omega (arith, first, second, sizes))

  -- others are kept if more is counted than what is kept under one
  pub counted-others : (table : ByIdentifier T) (count own j : ℕ) → j < 65536 → count ≡ ids_kept table → own ≡ cond (is_some (value_under table j)) 1 0
      → nat_lt own count ≡ nat_lt 0 (ids_where (λ i. not (nat_eq j i) && is_some (value_under table i)))
  counted-others table count own j lt c is =
      let but = ids-but (λ i. is_some (value_under table i)) j lt in
      grind (arith, nat_tests)
