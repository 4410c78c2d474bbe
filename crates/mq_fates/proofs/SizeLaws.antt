-- A collection of identifiers is no larger than the number of those that pass a test, if each of its identifiers does.
use Rattle.std.proofs.Common.{◌≡◌, ℕ, zero, suc, ◌+◌, ◌<◌, ◌≤◌, ◌==◌, arith, nat_eq, Bool, true, false, cond, ◌||◌, List, [], ◌∷◌, length, get_or, refl, ap, sym, ◌∙◌}
use Rattle.std.specs.List.{IsDistinct, AllByRecursion, list_any}
use Rattle.std.proofs.lemmas.Bool.{eqb-true}
use Rattle.std.proofs.lemmas.Bool.Decides.{nat_tests}
use Rattle.std.proofs.lemmas.Cmp.{nat_eq_equiv}
use Rattle.std.proofs.lemmas.Map.Made.{length-le_from_is_member}
use Rattle.mq_rules.specs.IdentifierCounts.{count_below, ids_where}

-- the numbers below n that pass a test
abbrev those_below : (ℕ → Bool) → ℕ → List ℕ
those_below test zero = []
those_below test (suc n) = cond (test n) (n ∷ those_below test n) (those_below test n)

those-length : (test : ℕ → Bool) (n : ℕ) → length (those_below test n) ≡ count_below test n
unfolding count_below
those-length test zero = refl
those-length test (suc n) = go (test n) (those-length test n)
  where
    go : (b : Bool) → length (those_below test n) ≡ count_below test n → length (cond b (n ∷ those_below test n) (those_below test n)) ≡ cond b 1 0 + count_below test n
    go true h = omega (arith, h)
    go false h = omega (arith, h)

those-have : (test : ℕ → Bool) (n i : ℕ) → i < n → test i ≡ true → list_any (nat_eq i) (those_below test n) ≡ true
those-have test zero i lt passes = absurd (omega (arith, lt))
those-have test (suc n) i lt passes = go (test n) refl (i == n) refl (λ below. those-have test n i below passes)
  where
    go : (b : Bool) → test n ≡ b → (e : Bool) → (i == n) ≡ e → (i < n → list_any (nat_eq i) (those_below test n) ≡ true) → list_any (nat_eq i) (cond b (n ∷ those_below test n) (those_below test n)) ≡ true
    go true t true e rest = ap (λ x. x || list_any (nat_eq i) (those_below test n)) e
    go true t false e rest = ap (λ x. x || list_any (nat_eq i) (those_below test n)) e ∙ rest (grind (arith, nat_tests))
    go false t true e rest = let same : i ≡ n = eqb-true i n e in absurd (let bad : true ≡ false = sym passes ∙ ap test same ∙ t in cc)
    go false t false e rest = rest (grind (arith, nat_tests))

-- numbers of two bytes
small : (xs : List ℕ) → ((k : ℕ) → get_or xs k 0 < 65536) → (i : ℕ) → list_any (nat_eq i) xs ≡ true → i < 65536
small [] fits i here = absurd (cc)
small (x ∷ xs) fits i here = go (i == x) refl here (λ rest. small xs (λ k. fits (suc k)) i rest)
  where
    go : (b : Bool) → (i == x) ≡ b → (b || list_any (nat_eq i) xs) ≡ true → (list_any (nat_eq i) xs ≡ true → i < 65536) → i < 65536
    go true e h rest = let same : i ≡ x = eqb-true i x e in let first : x < 65536 = fits 0 in omega (arith, same, first)
    go false e h rest = rest h

-- identifiers that all differ are no more than those that pass a test which each of them passes
pub distinct-passing : (xs : List ℕ) (test : ℕ → Bool) → IsDistinct nat_eq xs → ((i : ℕ) → list_any (nat_eq i) xs ≡ true → i < 65536) → ((i : ℕ) → list_any (nat_eq i) xs ≡ true → test i ≡ true) → length xs ≤ ids_where test
unfolding ids_where
distinct-passing xs test distinct fits passes =
    let le : length xs ≤ length (those_below test 65536) = length-le_from_is_member nat_eq_equiv xs (those_below test 65536) distinct (λ i here. those-have test 65536 i (fits i here) (passes i here)) in
    let same : length (those_below test 65536) ≡ count_below test 65536 = those-length test 65536 in
    omega (arith, le, same)

pub distinct-within : (xs : List ℕ) (test : ℕ → Bool) → IsDistinct nat_eq xs → ((k : ℕ) → get_or xs k 0 < 65536) → ((i : ℕ) → list_any (nat_eq i) xs ≡ true → test i ≡ true) → length xs ≤ ids_where test
distinct-within xs test distinct fits passes = distinct-passing xs test distinct (λ i here. small xs fits i here) passes

-- a test that each passes which passes another
count-more : (p q : ℕ → Bool) (n : ℕ) → ((i : ℕ) → p i ≡ true → q i ≡ true) → count_below p n ≤ count_below q n
unfolding count_below
count-more p q zero h = omega arith
count-more p q (suc n) h = go (p n) refl (q n) refl (count-more p q n h)
  where
    go : (a : Bool) → p n ≡ a → (b : Bool) → q n ≡ b → count_below p n ≤ count_below q n → cond a 1 0 + count_below p n ≤ cond b 1 0 + count_below q n
    go true u true v rest = omega (arith, rest)
    go true u false v rest = absurd (let bad : true ≡ false = sym (h n u) ∙ v in cc)
    go false u true v rest = omega (arith, rest)
    go false u false v rest = omega (arith, rest)

pub ids-more : (p q : ℕ → Bool) → ((i : ℕ) → p i ≡ true → q i ≡ true) → ids_where p ≤ ids_where q
unfolding ids_where
ids-more p q h = count-more p q 65536 h

lower : (test : ℕ → Bool) (n k : ℕ) → n ≤ k → AllByRecursion (λ y. nat_eq k y ≡ false) (those_below test n)
lower test zero k le = tt
lower test (suc n) k le = go (test n) (lower test n k (omega (arith, le)))
  where
    go : (b : Bool) → AllByRecursion (λ y. nat_eq k y ≡ false) (those_below test n) → AllByRecursion (λ y. nat_eq k y ≡ false) (cond b (n ∷ those_below test n) (those_below test n))
    go true h = (grind (arith, nat_tests), h)
    go false h = h

those-distinct : (test : ℕ → Bool) (n : ℕ) → IsDistinct nat_eq (those_below test n)
unfolding IsDistinct
those-distinct test zero = tt
those-distinct test (suc n) = go (test n) (those-distinct test n)
  where
    go : (b : Bool) → IsDistinct nat_eq (those_below test n) → IsDistinct nat_eq (cond b (n ∷ those_below test n) (those_below test n))
    go true h = (lower test n n (omega arith), h)
    go false h = h

those-pass : (test : ℕ → Bool) (n i : ℕ) → list_any (nat_eq i) (those_below test n) ≡ true → test i ≡ true
those-pass test zero i h = absurd (cc)
those-pass test (suc n) i h = go (test n) refl h (those-pass test n i)
  where
    pick : (b : Bool) → (i == n) ≡ b → test n ≡ true → (b || list_any (nat_eq i) (those_below test n)) ≡ true → (list_any (nat_eq i) (those_below test n) ≡ true → test i ≡ true) → test i ≡ true
    pick true e t h rest = ap test (eqb-true i n e) ∙ t
    pick false e t h rest = rest h

    go : (b : Bool) → test n ≡ b → list_any (nat_eq i) (cond b (n ∷ those_below test n) (those_below test n)) ≡ true → (list_any (nat_eq i) (those_below test n) ≡ true → test i ≡ true) → test i ≡ true
    go true t h rest = pick (i == n) refl t h rest
    go false t h rest = rest h

pub ids-listed : (test : ℕ → Bool) (xs : List ℕ) → ((i : ℕ) → test i ≡ true → list_any (nat_eq i) xs ≡ true) → ids_where test ≤ length xs
unfolding ids_where
ids-listed test xs has =
    let le : length (those_below test 65536) ≤ length xs = length-le_from_is_member nat_eq_equiv (those_below test 65536) xs (those-distinct test 65536) (λ i here. has i (those-pass test 65536 i here)) in
    let same : length (those_below test 65536) ≡ count_below test 65536 = those-length test 65536 in
    omega (arith, le, same)
