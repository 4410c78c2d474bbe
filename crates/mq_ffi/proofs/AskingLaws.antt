-- The first fault from a position on is the first of those at its own position; and what C is shown.
use Rattle.std.proofs.Common.{◌≡◌, ℕ, Bool, true, false, cond, ◌==◌, ◌≤◌, ◌+◌, suc, length, nat_le, arith, List, [], ◌∷◌, Option, Some, None, is_some, option_map, refl, sym, ap, subst, ◌∙◌}
use Rattle.std.proofs.lemmas.Bool.{false≢true}
use Rattle.std.proofs.lemmas.Bool.Decides.{nat_tests}
use Rattle.std.specs.List.{find, filter}
use Rattle.std.specs.Option.{unwrap_or}
use Rattle.mq_rules.specs.FaultKeys.{first_from, faults_at}
use Rattle.mq_ffi.specs.declared.fault.FaultRow.{FaultRow}
use Rattle.mq_choice.specs.declared.choice.Choice.{Choice}
use Rattle.mq_choice.specs.Choices.{is_listed}
use Rattle.mq_ffi.specs.Asking.{Found, IsRow, IsRowOf, ShowsRow, ShowsFound, first_fault_from, leaves, left_by, nth}

same : (a b : ℕ) → a ≡ b → (a == b) ≡ true
same a b e = grind (arith, nat_tests)

tells : (a b : ℕ) → (a == b) ≡ true → a ≡ b
tells a b e = grind (arith, nat_tests)

the : (a b : ℕ) → Some a ≡ Some b → a ≡ b
the a b e = ap (λ (o : Option ℕ). unwrap_or o 0) e

-- a position that was found passes the test
pub found_from : (position first : ℕ) (xs : List Found) → first_from position xs ≡ Some first → nat_le position first ≡ true
found_from position first [] is = absurd (false≢true (ap (is_some {T = ℕ}) is))
found_from position first (x ∷ xs) is = go (nat_le position x.0.position) refl (found_from position first xs) is where
  go : (b : Bool) → nat_le position x.0.position ≡ b → (first_from position xs ≡ Some first → nat_le position first ≡ true)
      → option_map (λ (found : Found). found.0.position) (cond b (Some x) (find (λ found. nat_le position found.0.position) xs)) ≡ Some first → nat_le position first ≡ true
  go true e later now = subst (λ (p : ℕ). nat_le position p ≡ true) (the x.0.position first now) e
  go false e later now = later now

pub first_is_found : (position first : ℕ) (xs : List Found) → first_from position xs ≡ Some first → nth (faults_at first xs) 0 ≡ first_fault_from position xs
first_is_found position first [] is = absurd (false≢true (ap (is_some {T = ℕ}) is))
first_is_found position first (x ∷ xs) is = go (nat_le position x.0.position) refl (x.0.position == first) refl (first_is_found position first xs) (found_from position first xs) is where
  go : (b : Bool) → nat_le position x.0.position ≡ b → (c : Bool) → (x.0.position == first) ≡ c
      → (first_from position xs ≡ Some first → nth (faults_at first xs) 0 ≡ first_fault_from position xs) → (first_from position xs ≡ Some first → nat_le position first ≡ true)
      → option_map (λ (found : Found). found.0.position) (cond b (Some x) (find (λ found. nat_le position found.0.position) xs)) ≡ Some first
      → nth (cond c (x ∷ filter (λ found. found.0.position == first) xs) (filter (λ found. found.0.position == first) xs)) 0 ≡ cond b (Some x) (find (λ found. nat_le position found.0.position) xs)
  go true e true f later passes now = refl
  go true e false f later passes now = absurd (false≢true (sym f ∙ same x.0.position first (the x.0.position first now)))
  go false e true f later passes now = absurd (false≢true (sym e ∙ ap (nat_le position) (tells x.0.position first f) ∙ passes now))
  go false e false f later passes now = later now

unmapped : {A B : Type 0} (f : A → B) (o : Option A) → option_map f o ≡ None → o ≡ None
unmapped f None is = refl
unmapped f (Some x) is = absurd (false≢true (sym (ap is_some is)))

pub none_is_found : (position : ℕ) (xs : List Found) → first_from position xs ≡ None → first_fault_from position xs ≡ None
none_is_found position xs is = unmapped (λ (found : Found). found.0.position) (first_fault_from position xs) is

pub shows_row : (o : Option Found) (r : Option FaultRow) (before after : FaultRow) (code : ℕ) → IsRowOf o r → ShowsFound r before after code → ShowsRow o before after code
shows_row None None before after code is shown = shown
shows_row None (Some row) before after code is shown = absurd is
shows_row (Some found) None before after code is shown = absurd is
shows_row (Some found) (Some row) before after code is shown = (shown.0, subst (λ (r : FaultRow). IsRow r found) (sym shown.1) is)

-- ---- the faults that a choice leaves

keeps_all : {A : Type 0} (p : A → Bool) (xs : List A) → ((x : A) → p x ≡ true) → filter p xs ≡ xs
keeps_all p [] h = refl
keeps_all p (x ∷ xs) h = rw (h x) (ap (λ ys. x ∷ ys) (keeps_all p xs h))

-- without a list they are all
pub all_left : (choice : Choice) (xs : List Found) → is_listed choice ≡ false → left_by choice xs ≡ xs
all_left choice xs unlisted = keeps_all (λ found. leaves choice found.0.rule) xs (λ x. rw unlisted refl)

-- it doesn't matter which of two tests comes first
pub filters_commute : {A : Type 0} (p q : A → Bool) (xs : List A) → filter p (filter q xs) ≡ filter q (filter p xs)
filters_commute p q [] = refl
filters_commute p q (x ∷ xs) = go (p x) refl (q x) refl (filters_commute p q xs) where
  go : (a : Bool) → p x ≡ a → (b : Bool) → q x ≡ b → filter p (filter q xs) ≡ filter q (filter p xs)
      → filter p (cond b (x ∷ filter q xs) (filter q xs)) ≡ filter q (cond a (x ∷ filter p xs) (filter p xs))
  go true e true f later = rw (e, f) (ap (λ ys. x ∷ ys) later)
  go true e false f later = rw f later
  go false e true f later = rw e later
  go false e false f later = later

fewer : {A : Type 0} (p : A → Bool) (xs : List A) → length (filter p xs) ≤ length xs
fewer p [] = omega (arith)
fewer p (x ∷ xs) = go (p x) (fewer p xs) where
  go : (b : Bool) → length (filter p xs) ≤ length xs → length (cond b (x ∷ filter p xs) (filter p xs)) ≤ suc (length xs)
  go true h = omega (arith, h)
  go false h = omega (arith, h)

-- a choice leaves no more than there are
pub left_fewer : (choice : Choice) (xs : List Found) → length (left_by choice xs) ≤ length xs
left_fewer choice xs = fewer (λ found. leaves choice found.0.rule) xs

-- one more fault that a choice leaves, beside those that were counted, is among all faults
pub counts_one_more : (choice : Choice) (found : Found) (rest left whole : List Found) (count : ℕ) → count + length (left_by choice left) ≡ length (left_by choice whole)
    → left ≡ found ∷ rest → leaves choice found.0.rule ≡ true → count + 1 ≤ length whole
counts_one_more choice found rest left whole count so_far e is =
    let one : length (left_by choice left) ≡ suc (length (left_by choice rest)) = ap (λ (xs : List Found). length (left_by choice xs)) e ∙ rw is refl in
    omega (arith, one, so_far, left_fewer choice whole)
