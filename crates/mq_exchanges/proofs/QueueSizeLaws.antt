-- How long a queue of debts is.
use Rattle.std.proofs.Common.{◌≡◌, ℕ, ◌+◌, ◌<◌, ◌≤◌, ◌==◌, arith, nat_eq, Bool, true, false, cond, ◌||◌, inl, inr, List, [], ◌∷◌, ◌++◌, filter, length, Option, Some, None, refl, ap, sym, ◌∙◌}
use Rattle.std.specs.Prelude.{is_some}
use Rattle.std.specs.List.{IsDistinct, AllByRecursion, list_any}
use Rattle.std.proofs.lemmas.Bool.{eqb-true}
use Rattle.std.proofs.lemmas.Map.Keys.{IsDistinct-cons}
use Rattle.mq_log.specs.declared.place.Place3.{Place3}
use Rattle.mq_rules.specs.IdentifierCounts.{ids_where}
use Rattle.mq_exchanges.specs.declared.ordering.Debt.{Debt}
use Rattle.mq_exchanges.specs.Orderings.{is_still_due, is_debt, from_settled, left_after, left_by, Queued, IsAscending, IsQueue, IsTidied}
use Rattle.mq_exchanges.proofs.QueueLaws.{still-due}
use Rattle.mq_fates.proofs.Exports.{distinct-passing}

-- ---- what is dropped only shortens it

settled-length : (due : ℕ → Option Place3) (i at : ℕ) (q : List Debt) → length (from_settled due i at q) ≤ length q
settled-length due i at [] = omega arith
settled-length due i at (d ∷ ds) = go (is_debt i at d) (is_still_due due d) (settled-length due i at ds)
  where
    go : (own b : Bool) → length (from_settled due i at ds) ≤ length ds → length (cond own ds (cond b (d ∷ ds) (from_settled due i at ds))) ≤ length (d ∷ ds)
    go true b h = omega arith
    go false true h = omega arith
    go false false h = omega (arith, h)

after-length : (due : ℕ → Option Place3) (i : ℕ) (was : Option Place3) (q : List Debt) → length (left_after due i was q) ≤ length q
after-length due i None q = omega arith
after-length due i (Some p) q = settled-length due i p.position q

pub left-length : (due next : ℕ → Option Place3) (answer : Option ℕ) (q : List Debt) → length (left_by due next answer q) ≤ length q
left-length due next None q = omega arith
left-length due next (Some i) q = after-length next i (due i) q

kept-length : (test : Debt → Bool) (q : List Debt) → length (filter test q) ≤ length q
kept-length test [] = omega arith
kept-length test (d ∷ ds) = go (test d) (kept-length test ds)
  where
    go : (b : Bool) → length (filter test ds) ≤ length ds → length (cond b (d ∷ filter test ds) (filter test ds)) ≤ length (d ∷ ds)
    go true h = omega (arith, h)
    go false h = omega (arith, h)

pub tidied-length : (due : ℕ → Option Place3) (old new : List Debt) → IsTidied due old new → length new ≤ length old
tidied-length due old new (inl same) = let long : length new ≡ length old = ap (length {A = Debt}) same in omega (arith, long)
tidied-length due old new (inr less) =
    let long : length new ≡ length (filter (is_still_due due) old) = ap (length {A = Debt}) less in
    let le = kept-length (is_still_due due) old in
    omega (arith, long, le)

pub joined-length : (q r : List Debt) → length (q ++ r) ≡ length q + length r
joined-length [] r = omega arith
joined-length (d ∷ ds) r = let rest = joined-length ds r in omega (arith, rest)

after-none : (due : ℕ → Option Place3) (i : ℕ) (was : Option Place3) → left_after due i was [] ≡ []
after-none due i None = refl
after-none due i (Some p) = refl

pub left-none : (due next : ℕ → Option Place3) (answer : Option ℕ) → left_by due next answer [] ≡ []
left-none due next None = refl
left-none due next (Some i) = after-none next i (due i)

pub tidied-none : (due : ℕ → Option Place3) (old new : List Debt) → IsTidied due old new → old ≡ [] → new ≡ []
tidied-none due old new (inl same) h = same ∙ h
tidied-none due old new (inr less) h = less ∙ ap (filter (is_still_due due)) h

-- ---- what is still due has different identifiers

abbrev identifiers : List Debt → List ℕ
identifiers [] = []
identifiers (d ∷ ds) = d.identifier ∷ identifiers ds

identifiers-length : (q : List Debt) → length (identifiers q) ≡ length q
identifiers-length [] = refl
identifiers-length (d ∷ ds) = let rest = identifiers-length ds in omega (arith, rest)

module _ (due : ℕ → Option Place3) where
  -- two debts under one identifier aren't both still due
  differ-due : (d e : Debt) → is_still_due due d ≡ true → is_still_due due e ≡ true → d.position < e.position → (d.identifier == e.identifier) ≡ false
  differ-due d e here there lt = go (d.identifier == e.identifier) refl
    where
      go : (b : Bool) → (d.identifier == e.identifier) ≡ b → b ≡ false
      go false h = refl
      go true h =
          let same : d.identifier ≡ e.identifier = eqb-true d.identifier e.identifier h in
          let a = still-due due d here in
          let b = still-due due e there in
          let one : Some a.0 ≡ Some b.0 = sym a.1 ∙ ap due same ∙ b.1 in
          let place : a.0 ≡ b.0 = cc in
          let spot : d.position ≡ e.position = sym a.2 ∙ ap (λ (p : Place3). p.position) place ∙ b.2 in
          absurd (omega (arith, lt, spot))

  others-differ : (d : Debt) → is_still_due due d ≡ true → (q : List Debt) → ((i at : ℕ) → Queued i at q → d.position < at) → AllByRecursion (λ y. nat_eq d.identifier y ≡ false) (identifiers (filter (is_still_due due) q))
  others-differ d here [] up = tt
  others-differ d here (e ∷ es) up = go (is_still_due due e) refl (others-differ d here es (λ i at a. up i at (inr a)))
    where
      go : (b : Bool) → is_still_due due e ≡ b → AllByRecursion (λ y. nat_eq d.identifier y ≡ false) (identifiers (filter (is_still_due due) es))
          → AllByRecursion (λ y. nat_eq d.identifier y ≡ false) (identifiers (cond b (e ∷ filter (is_still_due due) es) (filter (is_still_due due) es)))
      go true there rest = (differ-due d e here there (up e.identifier e.position (inl (refl, refl))), rest)
      go false there rest = rest

  kept-distinct : (q : List Debt) → IsAscending q → IsDistinct nat_eq (identifiers (filter (is_still_due due) q))
  unfolding IsDistinct
  kept-distinct [] up = tt
  kept-distinct (d ∷ ds) up = go (is_still_due due d) refl (kept-distinct ds up.1)
    where
      go : (b : Bool) → is_still_due due d ≡ b → IsDistinct nat_eq (identifiers (filter (is_still_due due) ds)) → IsDistinct nat_eq (identifiers (cond b (d ∷ filter (is_still_due due) ds) (filter (is_still_due due) ds)))
      go true here rest = IsDistinct-cons nat_eq d.identifier (identifiers (filter (is_still_due due) ds)) (others-differ d here ds up.0) rest
      go false here rest = rest

  kept-there : (q : List Debt) (i : ℕ) → list_any (nat_eq i) (identifiers (filter (is_still_due due) q)) ≡ true → is_some (due i) ≡ true
  kept-there [] i h = absurd (cc)
  kept-there (d ∷ ds) i h = go (is_still_due due d) refl h (kept-there ds i)
    where
      go : (b : Bool) → is_still_due due d ≡ b → list_any (nat_eq i) (identifiers (cond b (d ∷ filter (is_still_due due) ds) (filter (is_still_due due) ds))) ≡ true
          → (list_any (nat_eq i) (identifiers (filter (is_still_due due) ds)) ≡ true → is_some (due i) ≡ true) → is_some (due i) ≡ true
      go false here h rest = rest h
      go true here h rest = pick (i == d.identifier) refl h
        where
          pick : (b : Bool) → (i == d.identifier) ≡ b → (b || list_any (nat_eq i) (identifiers (filter (is_still_due due) ds))) ≡ true → is_some (due i) ≡ true
          pick true e h = let a = still-due due d here in ap (λ n. is_some (due n)) (eqb-true i d.identifier e) ∙ ap is_some a.1
          pick false e h = rest h

-- what is still due is no more than there is under identifiers
pub due-length : (due : ℕ → Option Place3) (q : List Debt) (n : ℕ) → ((i : ℕ) → is_some (due i) ≡ true → i < 65536) → IsQueue due q n → length (filter (is_still_due due) q) ≤ ids_where (λ i. is_some (due i))
due-length due q n within h =
    let kept : List Debt = filter (is_still_due due) q in
    let le : length (identifiers kept) ≤ ids_where (λ i. is_some (due i)) = distinct-passing (identifiers kept) (λ i. is_some (due i)) (kept-distinct due q h.ascending) (λ i here. within i (kept-there due q i here)) (kept-there due q) in
    let long : length (identifiers kept) ≡ length kept = identifiers-length kept in
    omega (arith, le, long)
