-- What a table keeps, in the order of the Packet Identifiers.
use Rattle.std.proofs.Common.{◌≡◌, ℕ, zero, suc, ◌+◌, ◌*◌, ◌/◌, ◌%◌, ◌<◌, ◌≤◌, nat_eq, nat_lt, Bool, true, false, cond, List, [], ◌∷◌, ◌++◌, length, is_some, Option, Some, None, refl, ap, ◌∙◌, arith}
use Rattle.std.specs.Option.{option_to_list}
use Rattle.std.proofs.lemmas.Bool.{eqb-true}
use Rattle.std.proofs.lemmas.Bool.Decides.{nat_tests}
use Rattle.std.proofs.Math.Nat.{div-add-mod}
use Rattle.mq_rules.specs.declared.by_identifier.ByIdentifier.{ByIdentifier}
use Rattle.mq_rules.specs.ByIdentifier.{kept, value_at}
use Rattle.mq_rules.specs.IdentifierCounts.{count_below, ids_where}
use Rattle.mq_rules.specs.KeptOrder.{IsFirst, found_from, value_under, values_of}
use Rattle.mq_rules.proofs.IdentifierCountLaws.{under-past}

nothing-below : (test : ℕ → Bool) → count_below test 0 ≡ 0
unfolding count_below
nothing-below test = refl

count-next : (test : ℕ → Bool) (i : ℕ) → count_below test (i + 1) ≡ cond (test i) 1 0 + count_below test i
unfolding count_below
count-next test i = let same : i + 1 ≡ suc i = omega arith in ap (count_below test) same

module _ {T : Type 0} where
  -- nothing is kept in the slots after that of an identifier, up to one
  pub kept-no_slot : (table : ByIdentifier T) (identifier i page start slot : ℕ) → page ≡ identifier / 256 → start ≡ identifier % 256 + 1 → slot ≤ 256
      → ((s : ℕ) → start ≤ s → s < slot → value_at table.pages.items page s ≡ None) → identifier < i → i < page * 256 + slot → kept table i ≡ None
  unfolding kept
  kept-no_slot table identifier i page start slot own first within nothing later below =
      let same : i / 256 ≡ page = omega (arith, div-add-mod i 256, div-add-mod identifier 256, later, below, within, own) in
      ap (λ p. value_at table.pages.items p (i % 256)) same
      ∙ nothing (i % 256) (omega (arith, same, own, first, div-add-mod i 256, div-add-mod identifier 256, later)) (omega (arith, same, div-add-mod i 256, below))

  -- nor in those of the pages after its own, up to one
  pub kept-no_page : (table : ByIdentifier T) (identifier i page start next : ℕ) → page ≡ identifier / 256 → start ≡ identifier % 256 + 1 → ((s : ℕ) → start ≤ s → s < 256 → value_at table.pages.items page s ≡ None)
      → ((p s : ℕ) → page + 1 ≤ p → p < next → value_at table.pages.items p s ≡ None) → identifier < i → i < next * 256 → kept table i ≡ None
  unfolding kept
  kept-no_page table identifier i page start next own first here others later below = go (nat_lt page (i / 256)) refl
    where
      go : (b : Bool) → nat_lt page (i / 256) ≡ b → value_at table.pages.items (i / 256) (i % 256) ≡ None
      go true after =
          let from : page + 1 ≤ i / 256 = grind (arith, nat_tests) in
          others (i / 256) (i % 256) from (omega (arith, div-add-mod i 256, below))
      go false same =
          let most : i / 256 ≤ page = grind (arith, nat_tests) in
          let at : i / 256 ≡ page = omega (arith, most, own, div-add-mod i 256, div-add-mod identifier 256, later) in
          ap (λ p. value_at table.pages.items p (i % 256)) at ∙ here (i % 256) (omega (arith, at, own, first, div-add-mod i 256, div-add-mod identifier 256, later)) (omega (arith, div-add-mod i 256))

  -- nothing is found one number further, and up to the next
  pub none-further : (found : ℕ → Option T) (start next here further : ℕ) → here ≡ next → ((i : ℕ) → start ≤ i → i < next → found i ≡ None) → found here ≡ None → ((i : ℕ) → here < i → i < further → found i ≡ None)
      → (i : ℕ) → start ≤ i → i < further → found i ≡ None
  none-further found start next here further at before now after i later below = go (nat_eq i here) refl (nat_lt i here) refl
    where
      go : (b : Bool) → nat_eq i here ≡ b → (d : Bool) → nat_lt i here ≡ d → found i ≡ None
      go true same d _ = ap found (eqb-true i here same) ∙ now
      go false other true less = before i later (grind (arith, nat_tests))
      go false other false more = after i (grind (arith, nat_tests)) below

  -- nor at one number more
  pub none-next : (found : ℕ → Option T) (start n : ℕ) → ((i : ℕ) → start ≤ i → i < n → found i ≡ None) → found n ≡ None → (i : ℕ) → start ≤ i → i < n + 1 → found i ≡ None
  none-next found start n before now i later below = none-further found start n n (n + 1) refl before now (λ j after end. absurd (omega (arith, after, end))) i later below

  -- no number is left
  pub found-further : (table : ByIdentifier T) (start next : ℕ) → ((i : ℕ) → start ≤ i → i < next → value_under table i ≡ None) → (next < 65536 → ⊥) → (i : ℕ) → start ≤ i → value_under table i ≡ None
  found-further table start next before end i later = go (nat_lt i next) refl (nat_lt next 65536) refl
    where
      go : (b : Bool) → nat_lt i next ≡ b → (d : Bool) → nat_lt next 65536 ≡ d → value_under table i ≡ None
      go true less d _ = before i later (grind (arith, nat_tests))
      go false more true small = absurd (end (grind (arith, nat_tests)))
      go false more false past = under-past table i (grind (arith, nat_tests))

  -- the first one, and then those after it
  pub found_from-first : (found : ℕ → Option T) (start n i rest : ℕ) (v : T) → IsFirst found start (Some (i, v)) → start + n ≡ i + 1 + rest → found_from found start n ≡ v ∷ found_from found (i + 1) rest
  unfolding found_from
  found_from-first found start zero i rest v first end = absurd (let from = first.0 in omega (arith, from, end))
  found_from-first found start (suc n) i rest v first end = go (nat_eq start i) refl (λ later. found_from-first found (start + 1) n i rest v later (omega (arith, end)))
    where
      go : (b : Bool) → nat_eq start i ≡ b → (IsFirst found (start + 1) (Some (i, v)) → found_from found (start + 1) n ≡ v ∷ found_from found (i + 1) rest)
          → option_to_list (found start) ++ found_from found (start + 1) n ≡ v ∷ found_from found (i + 1) rest
      go true at further =
          let same : start ≡ i = eqb-true start i at in
          let many : n ≡ rest = omega (arith, same, end) in
          ap (λ o. option_to_list o ++ found_from found (start + 1) n) (ap found same ∙ first.1) ∙ ap (λ j. v ∷ found_from found (j + 1) n) same ∙ ap (λ m. v ∷ found_from found (i + 1) m) many
      go false other further =
          let from = first.0 in
          ap (λ o. option_to_list o ++ found_from found (start + 1) n) (first.2 start (omega arith) (grind (arith, nat_tests)))
          ∙ further (grind (arith, nat_tests), first.1, λ j later below. first.2 j (omega (arith, later)) below)

  pub found_from-none : (found : ℕ → Option T) (start n : ℕ) → ((i : ℕ) → start ≤ i → found i ≡ None) → found_from found start n ≡ []
  unfolding found_from
  found_from-none found start zero none = refl
  found_from-none found start (suc n) none =
      ap (λ o. option_to_list o ++ found_from found (start + 1) n) (none start (omega arith)) ∙ found_from-none found (start + 1) n (λ i later. none i (omega (arith, later)))

  -- there are as many as numbers under which something is found
  found_from-counted : (found : ℕ → Option T) (i n : ℕ) → length (found_from found i n) + count_below (λ j. is_some (found j)) i ≡ count_below (λ j. is_some (found j)) (i + n)
  unfolding found_from count_below
  found_from-counted found i zero =
      let same : i ≡ i + 0 = omega arith in
      let e : count_below (λ j. is_some (found j)) i ≡ count_below (λ j. is_some (found j)) (i + 0) = ap (count_below (λ j. is_some (found j))) same in
      omega (arith, e)
  found_from-counted found i (suc n) =
      let rest : length (found_from found (i + 1) n) + count_below (λ j. is_some (found j)) (i + 1) ≡ count_below (λ j. is_some (found j)) (i + 1 + n) = found_from-counted found (i + 1) n in
      let here = one_more (found i) (found_from found (i + 1) n) in
      let next = count-next (λ j. is_some (found j)) i in
      let end : count_below (λ j. is_some (found j)) (i + 1 + n) ≡ count_below (λ j. is_some (found j)) (i + suc n) = let same : i + 1 + n ≡ i + suc n = omega arith in ap (count_below (λ j. is_some (found j))) same in
      omega (arith, rest, here, next, end)
    where
      one_more : (o : Option T) (xs : List T) → length (option_to_list o ++ xs) ≡ cond (is_some o) 1 0 + length xs
      one_more None xs = omega arith
      one_more (Some v) xs = omega arith

  pub values-counted : (found : ℕ → Option T) → length (values_of found) ≡ ids_where (λ i. is_some (found i))
  unfolding values_of ids_where
  values-counted found = let all = found_from-counted found 0 65536 in let none = nothing-below (λ i. is_some (found i)) in omega (arith, all, none)
