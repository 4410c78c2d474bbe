-- The values of a table by Packet Identifiers, and the identifiers under which they are kept.
use Rattle.std.proofs.Common.{◌≡◌, ℕ, zero, suc, ◌+◌, ◌-◌, ◌<◌, ◌≤◌, nat_eq, arith, Bool, true, false, ◌||◌, List, [], ◌∷◌, ◌++◌, length, Option, Some, None, refl, ap, sym, ◌∙◌}
use Rattle.std.specs.Option.{option_to_list}
use Rattle.std.specs.List.{list_any}
use Rattle.std.specs.Prelude.{is_some}
use Rattle.std.proofs.lemmas.Bool.{eqb-true}
use Rattle.std.proofs.lemmas.Bool.Decides.{nat_tests}
use Rattle.mq_rules.specs.Words.{is_some_and}
use Rattle.mq_rules.specs.IdentifierCounts.{ids_where}
use Rattle.mq_rules.specs.KeptOrder.{IsFirst, found_from, values_of}
use Rattle.mq_rules.proofs.Exports.{found_from-first, found_from-none, values-counted}

module _ {V : Type 0} where
  one_more : (test : V → Bool) (o : Option V) (vs : List V) → list_any test (option_to_list o ++ vs) ≡ (is_some_and test o || list_any test vs)
  one_more test None vs = refl
  one_more test (Some v) vs = refl

  found-passes : (test : V → Bool) (found : ℕ → Option V) (start n : ℕ) → list_any test (found_from found start n) ≡ true → (i : ℕ) × (is_some_and test (found i) ≡ true)
  unfolding found_from
  found-passes test found start zero h = absurd (cc)
  found-passes test found start (suc n) h = go (is_some_and test (found start)) refl (sym (one_more test (found start) (found_from found (start + 1) n)) ∙ h) (found-passes test found (start + 1) n)
    where
      go : (b : Bool) → is_some_and test (found start) ≡ b → (b || list_any test (found_from found (start + 1) n)) ≡ true
          → (list_any test (found_from found (start + 1) n) ≡ true → (i : ℕ) × (is_some_and test (found i) ≡ true)) → (i : ℕ) × (is_some_and test (found i) ≡ true)
      go true t h rest = (start, t)
      go false t h rest = rest h

  passes-found : (test : V → Bool) (found : ℕ → Option V) (start n i : ℕ) → start ≤ i → i < start + n → is_some_and test (found i) ≡ true → list_any test (found_from found start n) ≡ true
  unfolding found_from
  passes-found test found start zero i low high t = absurd (omega (arith, low, high))
  passes-found test found start (suc n) i low high t =
      one_more test (found start) (found_from found (start + 1) n) ∙ go (nat_eq start i) refl (λ later. passes-found test found (start + 1) n i later (omega (arith, high)) t)
    where
      more : (a b : Bool) → b ≡ true → (a || b) ≡ true
      more true b h = refl
      more false b h = h

      go : (b : Bool) → nat_eq start i ≡ b → (start + 1 ≤ i → list_any test (found_from found (start + 1) n) ≡ true) → (is_some_and test (found start) || list_any test (found_from found (start + 1) n)) ≡ true
      go true same rest = ap (λ j. is_some_and test (found j) || list_any test (found_from found (start + 1) n)) (eqb-true start i same) ∙ ap (λ b. b || list_any test (found_from found (start + 1) n)) t
      go false other rest = more (is_some_and test (found start)) (list_any test (found_from found (start + 1) n)) (rest (grind (arith, nat_tests)))

  -- what passes among the values is kept of some identifier
  pub value-passes : (test : V → Bool) (found : ℕ → Option V) → list_any test (values_of found) ≡ true → (i : ℕ) × (is_some_and test (found i) ≡ true)
  unfolding values_of
  value-passes test found h = found-passes test found 0 65536 h

  pub passes-value : (test : V → Bool) (i : ℕ) (found : ℕ → Option V) → i < 65536 → is_some_and test (found i) ≡ true → list_any test (values_of found) ≡ true
  unfolding values_of
  passes-value test i found small t = passes-found test found 0 65536 i (omega arith) (omega (arith, small)) t

  pub passing-there : (test : V → Bool) (o : Option V) → is_some_and test o ≡ true → is_some o ≡ true
  passing-there test None t = absurd (cc)
  passing-there test (Some v) t = refl

  -- no value passes
  pub none-passes : (test : V → Bool) (i : ℕ) (found : ℕ → Option V) → (is_some (found i) ≡ true → i < 65536) → list_any test (values_of found) ≡ false → is_some_and test (found i) ≡ false
  none-passes test i found small none = go (is_some_and test (found i)) refl
    where
      go : (b : Bool) → is_some_and test (found i) ≡ b → b ≡ false
      go false t = refl
      go true t = sym (passes-value test i found (small (passing-there test (found i) t)) t) ∙ none

  -- ---- one after the other

  pub values-first : (found : ℕ → Option V) (next i : ℕ) (v : V) → next ≤ 65536 → i < 65536 → IsFirst found next (Some (i, v)) → found_from found next (65536 - next) ≡ v ∷ found_from found (i + 1) (65536 - (i + 1))
  values-first found next i v within small first = let from = first.0 in found_from-first found next (65536 - next) i (65536 - (i + 1)) v first (omega (arith, within, small, from))

  pub values-end : (found : ℕ → Option V) (next : ℕ) → IsFirst found next None → found_from found next (65536 - next) ≡ []
  values-end found next none = found_from-none found next (65536 - next) none

  pub values-all : (found : ℕ → Option V) → length (found_from found 0 65536) ≡ ids_where (λ i. is_some (found i))
  unfolding values_of
  values-all found = values-counted found

  pub values-are : (found : ℕ → Option V) → found_from found 0 65536 ≡ values_of found
  unfolding values_of
  values-are found = refl
