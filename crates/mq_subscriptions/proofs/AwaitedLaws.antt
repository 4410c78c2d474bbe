-- SUBSCRIBEs that wait, as a map from Packet Identifiers to their filters.
use Rattle.std.proofs.Common.{◌≡◌, ℕ, suc, ◌+◌, ◌<◌, ◌==◌, nat_eq, get_or, length, arith, Bool, true, false, cond, if◌then◌else◌, ◌&&◌, ◌||◌, not, List, [], ◌∷◌, ◌++◌, Option, None, Some, refl, ap, sym, ◌∙◌, subst}
use Rattle.std.specs.Prelude.{is_some, unwrap_or}
use Rattle.std.specs.List.{list_any, sum_by, AllByRecursion, position, position_or_len}
use Rattle.std.specs.Map.{keys_of, values_of, lookup}
use Rattle.std.specs.List.Sorted.{IsPermutation}
use Rattle.std.proofs.lemmas.Bool.{eqb-true, eq-eqb}
use Rattle.std.proofs.lemmas.List.Folds.{list_any-append}
use Rattle.std.proofs.lemmas.List.Sorted.{IsPermutation-swap_remove, list_any-IsPermutation, sum_by-IsPermutation}
use Rattle.std.proofs.lemmas.List.{get_or_default}
use Rattle.std.proofs.lemmas.List.Sums.{sum_by-cons, sum_by-append}
use Rattle.indexmap.specs.IndexMap.{swap_remove_entry, insert_entry}
use Rattle.indexmap.proofs.MapLemmas.{some_index, Found-position, swap_remove_entry-found, swap_remove_entry-missing}
use Rattle.mq_rules.specs.Subscriptions.{Standing}
use Rattle.mq_subscriptions.specs.Standings.{Waits, under, waits_of, taken}

-- ---- tests and sums of what waits

pub waits-any : (t : Waits → Bool) (es : List (ℕ × List (List Standing))) → list_any t (waits_of es) ≡ list_any (λ e. list_any t (under e.0 e.1)) es
waits-any t [] = refl
waits-any t (e ∷ es) = list_any-append t (under e.0 e.1) (waits_of es) ∙ ap (λ b. list_any t (under e.0 e.1) || b) (waits-any t es)

pub waits-sum : (weigh : Waits → ℕ) (es : List (ℕ × List (List Standing))) → sum_by weigh (waits_of es) ≡ sum_by (λ e. sum_by weigh (under e.0 e.1)) es
waits-sum weigh [] = refl
waits-sum weigh (e ∷ es) = sum_by-append weigh (under e.0 e.1) (waits_of es) ∙ ap (λ n. sum_by weigh (under e.0 e.1) + n) (waits-sum weigh es) ∙ sym (sum_by-cons (λ e. sum_by weigh (under e.0 e.1)) e es)

-- by their filters alone
under-any : (t : List Standing → Bool) (i : ℕ) (requests : List (List Standing)) → list_any (λ w. t w.filters) (under i requests) ≡ list_any t requests
under-any t i [] = refl
under-any t i (filters ∷ others) = ap (λ b. t filters || b) (under-any t i others)

under-sum : (weigh : List Standing → ℕ) (i : ℕ) (requests : List (List Standing)) → sum_by (λ w. weigh w.filters) (under i requests) ≡ sum_by weigh requests
under-sum weigh i [] = refl
under-sum weigh i (filters ∷ others) =
    sum_by-cons (λ w. weigh w.filters) (record { identifier = i; filters = filters }) (under i others) ∙ ap (λ n. weigh filters + n) (under-sum weigh i others) ∙ sym (sum_by-cons weigh filters others)

pub values-any : (t : List Standing → Bool) (es : List (ℕ × List (List Standing))) → list_any (λ w. t w.filters) (waits_of es) ≡ list_any (λ requests. list_any t requests) (values_of es)
values-any t [] = refl
values-any t (e ∷ es) =
    list_any-append (λ w. t w.filters) (under e.0 e.1) (waits_of es)
    ∙ ap (λ b. b || list_any (λ w. t w.filters) (waits_of es)) (under-any t e.0 e.1)
    ∙ ap (λ b. list_any t e.1 || b) (values-any t es)

pub values-sum : (weigh : List Standing → ℕ) (es : List (ℕ × List (List Standing))) → sum_by (λ w. weigh w.filters) (waits_of es) ≡ sum_by (λ requests. sum_by weigh requests) (values_of es)
values-sum weigh [] = refl
values-sum weigh (e ∷ es) =
    sum_by-append (λ w. weigh w.filters) (under e.0 e.1) (waits_of es)
    ∙ ap (λ n. n + sum_by (λ w. weigh w.filters) (waits_of es)) (under-sum weigh e.0 e.1)
    ∙ ap (λ n. sum_by weigh e.1 + n) (values-sum weigh es)
    ∙ sym (sum_by-cons (λ requests. sum_by weigh requests) e.1 (values_of es))

-- ---- what stands under an identifier is taken out

commuted : (a b c : Bool) → (a || (b || c)) ≡ (b || (a || c))
commuted true true c = refl
commuted true false c = refl
commuted false true c = refl
commuted false false c = refl

-- the first entry under it
first-at : (i : ℕ) (es : List (ℕ × List (List Standing))) (v : List (List Standing)) (d : ℕ × List (List Standing)) → lookup (nat_eq i) es ≡ Some v
    → (position_or_len (nat_eq i) (keys_of es) < length es) × (nat_eq i (get_or es (position_or_len (nat_eq i) (keys_of es)) d).0 ≡ true) × ((get_or es (position_or_len (nat_eq i) (keys_of es)) d).1 ≡ v)
first-at i [] v d h = absurd (cc)
first-at i (e ∷ es) v d h = go (nat_eq i e.0) refl h (first-at i es v d)
  where
    m : ℕ
    m = position_or_len (nat_eq i) (keys_of es)

    go : (b : Bool) → nat_eq i e.0 ≡ b → cond b (Some e.1) (lookup (nat_eq i) es) ≡ Some v
        → (lookup (nat_eq i) es ≡ Some v → (m < length es) × (nat_eq i (get_or es m d).0 ≡ true) × ((get_or es m d).1 ≡ v))
        → (cond (not b) (1 + m) 0 < length (e ∷ es)) × (nat_eq i (get_or (e ∷ es) (cond (not b) (1 + m) 0) d).0 ≡ true) × ((get_or (e ∷ es) (cond (not b) (1 + m) 0) d).1 ≡ v)
    go true n h next = (omega arith, n, let value : e.1 ≡ v = cc in value)
    go false n h next =
        let rest = next h in
        let more : suc m ≡ 1 + m = omega arith in
        subst (λ at. (at < length (e ∷ es)) × (nat_eq i (get_or (e ∷ es) at d).0 ≡ true) × ((get_or (e ∷ es) at d).1 ≡ v)) more (let le = rest.0 in omega arith, rest.1, rest.2)

-- the map's own way to take an entry out leaves all others
taken-out : (i : ℕ) (es : List (ℕ × List (List Standing))) (v : List (List Standing)) → lookup (nat_eq i) es ≡ Some v
    → (x : ℕ × List (List Standing)) × (nat_eq i x.0 ≡ true) × (x.1 ≡ v) × IsPermutation es (x ∷ swap_remove_entry (nat_eq i) es)
taken-out i [] v h = absurd (cc)
taken-out i (e ∷ es) v h = go (position (nat_eq i) (keys_of (e ∷ es))) refl
  where
    n : ℕ
    n = position_or_len (nat_eq i) (keys_of (e ∷ es))

    x : ℕ × List (List Standing)
    x = get_or (e ∷ es) n e

    there : (n < length (e ∷ es)) × (nat_eq i x.0 ≡ true) × (x.1 ≡ v)
    there = first-at i (e ∷ es) v e h

    go : (o : Option ℕ) → position (nat_eq i) (keys_of (e ∷ es)) ≡ o → (y : ℕ × List (List Standing)) × (nat_eq i y.0 ≡ true) × (y.1 ≡ v) × IsPermutation (e ∷ es) (y ∷ swap_remove_entry (nat_eq i) (e ∷ es))
    go None p = absurd (let bad : is_some {T = ℕ} None ≡ true = sym (ap is_some p) ∙ some_index (nat_eq i) (e ∷ es) ∙ ap is_some h in cc)
    go (Some k) p = (
      x,
      there.1,
      there.2,
      subst (λ (l : List (ℕ × List (List Standing))). IsPermutation (e ∷ es) (x ∷ l)) (sym (swap_remove_entry-found (nat_eq i) (e ∷ es) n x (p ∙ ap Some (sym (Found-position (nat_eq i) (e ∷ es) k p).or_len))))
          (IsPermutation-swap_remove (e ∷ es) n x there.0 (get_or_default (e ∷ es) n e x there.0)),
    )

taken-same : (i : ℕ) (x : ℕ × List (List Standing)) (v : List (List Standing)) → nat_eq i x.0 ≡ true → x.1 ≡ v → under x.0 x.1 ≡ under i v
taken-same i x v n value = ap (λ r. under x.0 r) value ∙ ap (λ j. under j v) (sym (eqb-true i x.0 n))

taken-some-any : (t : Waits → Bool) (i : ℕ) (es : List (ℕ × List (List Standing))) (v : List (List Standing)) → lookup (nat_eq i) es ≡ Some v
    → list_any t (waits_of es) ≡ (list_any t (under i v) || list_any t (waits_of (swap_remove_entry (nat_eq i) es)))
taken-some-any t i es v h =
    let out = taken-out i es v h in
    waits-any t es
    ∙ list_any-IsPermutation (λ e. list_any t (under e.0 e.1)) es (out.0 ∷ swap_remove_entry (nat_eq i) es) out.3
    ∙ ap (λ ws. list_any t ws || list_any (λ e. list_any t (under e.0 e.1)) (swap_remove_entry (nat_eq i) es)) (taken-same i out.0 v out.1 out.2)
    ∙ ap (λ b. list_any t (under i v) || b) (sym (waits-any t (swap_remove_entry (nat_eq i) es)))

taken-some-sum : (weigh : Waits → ℕ) (i : ℕ) (es : List (ℕ × List (List Standing))) (v : List (List Standing)) → lookup (nat_eq i) es ≡ Some v
    → sum_by weigh (waits_of es) ≡ sum_by weigh (under i v) + sum_by weigh (waits_of (swap_remove_entry (nat_eq i) es))
taken-some-sum weigh i es v h =
    let out = taken-out i es v h in
    waits-sum weigh es
    ∙ sym (sum_by-IsPermutation (λ e. sum_by weigh (under e.0 e.1)) es (out.0 ∷ swap_remove_entry (nat_eq i) es) out.3)
    ∙ sum_by-cons (λ e. sum_by weigh (under e.0 e.1)) out.0 (swap_remove_entry (nat_eq i) es)
    ∙ ap (λ ws. sum_by weigh ws + sum_by (λ e. sum_by weigh (under e.0 e.1)) (swap_remove_entry (nat_eq i) es)) (taken-same i out.0 v out.1 out.2)
    ∙ ap (λ n. sum_by weigh (under i v) + n) (sym (waits-sum weigh (swap_remove_entry (nat_eq i) es)))

-- where there is none, all stays
unchanged : (i : ℕ) (es : List (ℕ × List (List Standing))) → lookup (nat_eq i) es ≡ None → swap_remove_entry (nat_eq i) es ≡ es
unchanged i es h = swap_remove_entry-missing (nat_eq i) es (go (position (nat_eq i) (keys_of es)) refl)
  where
    go : (o : Option ℕ) → position (nat_eq i) (keys_of es) ≡ o → o ≡ None
    go None p = refl
    go (Some n) p = absurd (let bad : true ≡ is_some {T = List (List Standing)} None = sym (ap is_some p) ∙ some_index (nat_eq i) es ∙ ap is_some h in cc)

pub taken-any : (t : Waits → Bool) (i : ℕ) (es : List (ℕ × List (List Standing))) (o : Option (List (List Standing))) → o ≡ lookup (nat_eq i) es
    → list_any t (waits_of es) ≡ (list_any t (taken i o) || list_any t (waits_of (swap_remove_entry (nat_eq i) es)))
taken-any t i es None h = ap (λ l. list_any t (waits_of l)) (sym (unchanged i es (sym h)))
taken-any t i es (Some v) h = taken-some-any t i es v (sym h)

pub taken-sum : (weigh : Waits → ℕ) (i : ℕ) (es : List (ℕ × List (List Standing))) (o : Option (List (List Standing))) → o ≡ lookup (nat_eq i) es
    → sum_by weigh (waits_of es) ≡ sum_by weigh (taken i o) + sum_by weigh (waits_of (swap_remove_entry (nat_eq i) es))
taken-sum weigh i es None h = let same = ap (λ l. sum_by weigh (waits_of l)) (unchanged i es (sym h)) in omega (arith, same)
taken-sum weigh i es (Some v) h = taken-some-sum weigh i es v (sym h)

-- no entry is left under it
pub none-left : {V : Type 0} (i : ℕ) (es : List (ℕ × V)) → lookup (nat_eq i) es ≡ None → AllByRecursion (λ k. nat_eq i k ≡ false) (keys_of es)
none-left i [] h = tt
none-left i (e ∷ es) h = go (nat_eq i e.0) refl h (none-left i es)
  where
    go : (b : Bool) → nat_eq i e.0 ≡ b → cond b (Some e.1) (lookup (nat_eq i) es) ≡ None → (lookup (nat_eq i) es ≡ None → AllByRecursion (λ k. nat_eq i k ≡ false) (keys_of es)) → (nat_eq i e.0 ≡ false) × AllByRecursion (λ k. nat_eq i k ≡ false) (keys_of es)
    go true n h next = absurd (cc)
    go false n h next = (n, next h)

-- ---- a SUBACK's identifier, and the others

abbrev pub Apart : ℕ → List (ℕ × List (List Standing)) → Type 0
Apart i es = AllByRecursion (λ k. nat_eq i k ≡ false) (keys_of es)

itself : (i : ℕ) → nat_eq i i ≡ true
itself i = eq-eqb i i refl

under-alike : (f g : Waits → Bool) (i : ℕ) (requests : List (List Standing)) → ((filters : List Standing) → f (record { identifier = i; filters = filters }) ≡ g (record { identifier = i; filters = filters })) → list_any f (under i requests) ≡ list_any g (under i requests)
under-alike f g i [] same = refl
under-alike f g i (filters ∷ others) same = ap (λ b. b || list_any f (under i others)) (same filters) ∙ ap (λ b. g (record { identifier = i; filters = filters }) || b) (under-alike f g i others same)

under-same : (f g : Waits → ℕ) (i : ℕ) (requests : List (List Standing)) → ((filters : List Standing) → f (record { identifier = i; filters = filters }) ≡ g (record { identifier = i; filters = filters })) → sum_by f (under i requests) ≡ sum_by g (under i requests)
under-same f g i [] same = refl
under-same f g i (filters ∷ others) same =
    let first = same filters in
    let rest = under-same f g i others same in
    let one = sum_by-cons f (record { identifier = i; filters = filters }) (under i others) in
    let two = sum_by-cons g (record { identifier = i; filters = filters }) (under i others) in
    omega (arith, first, rest, one, two)

others-alike : (f g : Waits → Bool) (i : ℕ) (es : List (ℕ × List (List Standing))) → Apart i es → ((j : ℕ) (filters : List Standing) → nat_eq i j ≡ false → f (record { identifier = j; filters = filters }) ≡ g (record { identifier = j; filters = filters }))
    → list_any f (waits_of es) ≡ list_any g (waits_of es)
others-alike f g i [] apart same = refl
others-alike f g i (e ∷ es) apart same =
    list_any-append f (under e.0 e.1) (waits_of es)
    ∙ ap (λ b. b || list_any f (waits_of es)) (under-alike f g e.0 e.1 (λ filters. same e.0 filters apart.0))
    ∙ ap (λ b. list_any g (under e.0 e.1) || b) (others-alike f g i es apart.1 same)
    ∙ sym (list_any-append g (under e.0 e.1) (waits_of es))

others-same : (f g : Waits → ℕ) (i : ℕ) (es : List (ℕ × List (List Standing))) → Apart i es → ((j : ℕ) (filters : List Standing) → nat_eq i j ≡ false → f (record { identifier = j; filters = filters }) ≡ g (record { identifier = j; filters = filters }))
    → sum_by f (waits_of es) ≡ sum_by g (waits_of es)
others-same f g i [] apart same = refl
others-same f g i (e ∷ es) apart same =
    sum_by-append f (under e.0 e.1) (waits_of es)
    ∙ ap (λ n. n + sum_by f (waits_of es)) (under-same f g e.0 e.1 (λ filters. same e.0 filters apart.0))
    ∙ ap (λ n. sum_by g (under e.0 e.1) + n) (others-same f g i es apart.1 same)
    ∙ sym (sum_by-append g (under e.0 e.1) (waits_of es))

none-any : (ws : List Waits) → list_any (λ w. false) ws ≡ false
none-any [] = refl
none-any (w ∷ ws) = none-any ws

none-sum : (ws : List Waits) → sum_by (λ w. 0) ws ≡ 0
none-sum [] = refl
none-sum (w ∷ ws) = let rest = none-sum ws in let all = sum_by-cons (λ (w : Waits). 0) w ws in omega (arith, rest, all)

right-none : (b : Bool) → (b || false) ≡ b
right-none true = refl
right-none false = refl

-- what a map gave for an identifier, and what it has left
abbrev pub TakesAny : ℕ → Option (List (List Standing)) → List Waits → List (ℕ × List (List Standing)) → Type 0
TakesAny i o old es = (t : Waits → Bool) → list_any t old ≡ (list_any t (taken i o) || list_any t (waits_of es))

abbrev pub TakesSum : ℕ → Option (List (List Standing)) → List Waits → List (ℕ × List (List Standing)) → Type 0
TakesSum i o old es = (weigh : Waits → ℕ) → sum_by weigh old ≡ sum_by weigh (taken i o) + sum_by weigh (waits_of es)

pub answered-taken : (i : ℕ) (o : Option (List (List Standing))) (old : List Waits) (es : List (ℕ × List (List Standing))) → TakesAny i o old es → Apart i es → (t : List Standing → Bool)
    → list_any t (unwrap_or o []) ≡ list_any (λ w. (i == w.identifier) && t w.filters) old
answered-taken i o old es takes apart t =
    sym (takes (λ w. (i == w.identifier) && t w.filters)
    ∙ ap (λ b. list_any (λ w. (i == w.identifier) && t w.filters) (taken i o) || b)
    (others-alike (λ w. (i == w.identifier) && t w.filters) (λ w. false) i es apart (λ j filters n. ap (λ b. b && t filters) n) ∙ none-any (waits_of es))
    ∙ right-none (list_any (λ w. (i == w.identifier) && t w.filters) (taken i o))
    ∙ go o)
  where
    go : (o : Option (List (List Standing))) → list_any (λ w. (i == w.identifier) && t w.filters) (taken i o) ≡ list_any t (unwrap_or o [])
    go None = refl
    go (Some requests) = under-alike (λ w. (i == w.identifier) && t w.filters) (λ w. t w.filters) i requests (λ filters. ap (λ b. b && t filters) (itself i)) ∙ under-any t i requests

pub answered-left : (i : ℕ) (o : Option (List (List Standing))) (old : List Waits) (es : List (ℕ × List (List Standing))) → TakesAny i o old es → Apart i es → (t : Waits → Bool)
    → list_any t (waits_of es) ≡ list_any (λ w. not (i == w.identifier) && t w) old
answered-left i o old es takes apart t =
    sym (takes (λ w. not (i == w.identifier) && t w)
    ∙ ap (λ b. b || list_any (λ w. not (i == w.identifier) && t w) (waits_of es)) (go o)
    ∙ others-alike (λ w. not (i == w.identifier) && t w) t i es apart (λ j filters n. ap (λ b. not b && t (record { identifier = j; filters = filters })) n))
  where
    go : (o : Option (List (List Standing))) → list_any (λ w. not (i == w.identifier) && t w) (taken i o) ≡ false
    go None = refl
    go (Some requests) =
        under-alike (λ w. not (i == w.identifier) && t w) (λ w. false) i requests (λ filters. ap (λ b. not b && t (record { identifier = i; filters = filters })) (itself i)) ∙ none-any (under i requests)

pub answered-sums : (i : ℕ) (o : Option (List (List Standing))) (old : List Waits) (es : List (ℕ × List (List Standing))) → TakesSum i o old es → Apart i es → (weigh : Waits → ℕ)
    → sum_by weigh (waits_of es) ≡ sum_by (λ w. cond (i == w.identifier) 0 (weigh w)) old
answered-sums i o old es takes apart weigh =
    let all = takes (λ w. cond (i == w.identifier) 0 (weigh w)) in
    let own = go o in
    let others = others-same (λ w. cond (i == w.identifier) 0 (weigh w)) weigh i es apart (λ j filters n. ap (λ b. cond b 0 (weigh (record { identifier = j; filters = filters }))) n) in
    omega (arith, all, own, others)
  where
    go : (o : Option (List (List Standing))) → sum_by (λ w. cond (i == w.identifier) 0 (weigh w)) (taken i o) ≡ 0
    go None = refl
    go (Some requests) =
        under-same (λ w. cond (i == w.identifier) 0 (weigh w)) (λ w. 0) i requests (λ filters. ap (λ b. cond b 0 (weigh (record { identifier = i; filters = filters }))) (itself i)) ∙ none-sum (under i requests)

-- ---- one more waits

inserted-any : (t : Waits → Bool) (i : ℕ) (v : List (List Standing)) (es : List (ℕ × List (List Standing))) → Apart i es → list_any t (waits_of (insert_entry nat_eq es i v)) ≡ (list_any t (under i v) || list_any t (waits_of es))
inserted-any t i v [] apart = list_any-append t (under i v) []
inserted-any t i v (e ∷ es) apart =
    ap (λ b. list_any t (waits_of (if b then (e.0, v) ∷ es else e ∷ insert_entry nat_eq es i v))) apart.0
    ∙ list_any-append t (under e.0 e.1) (waits_of (insert_entry nat_eq es i v))
    ∙ ap (λ b. list_any t (under e.0 e.1) || b) (inserted-any t i v es apart.1)
    ∙ commuted (list_any t (under e.0 e.1)) (list_any t (under i v)) (list_any t (waits_of es))
    ∙ ap (λ b. list_any t (under i v) || b) (sym (list_any-append t (under e.0 e.1) (waits_of es)))

inserted-sum : (weigh : Waits → ℕ) (i : ℕ) (v : List (List Standing)) (es : List (ℕ × List (List Standing))) → Apart i es → sum_by weigh (waits_of (insert_entry nat_eq es i v)) ≡ sum_by weigh (under i v) + sum_by weigh (waits_of es)
inserted-sum weigh i v [] apart = sum_by-append weigh (under i v) []
inserted-sum weigh i v (e ∷ es) apart =
    let one = sum_by-append weigh (under e.0 e.1) (waits_of (insert_entry nat_eq es i v)) in
    let two = inserted-sum weigh i v es apart.1 in
    let three = sum_by-append weigh (under e.0 e.1) (waits_of es) in
    ap (λ b. sum_by weigh (waits_of (if b then (e.0, v) ∷ es else e ∷ insert_entry nat_eq es i v))) apart.0 ∙ omega (arith, one, two, three)

joined-any : (t : Waits → Bool) (i : ℕ) (requests : List (List Standing)) (request : List Standing) → list_any t (under i (requests ++ (request ∷ []))) ≡ (t (record { identifier = i; filters = request }) || list_any t (under i requests))
joined-any t i [] request = refl
joined-any t i (filters ∷ others) request = ap (λ b. t (record { identifier = i; filters = filters }) || b) (joined-any t i others request) ∙ commuted (t (record { identifier = i; filters = filters })) (t (record { identifier = i; filters = request })) (list_any t (under i others))

joined-sum : (weigh : Waits → ℕ) (i : ℕ) (requests : List (List Standing)) (request : List Standing) → sum_by weigh (under i (requests ++ (request ∷ []))) ≡ weigh (record { identifier = i; filters = request }) + sum_by weigh (under i requests)
joined-sum weigh i [] request = sum_by-cons weigh (record { identifier = i; filters = request }) []
joined-sum weigh i (filters ∷ others) request =
    let rest = joined-sum weigh i others request in
    let one = sum_by-cons weigh (record { identifier = i; filters = filters }) (under i (others ++ (request ∷ []))) in
    let two = sum_by-cons weigh (record { identifier = i; filters = filters }) (under i others) in
    omega (arith, rest, one, two)

named : (i : ℕ) (o : Option (List (List Standing))) → under i (unwrap_or o []) ≡ taken i o
named i None = refl
named i (Some requests) = refl

turned : (a b c : Bool) → ((a || b) || c) ≡ (a || (b || c))
turned true b c = refl
turned false b c = refl

pub waiting-any : (i : ℕ) (o : Option (List (List Standing))) (request : List Standing) (v : List (List Standing)) (old : List Waits) (es : List (ℕ × List (List Standing))) → TakesAny i o old es → Apart i es → v ≡ unwrap_or o [] ++ (request ∷ []) → (t : Waits → Bool)
    → list_any t (waits_of (insert_entry nat_eq es i v)) ≡ (t (record { identifier = i; filters = request }) || list_any t old)
waiting-any i o request v old es takes apart is t =
    inserted-any t i v es apart
    ∙ ap (λ r. list_any t (under i r) || list_any t (waits_of es)) is
    ∙ ap (λ b. b || list_any t (waits_of es)) (joined-any t i (unwrap_or o []) request)
    ∙ ap (λ ws. (t (record { identifier = i; filters = request }) || list_any t ws) || list_any t (waits_of es)) (named i o)
    ∙ turned (t (record { identifier = i; filters = request })) (list_any t (taken i o)) (list_any t (waits_of es))
    ∙ ap (λ b. t (record { identifier = i; filters = request }) || b) (sym (takes t))

pub waiting-sums : (i : ℕ) (o : Option (List (List Standing))) (request : List Standing) (v : List (List Standing)) (old : List Waits) (es : List (ℕ × List (List Standing))) → TakesSum i o old es → Apart i es → v ≡ unwrap_or o [] ++ (request ∷ []) → (weigh : Waits → ℕ)
    → sum_by weigh (waits_of (insert_entry nat_eq es i v)) ≡ weigh (record { identifier = i; filters = request }) + sum_by weigh old
waiting-sums i o request v old es takes apart is weigh =
    let one = inserted-sum weigh i v es apart in
    let two = ap (λ r. sum_by weigh (under i r)) is in
    let three = joined-sum weigh i (unwrap_or o []) request in
    let four = ap (sum_by weigh) (named i o) in
    let five = takes weigh in
    omega (arith, one, two, three, four, five)
