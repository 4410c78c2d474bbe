-- The filters that stand, as a map from each to the greatest QoS of what may be sent for it.
use Rattle.std.proofs.Common.{◌≡◌, ℕ, ◌+◌, ◌≤◌, nat_le, arith, Bool, true, false, cond, if◌then◌else◌, ◌&&◌, ◌||◌, not, List, [], ◌∷◌, ◌++◌, length, None, Some, append-nil, refl, ap, sym, ◌∙◌}
use Rattle.std.specs.Prelude.{is_some}
use Rattle.std.specs.declared.string.String.{String}
use Rattle.std.specs.String.{string_bytes, string_eq}
use Rattle.std.specs.Str.{bytes_eq}
use Rattle.std.specs.Set.{unique_keys, distinct_count}
use Rattle.std.specs.List.{IsDistinct, AllByRecursion, list_any, list_all}
use Rattle.std.specs.Map.{keys_of, lookup}
use Rattle.std.proofs.lemmas.Bool.Decides.{nat_tests}
use Rattle.std.proofs.lemmas.Slice.Eq.{bytes_eq-Decides}
use Rattle.std.proofs.lemmas.Cmp.{nat_list_eq_equiv}
use Rattle.std.proofs.lemmas.List.Folds.{list_any-append}
use Rattle.std.proofs.lemmas.List.{length-append}
use Rattle.std.proofs.lemmas.Map.Made.{length-le_from_is_member}
use Rattle.std.proofs.lemmas.Map.Steps.{list_any_congr}
use Rattle.indexmap.specs.IndexMap.{insert_entry}
use Rattle.mq_topic.specs.Levels.{is_name}
use Rattle.mq_topic.specs.Matching.{matches, is_empty}
use Rattle.mq_filters.specs.Standings.{has_ceiling, allows, standings, AllFilters, IsSplit}
use Rattle.mq_filters.proofs.LiteralLaws.{literal-matches}

below : (a b : ℕ) → nat_le a b ≡ false → b ≤ a
below a b h = grind (arith, nat_tests)

within : (a b : ℕ) → nat_le a b ≡ true → a ≤ b
within a b h = grind (arith, nat_tests)

-- what a lower ceiling allows
raised : (qos low high : ℕ) → low ≤ high → nat_le qos low ≡ true → nat_le qos high ≡ true
raised qos low high le h = grind (arith, nat_tests)

allows-more : (among : List ℕ → Bool) (qos : ℕ) (f : List ℕ) (low high : ℕ) → low ≤ high → allows among qos (record { filter = f; ceiling = low }) ≡ true → allows among qos (record { filter = f; ceiling = high }) ≡ true
allows-more among qos f low high le h = go (among f) refl h
  where
    go : (b : Bool) → among f ≡ b → (b && nat_le qos low) ≡ true → (among f && nat_le qos high) ≡ true
    go true n h = ap (λ b. b && nat_le qos high) n ∙ raised qos low high le h
    go false n h = absurd (cc)

absorbed : (a b r : Bool) → (a ≡ true → b ≡ true) → (b || r) ≡ ((a || r) || (b || false))
absorbed true b r h = ap (λ x. x || r) (h refl)
absorbed false true true h = refl
absorbed false true false h = refl
absorbed false false true h = refl
absorbed false false false h = refl

held : (a b r : Bool) → (b ≡ true → a ≡ true) → (a || r) ≡ ((a || r) || (b || false))
held true b r h = refl
held false true r h = absurd (let bad : false ≡ true = h refl in cc)
held false false true h = refl
held false false false h = refl

moved : (a r s : Bool) → (a || (r || s)) ≡ ((a || r) || s)
moved true r s = refl
moved false r s = refl

module _ {Y : Type 0} where
  pub keys-any : (among : List ℕ → Bool) (es : List (String Y × ℕ)) → list_any (λ k. among (string_bytes k)) (keys_of es) ≡ list_any (λ s. among s.filter) (standings es)
  keys-any among [] = refl
  keys-any among (e ∷ es) = ap (λ b. among (string_bytes e.0) || b) (keys-any among es)

  pub entries-any : (test : List ℕ → ℕ → Bool) (es : List (String Y × ℕ)) → list_any (λ e. test (string_bytes e.0) e.1) es ≡ list_any (λ s. test s.filter s.ceiling) (standings es)
  entries-any test [] = refl
  entries-any test (e ∷ es) = ap (λ b. test (string_bytes e.0) e.1 || b) (entries-any test es)

  -- ---- a filter is added, or its ceiling raised

  pub put-any : (among : List ℕ → Bool) (qos : ℕ) (es : List (String Y × ℕ)) (k : String Y) (c : ℕ) → has_ceiling (nat_le c) (lookup (string_eq k) es) ≡ false
      → list_any (allows among qos) (standings (insert_entry string_eq es k c)) ≡ (list_any (allows among qos) (standings es) || list_any (allows among qos) (record { filter = string_bytes k; ceiling = c } ∷ []))
  put-any among qos [] k c low = refl
  put-any among qos (e ∷ es) k c low = go (string_eq k e.0) refl low (put-any among qos es k c)
    where
      there : Bool
      there = list_any (allows among qos) (standings es)

      new : Bool
      new = allows among qos (record { filter = string_bytes k; ceiling = c })

      go : (b : Bool) → string_eq k e.0 ≡ b → has_ceiling (nat_le c) (cond b (Some e.1) (lookup (string_eq k) es)) ≡ false
          → (has_ceiling (nat_le c) (lookup (string_eq k) es) ≡ false → list_any (allows among qos) (standings (insert_entry string_eq es k c)) ≡ (there || (new || false)))
          → list_any (allows among qos) (standings (if b then (e.0, c) ∷ es else e ∷ insert_entry string_eq es k c)) ≡ ((allows among qos (record { filter = string_bytes e.0; ceiling = e.1 }) || there) || (new || false))
      go true n low rest =
          let same : string_bytes k ≡ string_bytes e.0 = (bytes_eq-Decides (string_bytes k) (string_bytes e.0)).0 n in
          ap (λ f. allows among qos (record { filter = f; ceiling = c }) || there) (sym same)
          ∙ absorbed (allows among qos (record { filter = string_bytes e.0; ceiling = e.1 })) new there (λ h.
          allows-more among qos (string_bytes k) e.1 c (below c e.1 low) (ap (λ f. allows among qos (record { filter = f; ceiling = e.1 })) same ∙ h))
      go false n low rest = ap (λ b. allows among qos (record { filter = string_bytes e.0; ceiling = e.1 }) || b) (rest low) ∙ moved (allows among qos (record { filter = string_bytes e.0; ceiling = e.1 })) there (new || false)

  -- a filter that stands already with at least this ceiling
  pub has-any : (among : List ℕ → Bool) (qos : ℕ) (es : List (String Y × ℕ)) (f : List ℕ) (c : ℕ) → has_ceiling (nat_le c) (lookup (λ k. bytes_eq f (string_bytes k)) es) ≡ true
      → list_any (allows among qos) (standings es) ≡ (list_any (allows among qos) (standings es) || list_any (allows among qos) (record { filter = f; ceiling = c } ∷ []))
  has-any among qos [] f c h = absurd (cc)
  has-any among qos (e ∷ es) f c h = go (bytes_eq f (string_bytes e.0)) refl h (has-any among qos es f c)
    where
      there : Bool
      there = list_any (allows among qos) (standings es)

      new : Bool
      new = allows among qos (record { filter = f; ceiling = c })

      first : Bool
      first = allows among qos (record { filter = string_bytes e.0; ceiling = e.1 })

      go : (b : Bool) → bytes_eq f (string_bytes e.0) ≡ b → has_ceiling (nat_le c) (cond b (Some e.1) (lookup (λ k. bytes_eq f (string_bytes k)) es)) ≡ true
          → (has_ceiling (nat_le c) (lookup (λ k. bytes_eq f (string_bytes k)) es) ≡ true → there ≡ (there || (new || false))) → (first || there) ≡ ((first || there) || (new || false))
      go true n h rest =
          let same : f ≡ string_bytes e.0 = (bytes_eq-Decides f (string_bytes e.0)).0 n in
          held first new there (λ p. ap (λ g. allows among qos (record { filter = g; ceiling = e.1 })) (sym same) ∙ allows-more among qos f c e.1 (within c e.1 h) p)
      go false n h rest = ap (λ b. first || b) (rest h) ∙ moved first there (new || false)

  pub put-all : (test : List ℕ → Bool) (es : List (String Y × ℕ)) (k : String Y) (c : ℕ) → test (string_bytes k) ≡ true → AllFilters test es → AllFilters test (insert_entry string_eq es k c)
  put-all test [] k c h all = (h, tt)
  put-all test (e ∷ es) k c h all = go (string_eq k e.0) (put-all test es k c h all.1)
    where
      go : (b : Bool) → AllFilters test (insert_entry string_eq es k c) → AllFilters test (if b then (e.0, c) ∷ es else e ∷ insert_entry string_eq es k c)
      go true rest = all
      go false rest = (all.0, rest)

  -- ---- a topic is looked up among filters without a wildcard

  none-there : (topic : List ℕ) (test : ℕ → Bool) (k : String Y) (es : List (String Y × ℕ)) → topic ≡ string_bytes k → AllFilters is_name es → AllByRecursion (λ y. string_eq k y ≡ false) (keys_of es)
      → list_any (λ s. matches s.filter topic && test s.ceiling) (standings es) ≡ false
  none-there topic test k [] same named apart = refl
  none-there topic test k (e ∷ es) same named apart =
      ap (λ b. (b && test e.1) || list_any (λ s. matches s.filter topic && test s.ceiling) (standings es))
      (literal-matches (string_bytes e.0) topic named.0 ∙ ap (λ b. b && not (is_empty topic)) (ap (λ t. bytes_eq t (string_bytes e.0)) same ∙ apart.0))
      ∙ none-there topic test k es same named.1 apart.1

  pub literal-any : (topic : List ℕ) (test : ℕ → Bool) (es : List (String Y × ℕ)) → AllFilters is_name es → IsDistinct string_eq (keys_of es)
      → list_any (λ s. matches s.filter topic && test s.ceiling) (standings es) ≡ has_ceiling test (cond (is_empty topic) None (lookup (λ k. bytes_eq topic (string_bytes k)) es))
  unfolding IsDistinct
  literal-any topic test [] named apart = sym (go (is_empty topic))
    where
      go : (b : Bool) → has_ceiling test (cond b None None) ≡ false
      go true = refl
      go false = refl
  literal-any topic test (e ∷ es) named apart =
      ap (λ b. (b && test e.1) || list_any (λ s. matches s.filter topic && test s.ceiling) (standings es)) (literal-matches (string_bytes e.0) topic named.0)
      ∙ go (bytes_eq topic (string_bytes e.0)) refl (literal-any topic test es named.1 apart.1)
    where
      rest : Bool
      rest = list_any (λ s. matches s.filter topic && test s.ceiling) (standings es)

      one : (empty : Bool) → (((true && not empty) && test e.1) || false) ≡ has_ceiling test (cond empty None (Some e.1))
      one true = refl
      one false = or_none (test e.1)
        where
          or_none : (b : Bool) → (b || false) ≡ b
          or_none true = refl
          or_none false = refl

      go : (b : Bool) → bytes_eq topic (string_bytes e.0) ≡ b → rest ≡ has_ceiling test (cond (is_empty topic) None (lookup (λ k. bytes_eq topic (string_bytes k)) es))
          → (((b && not (is_empty topic)) && test e.1) || rest) ≡ has_ceiling test (cond (is_empty topic) None (cond b (Some e.1) (lookup (λ k. bytes_eq topic (string_bytes k)) es)))
      go true n is =
          ap (λ r. ((true && not (is_empty topic)) && test e.1) || r) (none-there topic test e.0 es ((bytes_eq-Decides topic (string_bytes e.0)).0 n) named.1 apart.0)
          ∙ one (is_empty topic)
      go false n is = is

  -- each filter has a ceiling
  pub literal-named : (topic : List ℕ) (es : List (String Y × ℕ)) → AllFilters is_name es → IsDistinct string_eq (keys_of es)
      → list_any (λ s. matches s.filter topic) (standings es) ≡ is_some (cond (is_empty topic) None (lookup (λ k. bytes_eq topic (string_bytes k)) es))
  literal-named topic es named apart = (λ i. list_any (λ s. sym (whole (matches s.filter topic)) i) (standings es)) ∙ literal-any topic (λ _. true) es named apart
    where
      whole : (b : Bool) → (b && true) ≡ b
      whole true = refl
      whole false = refl

  -- ---- all filters

  pub split-named : (topic : List ℕ) (literal wild : List (String Y × ℕ)) → IsSplit literal wild
      → list_any (λ s. matches s.filter topic) (standings literal ++ standings wild)
      ≡ (is_some (cond (is_empty topic) None (lookup (λ k. bytes_eq topic (string_bytes k)) literal)) || list_any (λ k. matches (string_bytes k) topic) (keys_of wild))
  split-named topic literal wild split =
      list_any-append (λ s. matches s.filter topic) (standings literal) (standings wild)
      ∙ ap (λ b. b || list_any (λ s. matches s.filter topic) (standings wild)) (literal-named topic literal split.0 split.2)
      ∙ ap (λ b. is_some (cond (is_empty topic) None (lookup (λ k. bytes_eq topic (string_bytes k)) literal)) || b) (sym (keys-any (λ f. matches f topic) wild))

  pub split-any : (topic : List ℕ) (test : ℕ → Bool) (literal wild : List (String Y × ℕ)) → IsSplit literal wild
      → list_any (λ s. matches s.filter topic && test s.ceiling) (standings literal ++ standings wild)
      ≡ (has_ceiling test (cond (is_empty topic) None (lookup (λ k. bytes_eq topic (string_bytes k)) literal)) || list_any (λ e. matches (string_bytes e.0) topic && test e.1) wild)
  split-any topic test literal wild split =
      list_any-append (λ s. matches s.filter topic && test s.ceiling) (standings literal) (standings wild)
      ∙ ap (λ b. b || list_any (λ s. matches s.filter topic && test s.ceiling) (standings wild)) (literal-any topic test literal split.0 split.2)
      ∙ ap (λ b. has_ceiling test (cond (is_empty topic) None (lookup (λ k. bytes_eq topic (string_bytes k)) literal)) || b) (sym (entries-any (λ f ceiling. matches f topic && test ceiling) wild))

  -- ---- how many filters there are

  abbrev names : List (String Y × ℕ) → List (List ℕ)
  names [] = []
  names (e ∷ es) = string_bytes e.0 ∷ names es

  names-length : (es : List (String Y × ℕ)) → length (names es) ≡ length es
  names-length [] = refl
  names-length (e ∷ es) = let rest = names-length es in omega (arith, rest)

  standings-length : (es : List (String Y × ℕ)) → length (standings es) ≡ length es
  standings-length [] = refl
  standings-length (e ∷ es) = let rest = standings-length es in omega (arith, rest)

  pub all-length : (literal wild : List (String Y × ℕ)) → length (standings literal ++ standings wild) ≡ length literal + length wild
  all-length literal wild =
      let joined = length-append (standings literal) (standings wild) in
      let first = standings-length literal in
      let second = standings-length wild in
      omega (arith, joined, first, second)

  -- filters none of which has a wildcard
  pub all-names : (literal : List (String Y × ℕ)) → AllFilters is_name literal → list_all (λ s. is_name s.filter) (standings literal) ≡ true
  all-names [] h = refl
  all-names (e ∷ es) h = ap (λ b. b && list_all (λ s. is_name s.filter) (standings es)) h.0 ∙ all-names es h.1

  pub all-literal : (literal wild : List (String Y × ℕ)) → length wild ≡ 0 → AllFilters is_name literal → list_all (λ s. is_name s.filter) (standings literal ++ standings wild) ≡ true
  all-literal literal [] h named = ap (list_all (λ s. is_name s.filter)) (append-nil (standings literal)) ∙ all-names literal named
  all-literal literal (e ∷ es) h named = absurd (omega (arith, h))

  names-any : (f : List ℕ) (es : List (String Y × ℕ)) → list_any (bytes_eq f) (names es) ≡ list_any (λ s. bytes_eq f s.filter) (standings es)
  names-any f [] = refl
  names-any f (e ∷ es) = ap (λ b. bytes_eq f (string_bytes e.0) || b) (names-any f es)

  names-apart : (k : String Y) (es : List (String Y × ℕ)) → AllByRecursion (λ y. string_eq k y ≡ false) (keys_of es) → AllByRecursion (λ y. bytes_eq (string_bytes k) y ≡ false) (names es)
  names-apart k [] h = tt
  names-apart k (e ∷ es) h = (h.0, names-apart k es h.1)

  names-distinct : (es : List (String Y × ℕ)) → IsDistinct string_eq (keys_of es) → IsDistinct bytes_eq (names es)
  unfolding IsDistinct
  names-distinct [] h = tt
  names-distinct (e ∷ es) h = (names-apart e.0 es h.0, names-distinct es h.1)

  -- a filter without a wildcard is none of those with one
  others-apart : (f : List ℕ) → is_name f ≡ true → (es : List (String Y × ℕ)) → AllFilters (λ g. not (is_name g)) es → AllByRecursion (λ y. bytes_eq f y ≡ false) (names es)
  others-apart f h [] wild = tt
  others-apart f h (e ∷ es) wild = (go (bytes_eq f (string_bytes e.0)) refl, others-apart f h es wild.1)
    where
      go : (b : Bool) → bytes_eq f (string_bytes e.0) ≡ b → b ≡ false
      go false n = refl
      go true n =
          let bad : not (is_name f) ≡ true = ap (λ g. not (is_name g)) ((bytes_eq-Decides f (string_bytes e.0)).0 n) ∙ wild.0 in
          absurd (let none : not (is_name f) ≡ false = ap not h in cc)

both-apart : (f : List ℕ) (xs ys : List (List ℕ)) → AllByRecursion (λ y. bytes_eq f y ≡ false) xs → AllByRecursion (λ y. bytes_eq f y ≡ false) ys → AllByRecursion (λ y. bytes_eq f y ≡ false) (xs ++ ys)
both-apart f [] ys a b = b
both-apart f (x ∷ xs) ys a b = (a.0, both-apart f xs ys a.1 b)

both-distinct : {Y : Type 0} (literal wild : List (String Y × ℕ)) → IsSplit literal wild → IsDistinct string_eq (keys_of wild) → IsDistinct bytes_eq (names literal ++ names wild)
unfolding IsDistinct
both-distinct [] wild split apart = names-distinct wild apart
both-distinct (e ∷ es) wild split apart =
    (both-apart (string_bytes e.0) (names es) (names wild) (names-apart e.0 es split.2.0) (others-apart (string_bytes e.0) split.0.0 wild split.1), both-distinct es wild (split.0.1, split.1, split.2.1) apart)

-- each filter of a list is among the different ones
unique-has : (fs : List (List ℕ)) (f : List ℕ) → list_any (bytes_eq f) fs ≡ true → list_any (bytes_eq f) (unique_keys bytes_eq fs) ≡ true
unique-has [] f h = h
unique-has (g ∷ fs) f h = go (bytes_eq f g) refl (list_any (bytes_eq g) fs) refl h (unique-has fs f)
  where
    go : (a : Bool) → bytes_eq f g ≡ a → (b : Bool) → list_any (bytes_eq g) fs ≡ b → (a || list_any (bytes_eq f) fs) ≡ true → (list_any (bytes_eq f) fs ≡ true → list_any (bytes_eq f) (unique_keys bytes_eq fs) ≡ true)
        → list_any (bytes_eq f) (cond b (unique_keys bytes_eq fs) (g ∷ unique_keys bytes_eq fs)) ≡ true
    go true n true m h rest = rest (list_any_congr nat_list_eq_equiv f g fs n ∙ m)
    go true n false m h rest = ap (λ a. a || list_any (bytes_eq f) (unique_keys bytes_eq fs)) n
    go false n true m h rest = rest h
    go false n false m h rest = ap (λ a. a || list_any (bytes_eq f) (unique_keys bytes_eq fs)) n ∙ rest h

pub different : {Y : Type 0} (literal wild : List (String Y × ℕ)) (fs : List (List ℕ)) → IsSplit literal wild → IsDistinct string_eq (keys_of wild)
    → ((f : List ℕ) → list_any (λ s. bytes_eq f s.filter) (standings literal ++ standings wild) ≡ true → list_any (bytes_eq f) fs ≡ true) → length literal + length wild ≤ distinct_count bytes_eq fs
different literal wild fs split apart within =
    let le : length (names literal ++ names wild) ≤ length (unique_keys bytes_eq fs) =
    length-le_from_is_member nat_list_eq_equiv (names literal ++ names wild) (unique_keys bytes_eq fs) (both-distinct literal wild split apart) (λ f here. unique-has fs f (within f (sym (all f) ∙ here))) in
    let joined = length-append (names literal) (names wild) in
    let first = names-length literal in
    let second = names-length wild in
    omega (arith, le, joined, first, second)
  where
    all : (f : List ℕ) → list_any (bytes_eq f) (names literal ++ names wild) ≡ list_any (λ s. bytes_eq f s.filter) (standings literal ++ standings wild)
    all f =
        list_any-append (bytes_eq f) (names literal) (names wild)
        ∙ ap (λ b. b || list_any (bytes_eq f) (names wild)) (names-any f literal)
        ∙ ap (λ b. list_any (λ s. bytes_eq f s.filter) (standings literal) || b) (names-any f wild)
        ∙ sym (list_any-append (λ s. bytes_eq f s.filter) (standings literal) (standings wild))
