-- What is kept under Packet Identifiers: each has a place of its own, and what is put into a place changes no other.
use Rattle.std.proofs.Common.{◌≡◌, ◌≢◌, ℕ, ◌/◌, ◌%◌, ◌<◌, ◌≤◌, ◌⊎◌, zero, suc, Bool, true, false, cond, ◌&&◌, count_by, List, [], ◌∷◌, ◌++◌, length, get_or, set, replicate, Option, Some, None, nat_eq, nat_lt, is_some, inl, inr, refl, sym, ap, ◌∙◌, arith}
use Rattle.std.proofs.lemmas.Bool.{eq-eqb, eqb-true, le-ltb, lt-ltb}
use Rattle.std.proofs.lemmas.Bool.Decides.{eqb_tells, leb_tells, nat_tests}
use Rattle.std.proofs.lemmas.List.{get_or-set_other, get_or_past, get_or_read}
use Rattle.std.proofs.lemmas.List.Sums.{get_or-le-sum_by}
use Rattle.std.proofs.lemmas.Grind.{get_or-set_at}
use Rattle.std.proofs.Math.Bool.{and-false}
use Rattle.std.proofs.Math.Nat.{div-add-mod}
use Rattle.mq_rules.specs.declared.by_identifier.Page.{Page}
use Rattle.mq_rules.specs.declared.by_identifier.ByIdentifier.{ByIdentifier}
use Rattle.mq_rules.specs.ByIdentifier.{HasPlace, kept, page_at, value_at}

-- identifiers with the same place are the same
pub same_place : (i j : ℕ) → i / 256 ≡ j / 256 → i % 256 ≡ j % 256 → i ≡ j
same_place i j page slot = omega (arith, div-add-mod i 256, div-add-mod j 256, page, slot)

not_both : (i j : ℕ) → i ≢ j → (nat_eq (i / 256) (j / 256) && nat_eq (i % 256) (j % 256)) ≡ false
not_both i j other =
    elim (eqb_tells (i / 256) (j / 256)) [
      | inl page ↦ elim (eqb_tells (i % 256) (j % 256)) [ inl slot ↦ absurd (other (same_place i j page.1 slot.1)) | inr slot ↦ rw (page.0, slot.0) refl ]
      | inr page ↦ rw page.0 refl
    ]

-- so two identifiers have different places
pub places : (i j : ℕ) → nat_eq i j ≡ (nat_eq (i / 256) (j / 256) && nat_eq (i % 256) (j % 256))
places i j =
    elim (eqb_tells i j) [
      | inl same ↦ same.0 ∙ sym (rw (eq-eqb (i / 256) (j / 256) (ap (λ n. n / 256) same.1), eq-eqb (i % 256) (j % 256) (ap (λ n. n % 256) same.1)) refl)
      | inr other ↦ other.0 ∙ sym (not_both i j other.1)
    ]

module _ {T : Type 0} where
  -- a page that holds nothing adds nothing
  more_empty : (xss : List (List (Option T))) (q : ℕ) → get_or (xss ++ [] ∷ []) q [] ≡ get_or xss q []
  more_empty [] zero = refl
  more_empty [] (suc q) = refl
  more_empty (xs ∷ xss) zero = refl
  more_empty (xs ∷ xss) (suc q) = more_empty xss q

  pub value_at-push : (pages : List (Page T)) (fresh : Page T) → fresh ≡ [] → (q t : ℕ) → value_at (pages ++ fresh ∷ []) q t ≡ value_at pages q t
  value_at-push pages fresh nothing q t = ap (λ page. get_or (get_or (pages ++ page ∷ []) q []) t None) nothing ∙ ap (λ xs. get_or xs t None) (more_empty pages q)

  -- nor do slots that hold nothing
  pub more_none : (xs : List (Option T)) (n t : ℕ) → get_or (xs ++ replicate n None) t None ≡ get_or xs t None
  more_none [] zero t = refl
  more_none [] (suc n) zero = refl
  more_none [] (suc n) (suc t) = more_none [] n t
  more_none (x ∷ xs) n zero = refl
  more_none (x ∷ xs) n (suc t) = more_none xs n t

  -- a page with a place is there
  pub place-page : (pages : List (Page T)) (p s : ℕ) → HasPlace pages p s → p < length pages
  place-page pages p s there = grind (arith, get_or_past)

  -- the page with this number
  pub page_at-is : (pages : List (Page T)) (p : ℕ) (page : Page T) → p < length pages → page ≡ get_or pages p page → page_at pages p ≡ page
  page_at-is pages p page within is = sym (get_or_read pages p page within is [])

  -- where something is kept there is a place
  pub some-place : (pages : List (Page T)) (p s : ℕ) → is_some (value_at pages p s) ≡ true → HasPlace pages p s
  some-place pages p s some = grind (arith, get_or_past)

  -- another page in the place of one
  pub page_at-set : (pages : List (Page T)) (p : ℕ) (page : Page T) → p < length pages → (q : ℕ) → page_at (set pages p page) q ≡ cond (nat_eq p q) page (page_at pages q)
  page_at-set pages p page within q =
      elim (eqb_tells p q) [
        | inl same ↦ get_or-set_at pages p q page [] (sym same.1) within ∙ sym (ap (λ b. cond b page (page_at pages q)) same.0)
        | inr other ↦ get_or-set_other pages p q page [] (λ e. other.1 (sym e)) ∙ sym (ap (λ b. cond b page (page_at pages q)) other.0)
      ]

  pub page_at-written : (pages : List (Page T)) (p : ℕ) (page : Page T) → p < length pages → page_at (set pages p page) p ≡ page
  page_at-written pages p page within = page_at-set pages p page within p ∙ ap (λ b. cond b page (page_at pages p)) (eq-eqb p p refl)

  -- a page with a value in some of its slots, and the same as before in the others
  pub value_at-fill : (pages : List (Page T)) (p : ℕ) (page : Page T) (test : ℕ → Bool) (v : Option T) → p < length pages → ((t : ℕ) → get_or page t None ≡ cond (test t) v (value_at pages p t))
      → (q t : ℕ) → value_at (set pages p page) q t ≡ cond (nat_eq p q && test t) v (value_at pages q t)
  value_at-fill pages p page test v within filled q t =
      ap (λ xs. get_or xs t None) (page_at-set pages p page within q)
      ∙ elim (eqb_tells p q) [
        | inl here ↦ ap (λ b. get_or (cond b page (page_at pages q)) t None) here.0 ∙ filled t
            ∙ ap (λ n. cond (test t) v (value_at pages n t)) here.1 ∙ sym (ap (λ b. cond (b && test t) v (value_at pages q t)) here.0)
        | inr other ↦ ap (λ b. get_or (cond b page (page_at pages q)) t None) other.0 ∙ sym (ap (λ b. cond (b && test t) v (value_at pages q t)) other.0)
      ]

  -- a page whose slots hold the same changes nothing
  pub value_at-same : (pages : List (Page T)) (p : ℕ) (page : Page T) → p < length pages → ((t : ℕ) → get_or page t None ≡ value_at pages p t) → (q t : ℕ) → value_at (set pages p page) q t ≡ value_at pages q t
  value_at-same pages p page within same q t = value_at-fill pages p page (λ _. false) None within same q t ∙ ap (λ b. cond b None (value_at pages q t)) (and-false (nat_eq p q))

  set_one : (xs : List (Option T)) (s : ℕ) (v : Option T) → s < length xs → (t : ℕ) → get_or (set xs s v) t None ≡ cond (nat_eq s t) v (get_or xs t None)
  set_one xs s v within t =
      elim (eqb_tells s t) [
        | inl same ↦ get_or-set_at xs s t v None (sym same.1) within ∙ sym (ap (λ b. cond b v (get_or xs t None)) same.0)
        | inr other ↦ get_or-set_other xs s t v None (λ e. other.1 (sym e)) ∙ sym (ap (λ b. cond b v (get_or xs t None)) other.0)
      ]

  -- what is put into a place is there, and all else stays
  pub value_at-set : (pages : List (Page T)) (p s : ℕ) (v : Option T) (page : Page T) → HasPlace pages p s → page ≡ set (page_at pages p) s v → (q t : ℕ) → value_at (set pages p page) q t ≡ cond (nat_eq p q && nat_eq s t) v (value_at pages q t)
  value_at-set pages p s v page there written =
      value_at-fill pages p page (nat_eq s) v (place-page pages p s there) (λ t. ap (λ xs. get_or xs t None) written ∙ set_one (page_at pages p) s v there t)

  -- tables that have the same in each place keep the same
  pub kept-same : (old new : ByIdentifier T) → ((q t : ℕ) → value_at new.pages.items q t ≡ value_at old.pages.items q t) → (i : ℕ) → kept new i ≡ kept old i
  unfolding kept
  kept-same old new same i = same (i / 256) (i % 256)

  -- what is put into the place of an identifier is kept under it, and all else stays
  pub kept-put : (old new : ByIdentifier T) (identifier p s : ℕ) (v : Option T) → p ≡ identifier / 256 → s ≡ identifier % 256
      → ((q t : ℕ) → value_at new.pages.items q t ≡ cond (nat_eq p q && nat_eq s t) v (value_at old.pages.items q t)) → (i : ℕ) → kept new i ≡ cond (nat_eq identifier i) v (kept old i)
  unfolding kept
  kept-put old new identifier p s v page slot put i = rw (places identifier i, ← page, ← slot) (put (i / 256) (i % 256))

  -- a page that has no value
  pub nothing-used : (page : Page T) → nat_eq (count_by is_some page) 0 ≡ true → (s : ℕ) → get_or page s None ≡ None
  nothing-used page none s = elim (leb_tells (length page) s) [
    | inl over ↦ get_or_past page s None over.1
    | inr under ↦ nothing (get_or page s None) (omega (arith, get_or-le-sum_by (λ x. cond (is_some x) 1 0) page s None (omega (arith, under.1)), eqb-true (count_by is_some page) 0 none))
  ]
    where
      nothing : (x : Option T) → cond (is_some x) 1 0 ≤ 0 → x ≡ None
      nothing None none = refl
      nothing (Some v) none = absurd (omega (arith, none))

  -- a page that has one
  pub some-used : (page : Page T) → nat_eq (count_by is_some page) 0 ≡ false → 0 < count_by is_some page
  some-used page some = grind (arith, nat_tests)

  -- what is kept is found in its place
  pub kept-place : (table : ByIdentifier T) (identifier : ℕ) → is_some (kept table identifier) ≡ true → HasPlace table.pages.items (identifier / 256) (identifier % 256)
  unfolding kept
  kept-place table identifier some = some-place table.pages.items (identifier / 256) (identifier % 256) some

  -- and read from its page
  pub kept-read : (table : ByIdentifier T) (identifier p s : ℕ) (page : Page T) → p ≡ identifier / 256 → s ≡ identifier % 256 → p < length table.pages.items → page ≡ get_or table.pages.items p page → get_or page s None ≡ kept table identifier
  unfolding kept
  kept-read table identifier p s page first second within is = rw (← first, ← second) (ap (λ slots. get_or slots s None) (sym (page_at-is table.pages.items p page within is)))

  -- if there is one
  pub kept-past : (table : ByIdentifier T) (identifier p : ℕ) → p ≡ identifier / 256 → length table.pages.items ≤ p → None ≡ kept table identifier
  unfolding kept
  kept-past table identifier p first past = rw (← first) (sym (ap (λ slots. get_or slots (identifier % 256) None) (get_or_past table.pages.items p [] past)))

-- what another table keeps is kept too
pub kept-all : {T U : Type 0} (old new : ByIdentifier T) (others : ByIdentifier U) (n : ℕ) (v : Option T) → length others.pages.items ≤ n
    → ((q t : ℕ) → value_at new.pages.items q t ≡ cond (nat_lt q n && is_some (value_at others.pages.items q t)) v (value_at old.pages.items q t)) → (i : ℕ) → kept new i ≡ cond (is_some (kept others i)) v (kept old i)
unfolding kept
kept-all {T} {U} old new others n v past all i = all (i / 256) (i % 256) ∙ ap (λ b. cond b v (value_at old.pages.items (i / 256) (i % 256))) (below (i / 256) (i % 256))
  where
    nothing : (q t : ℕ) → n ≤ q → value_at others.pages.items q t ≡ None
    nothing q t over = ap (λ slots. get_or slots t None) (get_or_past others.pages.items q [] (omega (arith, past, over)))

    below : (q t : ℕ) → (nat_lt q n && is_some (value_at others.pages.items q t)) ≡ is_some (value_at others.pages.items q t)
    below q t = elim (leb_tells n q) [
      | inl over ↦ ap (λ b. b && is_some (value_at others.pages.items q t)) (le-ltb q n over.1) ∙ sym (ap (is_some {T = U}) (nothing q t over.1))
      | inr under ↦ ap (λ b. b && is_some (value_at others.pages.items q t)) (lt-ltb q n (omega (arith, under.1)))
    ]

-- or some of it
pub kept-some : {T U : Type 0} (old new : ByIdentifier T) (others : ByIdentifier U) (n : ℕ) (v : Option T) → ((q t : ℕ) → value_at new.pages.items q t ≡ cond (nat_lt q n && is_some (value_at others.pages.items q t)) v (value_at old.pages.items q t))
    → (i : ℕ) → (kept new i ≡ kept old i) ⊎ (kept new i ≡ cond (is_some (kept others i)) v (kept old i))
unfolding kept
kept-some old new others n v some i = go (nat_lt (i / 256) n) refl
  where
    go : (b : Bool) → nat_lt (i / 256) n ≡ b → (value_at new.pages.items (i / 256) (i % 256) ≡ value_at old.pages.items (i / 256) (i % 256))
        ⊎ (value_at new.pages.items (i / 256) (i % 256) ≡ cond (is_some (value_at others.pages.items (i / 256) (i % 256))) v (value_at old.pages.items (i / 256) (i % 256)))
    go true below = inr (some (i / 256) (i % 256) ∙ ap (λ b. cond (b && is_some (value_at others.pages.items (i / 256) (i % 256))) v (value_at old.pages.items (i / 256) (i % 256))) below)
    go false over = inl (some (i / 256) (i % 256) ∙ ap (λ b. cond (b && is_some (value_at others.pages.items (i / 256) (i % 256))) v (value_at old.pages.items (i / 256) (i % 256))) over)
