-- A Topic Filter without a wildcard matches the Topic Name that equals it, and no other (MQTT 5.0, section 4.7).
use Rattle.std.proofs.Common.{◌≡◌, ℕ, ◌==◌, Bool, true, false, cond, if◌then◌else◌, ◌&&◌, ◌||◌, not, List, [], ◌∷◌, length, None, Some, refl, ap, sym, ◌∙◌, subst}
use Rattle.std.specs.Prelude.{is_none}
use Rattle.std.specs.Option.{option_or}
use Rattle.std.specs.Str.{bytes_eq}
use Rattle.std.specs.List.{list_any, onto_first, join_with_byte}
use Rattle.std.proofs.lemmas.List.Splits.{join_with_byte-slice_split}
use Rattle.std.proofs.lemmas.Slice.Eq.{bytes_eq-Decides}
use Rattle.mq_topic.specs.Levels.{is_name, levels_of, is_crowded, level_fault, first_fault, filter_fault}
use Rattle.mq_topic.specs.declared.filter.FilterFault.TheVariants.{HashNotLast, HashNotAlone, PlusNotAlone}
use Rattle.mq_topic.specs.Matching.{is_hash, is_plus, levels_match, begins_wild, begins_dollar, is_empty, matches}

-- ---- parts of a Bool

pub is_first : (a b : Bool) → (a && b) ≡ true → a ≡ true
is_first true b h = refl
is_first false b h = absurd (cc)

pub is_second : (a b : Bool) → (a && b) ≡ true → b ≡ true
is_second true b h = h
is_second false b h = absurd (cc)

unset : (b : Bool) → not b ≡ true → b ≡ false
unset false h = refl
unset true h = absurd (cc)

pub never_true : (b : Bool) → (b ≡ true → ⊥) → b ≡ false
never_true false never = refl
never_true true never = absurd (never refl)

pub equal : (xs ys : List ℕ) → bytes_eq xs ys ≡ true → xs ≡ ys
equal xs ys h = (bytes_eq-Decides xs ys).0 h

pub itself : (xs : List ℕ) → bytes_eq xs xs ≡ true
itself xs = (bytes_eq-Decides xs xs).1 refl

-- ---- the levels of a text without wildcards

abbrev pub AreNames : List (List ℕ) → Type 0
AreNames [] = Unit {0}
AreNames (level ∷ levels) = (is_name level ≡ true) × AreNames levels

pub plain : (b : ℕ) (bytes : List ℕ) → is_name (b ∷ bytes) ≡ true → (not (b == 35) && not (b == 43)) ≡ true
plain b bytes h = is_first (not (b == 35) && not (b == 43)) (is_name bytes) h

pub others : (b : ℕ) (bytes : List ℕ) → is_name (b ∷ bytes) ≡ true → is_name bytes ≡ true
others b bytes h = is_second (not (b == 35) && not (b == 43)) (is_name bytes) h

pub levels-named : (bytes : List ℕ) → is_name bytes ≡ true → AreNames (levels_of bytes)
levels-named [] h = (refl, tt)
levels-named (b ∷ bytes) h = go (b == 47) (levels_of bytes) (levels-named bytes (others b bytes h))
  where
    go : (cut : Bool) (levels : List (List ℕ)) → AreNames levels → AreNames (cond cut ([] ∷ levels) (onto_first b levels))
    go true levels rest = (refl, rest)
    go false [] rest = (ap (λ t. t && true) (plain b bytes h), tt)
    go false (level ∷ levels) rest = (ap (λ t. t && is_name level) (plain b bytes h) ∙ rest.0, rest.1)

no-byte : (test : ℕ → Bool) → ((b : ℕ) → (not (b == 35) && not (b == 43)) ≡ true → test b ≡ false) → (level : List ℕ) → is_name level ≡ true → list_any test level ≡ false
no-byte test none [] h = refl
no-byte test none (b ∷ bytes) h = ap (λ t. t || list_any test bytes) (none b (plain b bytes h)) ∙ no-byte test none bytes (others b bytes h)

pub hash-none : (b : ℕ) → (not (b == 35) && not (b == 43)) ≡ true → (b == 35) ≡ false
hash-none b h = unset (b == 35) (is_first (not (b == 35)) (not (b == 43)) h)

pub plus-none : (b : ℕ) → (not (b == 35) && not (b == 43)) ≡ true → (b == 43) ≡ false
plus-none b h = unset (b == 43) (is_second (not (b == 35)) (not (b == 43)) h)

no-hash : (level : List ℕ) → is_name level ≡ true → is_hash level ≡ false
no-hash [] h = refl
no-hash (b ∷ bytes) h = ap (λ t. t && bytes_eq bytes []) (hash-none b (plain b bytes h))

no-plus : (level : List ℕ) → is_name level ≡ true → is_plus level ≡ false
no-plus [] h = refl
no-plus (b ∷ bytes) h = ap (λ t. t && bytes_eq bytes []) (plus-none b (plain b bytes h))

-- ---- none is at fault

pub level-good : (level : List ℕ) (last : Bool) → is_name level ≡ true → level_fault level last ≡ None
level-good level last h =
    ap (λ t. if t && not (length level == 1) then Some HashNotAlone else if t && not last then Some HashNotLast else if is_crowded 43 level then Some PlusNotAlone else None) (no-byte (λ b. b == 35) hash-none level h)
    ∙ ap (λ t. if t && not (length level == 1) then Some PlusNotAlone else None) (no-byte (λ b. b == 43) plus-none level h)

levels-good : (levels : List (List ℕ)) → AreNames levels → first_fault levels ≡ None
levels-good [] h = refl
levels-good (level ∷ []) h = level-good level true h.0
levels-good (level ∷ next ∷ levels) h = ap (λ o. option_or o (first_fault (next ∷ levels))) (level-good level false h.0) ∙ levels-good (next ∷ levels) h.1

-- ---- they match their like

levels-self : (levels : List (List ℕ)) → levels_match levels levels ≡ true
levels-self [] = refl
levels-self (level ∷ []) = ap (λ t. is_hash level || ((is_plus level || t) && true)) (itself level) ∙ go (is_hash level) (is_plus level)
  where
    go : (a b : Bool) → (a || ((b || true) && true)) ≡ true
    go true b = refl
    go false true = refl
    go false false = refl
levels-self (level ∷ next ∷ levels) = ap (λ t. (is_plus level || t) && levels_match (next ∷ levels) (next ∷ levels)) (itself level) ∙ ap (λ t. (is_plus level || true) && t) (levels-self (next ∷ levels)) ∙ go (is_plus level)
  where
    go : (b : Bool) → ((b || true) && true) ≡ true
    go true = refl
    go false = refl

levels-same : (filters names : List (List ℕ)) → AreNames filters → levels_match filters names ≡ true → filters ≡ names
levels-same [] [] f h = refl
levels-same [] (name ∷ names) f h = absurd (cc)
levels-same (filter ∷ []) [] f h = absurd (let bad : is_hash filter ≡ false = no-hash filter f.0 in cc)
levels-same (filter ∷ next ∷ filters) [] f h = absurd (cc)
levels-same (filter ∷ []) (name ∷ names) f h =
    let both : (bytes_eq filter name && levels_match [] names) ≡ true =
    sym (ap (λ t. t || ((is_plus filter || bytes_eq filter name) && levels_match [] names)) (no-hash filter f.0) ∙ ap (λ t. (t || bytes_eq filter name) && levels_match [] names) (no-plus filter f.0)) ∙ h in
    ap (λ l. l ∷ []) (equal filter name (is_first (bytes_eq filter name) (levels_match [] names) both)) ∙ ap (λ ls. name ∷ ls) (levels-same [] names tt (is_second (bytes_eq filter name) (levels_match [] names) both))
levels-same (filter ∷ next ∷ filters) (name ∷ names) f h =
    let both : (bytes_eq filter name && levels_match (next ∷ filters) names) ≡ true =
    sym (ap (λ t. (t || bytes_eq filter name) && levels_match (next ∷ filters) names) (no-plus filter f.0)) ∙ h in
    ap (λ l. l ∷ next ∷ filters) (equal filter name (is_first (bytes_eq filter name) (levels_match (next ∷ filters) names) both))
    ∙ ap (λ ls. name ∷ ls) (levels-same (next ∷ filters) names f.1 (is_second (bytes_eq filter name) (levels_match (next ∷ filters) names) both))

same-levels : (filter name : List ℕ) → levels_of filter ≡ levels_of name → filter ≡ name
same-levels filter name h = sym (join_with_byte-slice_split 47 filter) ∙ ap (join_with_byte 47) h ∙ join_with_byte-slice_split 47 name

-- ---- the law

not-wild : (bytes : List ℕ) → is_name bytes ≡ true → begins_wild bytes ≡ false
not-wild [] h = refl
not-wild (b ∷ bytes) h = ap (λ t. t || (b == 43)) (hash-none b (plain b bytes h)) ∙ plus-none b (plain b bytes h)

matches-itself : (filter : List ℕ) → is_name filter ≡ true → matches filter filter ≡ not (is_empty filter)
unfolding matches
matches-itself [] h = refl
matches-itself (b ∷ bytes) h =
    ap (λ o. is_none o && (is_name text && (true && (levels_match (levels_of text) (levels_of text) && not (begins_wild text && begins_dollar text))))) (levels-good (levels_of text) (levels-named text h))
    ∙ ap (λ t. t && (levels_match (levels_of text) (levels_of text) && not (begins_wild text && begins_dollar text))) h
    ∙ ap (λ t. t && not (begins_wild text && begins_dollar text)) (levels-self (levels_of text))
    ∙ ap (λ t. not (t && begins_dollar text)) (not-wild text h)
  where
    text : List ℕ
    text = b ∷ bytes

pub matched-levels : (filter name : List ℕ) → matches filter name ≡ true → levels_match (levels_of filter) (levels_of name) ≡ true
unfolding matches
matched-levels filter name h =
    let a = is_second (is_none (filter_fault filter)) (is_name name && (not (is_empty name) && (levels_match (levels_of filter) (levels_of name) && not (begins_wild filter && begins_dollar name)))) h in
    let b = is_second (is_name name) (not (is_empty name) && (levels_match (levels_of filter) (levels_of name) && not (begins_wild filter && begins_dollar name))) a in
    let c = is_second (not (is_empty name)) (levels_match (levels_of filter) (levels_of name) && not (begins_wild filter && begins_dollar name)) b in
    is_first (levels_match (levels_of filter) (levels_of name)) (not (begins_wild filter && begins_dollar name)) c

pub matched-name : (filter name : List ℕ) → matches filter name ≡ true → is_name name ≡ true
unfolding matches
matched-name filter name h =
    is_first (is_name name) (not (is_empty name) && (levels_match (levels_of filter) (levels_of name) && not (begins_wild filter && begins_dollar name)))
    (is_second (is_none (filter_fault filter)) (is_name name && (not (is_empty name) && (levels_match (levels_of filter) (levels_of name) && not (begins_wild filter && begins_dollar name)))) h)

pub literal-matches : (filter name : List ℕ) → is_name filter ≡ true → matches filter name ≡ (bytes_eq name filter && not (is_empty name))
literal-matches filter name h = go (bytes_eq name filter) refl
  where
    go : (b : Bool) → bytes_eq name filter ≡ b → matches filter name ≡ (b && not (is_empty name))
    go true n = subst (λ (t : List ℕ). matches filter t ≡ not (is_empty t)) (sym (equal name filter n)) (matches-itself filter h)
    go false n = never_true (matches filter name) (λ m.
        let same : filter ≡ name = same-levels filter name (levels-same (levels_of filter) (levels_of name) (levels-named filter h) (matched-levels filter name m)) in
        let yes : bytes_eq name filter ≡ true = ap (λ t. bytes_eq name t) same ∙ itself name in
        absurd (cc))
