-- A filter that matches a name is near it: they are alike up to a `#` or to the end of one of them, where a `+` stands for a level.
use Rattle.std.proofs.Common.{◌≡◌, ℕ, ◌==◌, ◌≤◌, ◌<◌, min, nat_le, arith, length, drop, Bool, true, false, cond, ◌&&◌, ◌||◌, List, [], ◌∷◌, refl, ap, sym, ◌∙◌, subst}
use Rattle.std.specs.Str.{bytes_eq}
use Rattle.std.specs.List.{onto_first}
use Rattle.std.proofs.lemmas.Bool.{eqb-true, eq-eqb}
use Rattle.std.proofs.lemmas.Bool.Decides.{nat_tests}
use Rattle.std.proofs.lemmas.List.{drop_all, length-drop}
use Rattle.mq_topic.specs.Levels.{is_name, levels_of}
use Rattle.mq_topic.specs.Matching.{is_hash, is_plus, is_empty, levels_match, matches}
use Rattle.mq_filters.specs.Standings.{after_level, is_near}
use Rattle.mq_filters.proofs.LiteralLaws.{AreNames, levels-named, plain, others, hash-none, plus-none, equal, matched-levels, matched-name}

-- ---- the levels of a text

-- a text has a first level
record Levels (bytes : List ℕ) : Type 0 where
  front : List ℕ
  back : List (List ℕ)
  both : levels_of bytes ≡ front ∷ back

levels : (bytes : List ℕ) → Levels bytes
levels [] = record { front = []; back = []; both = refl }
levels (b ∷ bytes) = go (b == 47) refl (levels bytes)
  where
    go : (c : Bool) → (b == 47) ≡ c → Levels bytes → Levels (b ∷ bytes)
    go true n rest = record { front = []; back = levels_of bytes; both = ap (λ c. cond c ([] ∷ levels_of bytes) (onto_first b (levels_of bytes))) n }
    go false n rest = record { front = b ∷ rest.front; back = rest.back; both = ap (λ c. cond c ([] ∷ levels_of bytes) (onto_first b (levels_of bytes))) n ∙ ap (onto_first b) rest.both }

abbrev later : List (List ℕ) → List (List ℕ)
later [] = []
later (level ∷ levels) = levels

-- what follows the first level begins with an empty one
after-levels : (name : List ℕ) → levels_of (after_level name) ≡ [] ∷ later (levels_of name)
after-levels [] = refl
after-levels (b ∷ bytes) = go (b == 47) refl (after-levels bytes)
  where
    same : (ls : List (List ℕ)) → later ls ≡ later (onto_first b ls)
    same [] = refl
    same (l ∷ ls) = refl

    go : (c : Bool) → (b == 47) ≡ c → levels_of (after_level bytes) ≡ [] ∷ later (levels_of bytes) → levels_of (cond c (b ∷ bytes) (after_level bytes)) ≡ [] ∷ later (cond c ([] ∷ levels_of bytes) (onto_first b (levels_of bytes)))
    go true n rest = ap (λ c. cond c ([] ∷ levels_of bytes) (onto_first b (levels_of bytes))) n
    go false n rest = rest ∙ ap (λ ls. [] ∷ ls) (same (levels_of bytes))

after-named : (name : List ℕ) → is_name name ≡ true → is_name (after_level name) ≡ true
after-named [] h = refl
after-named (b ∷ bytes) h = go (b == 47) (after-named bytes (others b bytes h))
  where
    go : (c : Bool) → is_name (after_level bytes) ≡ true → is_name (cond c (b ∷ bytes) (after_level bytes)) ≡ true
    go true rest = h
    go false rest = rest

-- ---- a byte more in the first levels

one-byte : (x y s : Bool) (a b e t : Bool) → x ≡ false → y ≡ false → ((x && a) || (((y && b) || (s && e)) && t)) ≡ true → (c d : Bool) → (c || ((d || e) && t)) ≡ true
one-byte true y s a b e t h k m = absurd (cc)
one-byte false true s a b e t h k m = absurd (cc)
one-byte false false false a b e t h k m = absurd (cc)
one-byte false false true a b false t h k m = absurd (cc)
one-byte false false true a b true false h k m = absurd (cc)
one-byte false false true a b true true h k m = λ c d. go c d
  where
    go : (c d : Bool) → (c || ((d || true) && true)) ≡ true
    go true d = refl
    go false true = refl
    go false false = refl

one-byte-more : (y s : Bool) (b e t : Bool) → y ≡ false → (((y && b) || (s && e)) && t) ≡ true → (d : Bool) → ((d || e) && t) ≡ true
one-byte-more true s b e t k m = absurd (cc)
one-byte-more false false b e t k m = absurd (cc)
one-byte-more false true b false t k m = absurd (cc)
one-byte-more false true b true false k m = absurd (cc)
one-byte-more false true b true true k m = λ d. go d
  where
    go : (d : Bool) → ((d || true) && true) ≡ true
    go true = refl
    go false = refl

without-byte : (f : ℕ) (l : List ℕ) (ls : List (List ℕ)) (m : List ℕ) (ms : List (List ℕ)) → (f == 35) ≡ false → (f == 43) ≡ false → levels_match ((f ∷ l) ∷ ls) ((f ∷ m) ∷ ms) ≡ true → levels_match (l ∷ ls) (m ∷ ms) ≡ true
without-byte f l [] m ms hash plus h = one-byte (f == 35) (f == 43) (f == f) (bytes_eq l []) (bytes_eq l []) (bytes_eq l m) (levels_match [] ms) hash plus h (is_hash l) (is_plus l)
without-byte f l (g ∷ gs) m ms hash plus h = one-byte-more (f == 43) (f == f) (bytes_eq l []) (bytes_eq l m) (levels_match (g ∷ gs) ms) plus h (is_plus l)

-- a `+` and its name
either-true : (a b : Bool) → (a || b) ≡ true → (b ≡ true → ⊥) → a ≡ true
either-true true b h never = refl
either-true false b h never = absurd (never h)

first-true : (a b t : Bool) → ((a || b) && t) ≡ true → ((a || b) ≡ true) × (t ≡ true)
first-true true b t h = (refl, h)
first-true false true t h = (refl, h)
first-true false false t h = absurd (cc)

no-plus-name : (l m : List ℕ) → is_name m ≡ true → bytes_eq (43 ∷ l) m ≡ true → ⊥
no-plus-name l m named h =
    let bad : is_name (43 ∷ l) ≡ true = ap is_name (equal (43 ∷ l) m h) ∙ named in
    absurd (cc)

without-plus : (l : List ℕ) (ls : List (List ℕ)) (m : List ℕ) (ms : List (List ℕ)) → is_name m ≡ true → levels_match ((43 ∷ l) ∷ ls) (m ∷ ms) ≡ true → levels_match (l ∷ ls) ([] ∷ ms) ≡ true
without-plus l [] m ms named h =
    let both = first-true (bytes_eq l []) (bytes_eq (43 ∷ l) m) (levels_match [] ms) h in
    let none : l ≡ [] = equal l [] (either-true (bytes_eq l []) (bytes_eq (43 ∷ l) m) both.0 (no-plus-name l m named)) in
    subst (λ (k : List ℕ). levels_match (k ∷ []) ([] ∷ ms) ≡ true) (sym none) both.1
without-plus l (g ∷ gs) m ms named h =
    let both = first-true (bytes_eq l []) (bytes_eq (43 ∷ l) m) (levels_match (g ∷ gs) ms) h in
    let none : l ≡ [] = equal l [] (either-true (bytes_eq l []) (bytes_eq (43 ∷ l) m) both.0 (no-plus-name l m named)) in
    subst (λ (k : List ℕ). levels_match (k ∷ g ∷ gs) ([] ∷ ms) ≡ true) (sym none) both.1

level-named : (m : List ℕ) (ms : List (List ℕ)) (name : List ℕ) → is_name name ≡ true → levels_of name ≡ m ∷ ms → is_name m ≡ true
level-named m ms name named is = (subst (λ (ls : List (List ℕ)). AreNames ls) is (levels-named name named)).0

plus-alike : (filter name : List ℕ) → is_name name ≡ true → levels_match (levels_of (43 ∷ filter)) (levels_of name) ≡ true → levels_match (levels_of filter) (levels_of (after_level name)) ≡ true
plus-alike filter name named h =
    subst (λ (ls : List (List ℕ)). levels_match ls (levels_of (after_level name)) ≡ true) (sym l.both)
    (subst (λ (ms : List (List ℕ)). levels_match (l.front ∷ l.back) ms ≡ true) (sym (after-levels name ∙ ap (λ ls. [] ∷ later ls) m.both))
    (without-plus l.front l.back m.front m.back (level-named m.front m.back name named m.both)
    (subst (λ (ls : List (List ℕ)). levels_match (onto_first 43 ls) (m.front ∷ m.back) ≡ true) l.both
    (subst (λ (ms : List (List ℕ)). levels_match (levels_of (43 ∷ filter)) ms ≡ true) m.both h))))
  where
    l : Levels filter
    l = levels filter

    m : Levels name
    m = levels name

-- ---- other first bytes

first-alike : (l : List ℕ) (ls : List (List ℕ)) (m : List ℕ) (ms : List (List ℕ)) → levels_match (l ∷ ls) (m ∷ ms) ≡ true → (is_hash l || (is_plus l || bytes_eq l m)) ≡ true
first-alike l [] m ms h = go (is_hash l) (is_plus l || bytes_eq l m) (levels_match [] ms) h
  where
    go : (a b t : Bool) → (a || (b && t)) ≡ true → (a || b) ≡ true
    go true b t h = refl
    go false true t h = refl
    go false false t h = h
first-alike l (g ∷ gs) m ms h = go (is_hash l) (is_plus l || bytes_eq l m) (levels_match (g ∷ gs) ms) h
  where
    go : (a b t : Bool) → (b && t) ≡ true → (a || b) ≡ true
    go true b t h = refl
    go false true t h = refl
    go false false t h = absurd (cc)

none-alike : (x y s : Bool) (a b e : Bool) → x ≡ false → y ≡ false → s ≡ false → ((x && a) || ((y && b) || (s && e))) ≡ true → ⊥
none-alike true y s a b e h k n m = absurd (cc)
none-alike false true s a b e h k n m = absurd (cc)
none-alike false false true a b e h k n m = absurd (cc)
none-alike false false false a b e h k n m = absurd (cc)

differ : (f b : ℕ) (filter name : List ℕ) → (f == b) ≡ false → (f == 35) ≡ false → (f == 43) ≡ false → levels_match (levels_of (f ∷ filter)) (levels_of (b ∷ name)) ≡ true → ⊥
differ f b filter name apart hash plus h = go (f == 47) refl (b == 47) refl h
  where
    l : Levels filter
    l = levels filter

    m : Levels name
    m = levels name

    alike : (c d : Bool) → levels_match (cond c ([] ∷ levels_of filter) (onto_first f (levels_of filter))) (cond d ([] ∷ levels_of name) (onto_first b (levels_of name))) ≡ true
        → levels_match (cond c ([] ∷ (l.front ∷ l.back)) ((f ∷ l.front) ∷ l.back)) (cond d ([] ∷ levels_of name) ((b ∷ m.front) ∷ m.back)) ≡ true
    alike c d h =
        subst (λ (ls : List (List ℕ)). levels_match (cond c ([] ∷ ls) (onto_first f ls)) (cond d ([] ∷ levels_of name) ((b ∷ m.front) ∷ m.back)) ≡ true) l.both
        (subst (λ (ms : List (List ℕ)). levels_match (cond c ([] ∷ levels_of filter) (onto_first f (levels_of filter))) (cond d ([] ∷ levels_of name) (onto_first b ms)) ≡ true) m.both h)

    go : (c : Bool) → (f == 47) ≡ c → (d : Bool) → (b == 47) ≡ d → levels_match (cond c ([] ∷ levels_of filter) (onto_first f (levels_of filter))) (cond d ([] ∷ levels_of name) (onto_first b (levels_of name))) ≡ true → ⊥
    go true n true k h =
        let same : f ≡ b = eqb-true f 47 n ∙ sym (eqb-true b 47 k) in
        let bad : (b == b) ≡ false = sym (ap (λ x. x == b) same) ∙ apart in
        absurd (let yes : (b == b) ≡ true = eq-eqb b b refl in cc)
    go true n false k h = absurd (let no-one = first-alike [] (l.front ∷ l.back) (b ∷ m.front) m.back (alike true false h) in cc)
    go false n true k h = none-alike (f == 35) (f == 43) false (bytes_eq l.front []) (bytes_eq l.front []) true hash plus refl (first-alike (f ∷ l.front) l.back [] (levels_of name) (alike false true h))
    go false n false k h = none-alike (f == 35) (f == 43) (f == b) (bytes_eq l.front []) (bytes_eq l.front []) (bytes_eq l.front m.front) hash plus apart (first-alike (f ∷ l.front) l.back (b ∷ m.front) m.back (alike false false h))

-- ---- the law

pub near-levels : (filter name : List ℕ) → is_name name ≡ true → levels_match (levels_of filter) (levels_of name) ≡ true → is_near filter name ≡ true
near-levels [] [] named h = refl
near-levels [] (b ∷ name) named h = absurd (go (b == 47) refl h)
  where
    m : Levels name
    m = levels name

    go : (c : Bool) → (b == 47) ≡ c → levels_match ([] ∷ []) (cond c ([] ∷ levels_of name) (onto_first b (levels_of name))) ≡ true → ⊥
    go true n h = let bad : levels_match ([] ∷ []) ([] ∷ (m.front ∷ m.back)) ≡ true = subst (λ (ms : List (List ℕ)). levels_match ([] ∷ []) ([] ∷ ms) ≡ true) m.both h in absurd (cc)
    go false n h = let bad : levels_match ([] ∷ []) ((b ∷ m.front) ∷ m.back) ≡ true = subst (λ (ms : List (List ℕ)). levels_match ([] ∷ []) (onto_first b ms) ≡ true) m.both h in absurd (cc)
near-levels (f ∷ filter) [] named h = refl
near-levels (f ∷ filter) (b ∷ name) named h = go (f == b) refl (near-levels filter name (others b name named)) (near-levels filter (after_level (b ∷ name)) (after-named (b ∷ name) named))
  where
    l : Levels filter
    l = levels filter

    m : Levels name
    m = levels name

    -- the first bytes are the same
    next : f ≡ b → (c : Bool) → (b == 47) ≡ c → levels_match (cond c ([] ∷ levels_of filter) (onto_first b (levels_of filter))) (cond c ([] ∷ levels_of name) (onto_first b (levels_of name))) ≡ true → levels_match (levels_of filter) (levels_of name) ≡ true
    next same true n h =
        subst (λ (ls : List (List ℕ)). levels_match ls (levels_of name) ≡ true) (sym l.both)
        (subst (λ (ls : List (List ℕ)). levels_match ([] ∷ ls) ([] ∷ levels_of name) ≡ true) l.both h)
    next same false n h =
        subst (λ (ls : List (List ℕ)). levels_match ls (levels_of name) ≡ true) (sym l.both)
        (subst (λ (ms : List (List ℕ)). levels_match (l.front ∷ l.back) ms ≡ true) (sym m.both)
        (without-byte b l.front l.back m.front m.back (hash-none b (plain b name named)) (plus-none b (plain b name named))
        (subst (λ (ls : List (List ℕ)). levels_match (onto_first b ls) ((b ∷ m.front) ∷ m.back) ≡ true) l.both
        (subst (λ (ms : List (List ℕ)). levels_match (onto_first b (levels_of filter)) (onto_first b ms) ≡ true) m.both h))))

    -- a `+` comes first
    past : f ≡ 43 → levels_match (levels_of filter) (levels_of (after_level (b ∷ name))) ≡ true
    past plus = plus-alike filter (b ∷ name) named (subst (λ (g : ℕ). levels_match (levels_of (g ∷ filter)) (levels_of (b ∷ name)) ≡ true) plus h)

    go : (c : Bool) → (f == b) ≡ c → (levels_match (levels_of filter) (levels_of name) ≡ true → is_near filter name ≡ true) → (levels_match (levels_of filter) (levels_of (after_level (b ∷ name))) ≡ true → is_near filter (after_level (b ∷ name)) ≡ true)
        → cond c (is_near filter name) (cond (f == 43) (is_near filter (after_level (b ∷ name))) (f == 35)) ≡ true
    go true n one two = let same : f ≡ b = eqb-true f b n in one (next same (b == 47) refl (subst (λ (g : ℕ). levels_match (levels_of (g ∷ filter)) (levels_of (b ∷ name)) ≡ true) same h))
    go false n one two = by (f == 43) refl
      where
        by : (c : Bool) → (f == 43) ≡ c → cond c (is_near filter (after_level (b ∷ name))) (f == 35) ≡ true
        by true p = two (past (eqb-true f 43 p))
        by false p = last (f == 35) refl
          where
            last : (c : Bool) → (f == 35) ≡ c → c ≡ true
            last true q = refl
            last false q = absurd (differ f b filter name n q p h)

pub near-matches : (filter name : List ℕ) → matches filter name ≡ true → is_near filter name ≡ true
near-matches filter name h = near-levels filter name (matched-name filter name h) (matched-levels filter name h)

-- where a filter begins with `+`, what follows is compared with what follows the first level
pub near-plus : (filter name : List ℕ) → matches (43 ∷ filter) name ≡ true → is_near filter (after_level name) ≡ true
near-plus filter name h =
    let named = matched-name (43 ∷ filter) name h in
    near-levels filter (after_level name) (after-named name named) (plus-alike filter name named (matched-levels (43 ∷ filter) name h))

-- ---- where all common bytes are the same

near-none : (filter : List ℕ) → is_near filter [] ≡ true
near-none [] = refl
near-none (f ∷ filter) = refl

longer : (name : List ℕ) → 0 < length name → is_empty name ≡ false
longer [] h = absurd (omega (arith, h))
longer (b ∷ name) h = refl

-- the name has ended, or else the filter
pub near-ended : (filter name : List ℕ) (at : ℕ) → min (length filter) (length name) ≤ at → at ≤ min (length filter) (length name) → nat_le (length name) (length filter) ≡ is_near (drop at filter) (drop at name)
near-ended filter name at low high = go (nat_le (length name) (length filter)) refl
  where
    go : (b : Bool) → nat_le (length name) (length filter) ≡ b → b ≡ is_near (drop at filter) (drop at name)
    go true n =
        let le : length name ≤ at = grind (arith, nat_tests) in
        sym (ap (is_near (drop at filter)) (drop_all at name le) ∙ near-none (drop at filter))
    go false n =
        let le : length filter ≤ at = grind (arith, nat_tests) in
        let less : at < length name = grind (arith, nat_tests) in
        let size = length-drop at name in
        sym (ap (λ f. is_near f (drop at name)) (drop_all at filter le) ∙ longer (drop at name) (omega (arith, less, size)))
