-- A filter and a name are matched level by level, as each is cut at its first `/`.
use Rattle.std.proofs.Common.{◌≡◌, ℕ, ◌<◌, ◌≤◌, ◌⊎◌, inl, inr, Bool, true, false, not, ◌&&◌, ◌||◌, eqb, List, [], ◌∷◌, length, Some, None, Bor, refl, sym, ap, ◌∙◌, arith, lit<}
use Rattle.std.specs.List.{position_or_len, before_first, after_first}
use Rattle.std.proofs.lemmas.Bool.{cases_lt}
use Rattle.std.proofs.lemmas.Str.Pattern.{split_once_first, IsSplitOnceResult}
use Rattle.std.specs.Str.{bytes_eq}
use Rattle.std.proofs.lemmas.List.Splits.{slice_split_first, slice_split_none, length-slice_split}
use Rattle.std.proofs.lemmas.List.Sums.{fails_before_first, prefix_len-le-length}
use Rattle.std.proofs.lemmas.Bool.Decides.{nat_tests}
use Rattle.mq_topic.specs.Levels.{levels_of}
use Rattle.mq_topic.specs.Matching.{is_hash, is_plus, levels_match}
use Rattle.mq_topic.proofs.Cutting.{is_slash, IsCut}

-- the text has no `/`
pub record IsUncut (bytes : List ℕ) : Type 0 where
  pub whole : position_or_len is_slash bytes ≡ length bytes

pub levels-cut : (bytes level others : List ℕ) → IsCut bytes level others → levels_of bytes ≡ level ∷ levels_of others
levels-cut bytes level others cut = rw (cut.first, cut.rest) (slice_split_first is_slash bytes 0 cut.found)

pub levels-uncut : (bytes : List ℕ) → IsUncut bytes → levels_of bytes ≡ bytes ∷ []
levels-uncut bytes uncut = slice_split_none is_slash bytes (λ k d lt. fails_before_first is_slash bytes k d (let w = uncut.whole in omega arith))

has_levels : (bytes : List ℕ) → 0 < length (levels_of bytes)
has_levels bytes = omega (arith, length-slice_split is_slash bytes)

-- no matter what it is, nothing after `&&` or `||` counts that is false
and_false : (a : Bool) → (a && false) ≡ false
and_false true = refl
and_false false = refl

or_false : (a : Bool) → (a || false) ≡ a
or_false true = refl
or_false false = refl

and_true : (a : Bool) → (a && true) ≡ a
and_true true = refl
and_true false = refl

-- ---- lists of levels

match-inner : (level : List ℕ) (filters : List (List ℕ)) (name : List ℕ) (names : List (List ℕ)) → 0 < length filters
    → levels_match (level ∷ filters) (name ∷ names) ≡ ((is_plus level || bytes_eq level name) && levels_match filters names)
match-inner level [] name names h = absurd (omega arith)
match-inner level (next ∷ filters) name names h = refl

match-many : (level name : List ℕ) (names : List (List ℕ)) → 0 < length names → levels_match (level ∷ []) (name ∷ names) ≡ is_hash level
match-many level name [] h = absurd (omega arith)
match-many level name (next ∷ names) h = ap (λ b. is_hash level || b) (and_false (is_plus level || bytes_eq level name)) ∙ or_false (is_hash level)

match-one : (level name : List ℕ) → levels_match (level ∷ []) (name ∷ []) ≡ (is_hash level || (is_plus level || bytes_eq level name))
match-one level name = ap (λ b. is_hash level || b) (and_true (is_plus level || bytes_eq level name))

match-none : (level : List ℕ) (filters : List (List ℕ)) → 0 < length filters → levels_match (level ∷ filters) [] ≡ false
match-none level [] h = absurd (omega arith)
match-none level (next ∷ filters) h = refl

-- ---- texts

-- a text with a `/` isn't `#`
cut_is_no_hash : (bytes : List ℕ) → position_or_len is_slash bytes < length bytes → is_hash bytes ≡ false
cut_is_no_hash [] cut = refl
cut_is_no_hash (b ∷ []) cut = grind (arith, nat_tests)
cut_is_no_hash (b ∷ next ∷ bytes) cut = and_false (eqb b 35)

position_or_len_whole : (bytes : List ℕ) → length bytes ≤ position_or_len is_slash bytes → position_or_len is_slash bytes ≡ length bytes
position_or_len_whole bytes h = let le = prefix_len-le-length (λ b. not (is_slash b)) bytes in omega arith

-- both have a `/`
pub match-cut : (filter level filters name name_level names : List ℕ) → IsCut filter level filters → IsCut name name_level names
    → levels_match (levels_of filter) (levels_of name) ≡ ((is_plus level || bytes_eq level name_level) && levels_match (levels_of filters) (levels_of names))
match-cut filter level filters name name_level names f n =
    ap (λ a. levels_match a (levels_of name)) (levels-cut _ _ _ f) ∙ (ap (λ b. levels_match (level ∷ levels_of filters) b) (levels-cut _ _ _ n)
    ∙ match-inner level (levels_of filters) name_level (levels_of names) (has_levels filters))

-- levels that match none are `#` alone, and that has no `/`
match-nothing : (filters : List ℕ) → levels_match (levels_of filters) [] ≡ is_hash filters
match-nothing filters = go (cases_lt (position_or_len is_slash filters) (length filters)) where
  go : (position_or_len is_slash filters < length filters) ⊎ (length filters ≤ position_or_len is_slash filters) → levels_match (levels_of filters) [] ≡ is_hash filters
  go (inl cut) = ap (λ a. levels_match a []) (slice_split_first is_slash filters 0 cut) ∙ (match-none (before_first is_slash filters) (levels_of (after_first is_slash filters)) (has_levels (after_first is_slash filters)) ∙ sym (cut_is_no_hash filters cut))
  go (inr uncut) = ap (λ a. levels_match a []) (levels-uncut filters (record { whole = position_or_len_whole filters uncut }))

-- the filter alone has a `/`
pub match-parent : (filter level filters name : List ℕ) → IsCut filter level filters → IsUncut name
    → levels_match (levels_of filter) (levels_of name) ≡ ((is_plus level || bytes_eq level name) && is_hash filters)
match-parent filter level filters name f n =
    ap (λ a. levels_match a (levels_of name)) (levels-cut _ _ _ f) ∙ (ap (λ b. levels_match (level ∷ levels_of filters) b) (levels-uncut _ n)
    ∙ (match-inner level (levels_of filters) name [] (has_levels filters) ∙ ap (λ b. (is_plus level || bytes_eq level name) && b) (match-nothing filters)))

-- the name alone has a `/`, or none has
pub match-last-cut : (level name name_level names : List ℕ) → IsCut name name_level names → levels_match (level ∷ []) (levels_of name) ≡ is_hash level
match-last-cut level name name_level names n = ap (λ b. levels_match (level ∷ []) b) (levels-cut _ _ _ n) ∙ match-many level name_level (levels_of names) (has_levels names)

pub match-last-uncut : (level name : List ℕ) → IsUncut name → levels_match (level ∷ []) (levels_of name) ≡ (is_hash level || (is_plus level || bytes_eq level name))
match-last-uncut level name n = ap (λ b. levels_match (level ∷ []) b) (levels-uncut _ n) ∙ match-one level name

-- ---- what `split_once` says

pub cut_by : (bytes : List ℕ) (level others : Bor (List ℕ)) → IsSplitOnceResult 47 bytes (Some (level, others)) → IsCut bytes level.now others.now
cut_by bytes level others cases = let s = split_once_first 47 bytes (Some (level, others)) cases (lit< tt) in record { found = s.0; first = s.1; rest = s.2 }

pub uncut_by : (bytes : List ℕ) → IsSplitOnceResult 47 bytes None → IsUncut bytes
uncut_by bytes cases = record { whole = split_once_first 47 bytes None cases (lit< tt) }

-- the filter has no `/`
pub match-last : (filter name : List ℕ) → IsUncut filter → levels_match (levels_of filter) (levels_of name) ≡ levels_match (filter ∷ []) (levels_of name)
match-last filter name f = ap (λ a. levels_match a (levels_of name)) (levels-uncut _ f)
