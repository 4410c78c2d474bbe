-- A filter is judged level by level, as it is cut at its first `/`.
use Rattle.std.proofs.Common.{◌≡◌, ℕ, ◌<◌, Bool, true, false, eqb, List, [], ◌∷◌, length, Option, None, Some, refl, sym, ap, ◌∙◌, arith}
use Rattle.std.specs.List.{All, position_or_len, before_first, after_first}
use Rattle.std.proofs.lemmas.List.Splits.{slice_split_first, slice_split_none, length-slice_split}
use Rattle.std.proofs.lemmas.List.Sums.{fails_before_first}
use Rattle.std.specs.Option.{option_or}
use Rattle.mq_topic.specs.declared.filter.FilterFault.{FilterFault}
use Rattle.mq_topic.specs.Levels.{levels_of, level_fault, first_fault, filter_fault}

abbrev pub is_slash : ℕ → Bool
is_slash b = eqb b 47

first_fault-cons : (level : List ℕ) (levels : List (List ℕ)) → 0 < length levels → first_fault (level ∷ levels) ≡ option_or (level_fault level false) (first_fault levels)
first_fault-cons level [] h = absurd (omega arith)
first_fault-cons level (next ∷ levels) h = refl

-- with a `/` in the text, its first level is judged and then the levels after it
pub first_fault-cut : (bytes : List ℕ) → position_or_len is_slash bytes < length bytes
    → first_fault (levels_of bytes) ≡ option_or (level_fault (before_first is_slash bytes) false) (first_fault (levels_of (after_first is_slash bytes)))
first_fault-cut bytes h =
    ap first_fault (slice_split_first is_slash bytes 0 h) ∙ first_fault-cons (before_first is_slash bytes) (levels_of (after_first is_slash bytes)) (omega (arith, length-slice_split is_slash (after_first is_slash bytes)))

-- with none, the text is the last level
pub first_fault-last : (bytes : List ℕ) → position_or_len is_slash bytes ≡ length bytes → first_fault (levels_of bytes) ≡ level_fault bytes true
first_fault-last bytes h =
    let none : All (λ b. is_slash b ≡ false) bytes = λ k d lt. fails_before_first is_slash bytes k d (omega arith) in
    ap first_fault (slice_split_none is_slash bytes none)

pub filter_fault-some : (bytes : List ℕ) → eqb (length bytes) 0 ≡ false → filter_fault bytes ≡ first_fault (levels_of bytes)
filter_fault-some [] h = absurd cc
filter_fault-some (b ∷ bytes) h = refl

-- What a cut at the first `/` says: the text as it was, and both parts.
pub record IsCut (bytes level others : List ℕ) : Type 0 where
  pub found : position_or_len is_slash bytes < length bytes
  pub first : level ≡ before_first is_slash bytes
  pub rest : others ≡ after_first is_slash bytes

pub cut_judges : (bytes level others : List ℕ) → IsCut bytes level others → first_fault (levels_of bytes) ≡ option_or (level_fault level false) (first_fault (levels_of others))
cut_judges bytes level others cut = rw (cut.first, cut.rest) (first_fault-cut bytes cut.found)

-- a good level is passed over
pub cut_good : (bytes level others : List ℕ) → IsCut bytes level others → level_fault level false ≡ None → first_fault (levels_of others) ≡ first_fault (levels_of bytes)
cut_good bytes level others cut good = sym (cut_judges bytes level others cut ∙ ap (λ (f : Option FilterFault). option_or f (first_fault (levels_of others))) good)

-- a bad level decides
pub cut_bad : (bytes level others : List ℕ) (fault : FilterFault) → IsCut bytes level others → level_fault level false ≡ Some fault → first_fault (levels_of bytes) ≡ Some fault
cut_bad bytes level others fault cut bad = cut_judges bytes level others cut ∙ ap (λ (f : Option FilterFault). option_or f (first_fault (levels_of others))) bad
