-- Topic Names and Topic Filters as lists of levels (MQTT 5.0, 4.7). A text is its bytes: 35 is `#`, 43 is `+`, 47 is `/`.
use Rattle.std.specs.Prelude.{ℕ, Bool, true, false, ◌&&◌, not, List, [], ◌∷◌, length, Option, Some, None, ◌==◌, if◌then◌else◌}
use Rattle.std.specs.List.{slice_split, list_any, list_all}
use Rattle.std.specs.Option.{option_or}
use Rattle.mq_topic.specs.declared.filter.FilterFault.{FilterFault}
use Rattle.mq_topic.specs.declared.filter.FilterFault.TheVariants.{Empty, HashNotLast, HashNotAlone, PlusNotAlone}

-- a text with no wildcard in it
abbrev pub is_name : List ℕ → Bool
is_name bytes = list_all (λ b. not (b == 35) && not (b == 43)) bytes

-- the levels of a text: it is cut at each `/`, and empty levels count
abbrev pub levels_of : List ℕ → List (List ℕ)
levels_of bytes = slice_split (λ b. b == 47) bytes

-- a level has a wildcard and also another character
abbrev pub is_crowded : ℕ → List ℕ → Bool
is_crowded wildcard level = list_any (λ b. b == wildcard) level && not (length level == 1)

-- what is wrong with a level, if anything; the flag says whether it is the last one
abbrev pub level_fault : List ℕ → Bool → Option FilterFault
level_fault level is_last =
    if is_crowded 35 level then Some HashNotAlone
    else if list_any (λ b. b == 35) level && not is_last then Some HashNotLast
    else if is_crowded 43 level then Some PlusNotAlone
    else None

-- the fault of the first invalid level from the left
abbrev pub first_fault : List (List ℕ) → Option FilterFault
first_fault [] = None
first_fault (level ∷ []) = level_fault level true
first_fault (level ∷ next ∷ levels) = option_or (level_fault level false) (first_fault (next ∷ levels))

-- what is wrong with a filter, if anything
abbrev pub filter_fault : List ℕ → Option FilterFault
filter_fault [] = Some Empty
filter_fault (b ∷ bytes) = first_fault (levels_of (b ∷ bytes))
