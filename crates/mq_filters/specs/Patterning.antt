-- Topic Filters by their pattern, which says which of their levels are `+` or `#` (MQTT 5.0, section 4.7). A text is its bytes: 35 is `#`, 43 is `+`, 47 is `/`.
use Rattle.std.specs.Prelude.{ℕ, ◌+◌, ◌*◌, ◌/◌, ◌%◌, ◌==◌, nat_le, Bool, true, cond, ◌&&◌, not, List, [], ◌∷◌, take, Option, Some, None}
use Rattle.std.specs.List.{list_any, join_with_byte, IsDistinct}
use Rattle.std.specs.Map.{keys_of}
use Rattle.std.specs.String.{string_eq}
use Rattle.std.specs.declared.string.String.{String}
use Rattle.mq_topic.specs.Levels.{is_name, levels_of}
use Rattle.mq_topic.specs.Matching.{is_empty, begins_dollar}
use Rattle.mq_filters.specs.Standings.{AllFilters}

-- a pattern as a number, with one byte more in front: 3 times as much for `/`, 1 more for `+`, 2 more for `#`
abbrev pub with_byte : ℕ → ℕ → ℕ
with_byte b pattern = cond (b == 47) (pattern * 3) (cond (b == 43) (pattern + 1) (cond (b == 35) (pattern + 2) pattern))

abbrev pub pattern_of : List ℕ → ℕ
pattern_of [] = 0
pattern_of (b ∷ bytes) = with_byte b (pattern_of bytes)

-- the levels of the filter of a pattern that matches a name with these levels: `#` ends them, `+` stands where the pattern says, and any other level is the name's
abbrev pub filled : ℕ → List (List ℕ) → List (List ℕ)
filled pattern [] = cond (pattern % 3 == 2) ((35 ∷ []) ∷ []) []
filled pattern (name ∷ names) = cond (pattern % 3 == 2) ((35 ∷ []) ∷ []) (cond (pattern % 3 == 1) (43 ∷ []) name ∷ filled (pattern / 3) names)

-- the filter of a pattern that matches a topic, if there is one
abbrev pub fill : ℕ → List ℕ → List ℕ
fill pattern topic = join_with_byte 47 (filled pattern (levels_of topic))

-- a topic that is a name, isn't empty and doesn't begin with `$`
abbrev pub is_plain : List ℕ → Bool
is_plain topic = is_name topic && (not (is_empty topic) && not (begins_dollar topic))

-- The patterns that are kept are known, unless they are more than there is room for.
abbrev pub known_patterns : List ℕ → ℕ → Option (List ℕ)
known_patterns kept count = cond (nat_le count 16) (Some (take count kept)) None

-- the pattern is known, or the patterns aren't
abbrev pub knows : Option (List ℕ) → ℕ → Bool
knows None pattern = true
knows (Some patterns) pattern = list_any (λ s. s == pattern) patterns

-- each of these filters is there once, and its pattern is known
abbrev pub AreKnown : {Y : Type 0} → Option (List ℕ) → List (String Y × ℕ) → Type 0
AreKnown patterns filters = IsDistinct string_eq (keys_of filters) × AllFilters (λ f. knows patterns (pattern_of f)) filters
