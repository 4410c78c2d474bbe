-- Which names a filter matches (MQTT 5.0, 4.7). A text is its bytes: 35 is `#`, 36 is `$`, 43 is `+`.
use Rattle.std.specs.Prelude.{ℕ, ◌==◌, Bool, true, false, ◌&&◌, ◌||◌, not, List, [], ◌∷◌, is_none}
use Rattle.std.specs.Str.{bytes_eq}
use Rattle.mq_topic.specs.Levels.{is_name, levels_of, filter_fault}

-- the level `#`, which is the last one of a valid filter, and the level `+`
abbrev pub is_hash : List ℕ → Bool
is_hash level = bytes_eq level (35 ∷ [])

abbrev pub is_plus : List ℕ → Bool
is_plus level = bytes_eq level (43 ∷ [])

-- The levels of a filter match those of a name: `#` matches any number of levels, also none; `+` matches one level; any other
-- level matches itself.
abbrev pub levels_match : List (List ℕ) → List (List ℕ) → Bool
levels_match [] [] = true
levels_match [] (name ∷ names) = false
levels_match (filter ∷ []) [] = is_hash filter
levels_match (filter ∷ next ∷ filters) [] = false
levels_match (filter ∷ []) (name ∷ names) = is_hash filter || ((is_plus filter || bytes_eq filter name) && levels_match [] names)
levels_match (filter ∷ next ∷ filters) (name ∷ names) = (is_plus filter || bytes_eq filter name) && levels_match (next ∷ filters) names

-- the text begins with a wildcard, or with `$`
abbrev pub begins_wild : List ℕ → Bool
begins_wild [] = false
begins_wild (b ∷ bytes) = (b == 35) || (b == 43)

abbrev pub begins_dollar : List ℕ → Bool
begins_dollar [] = false
begins_dollar (b ∷ bytes) = b == 36

abbrev pub is_empty : List ℕ → Bool
is_empty [] = true
is_empty (b ∷ bytes) = false

-- A valid filter matches a valid name, which isn't empty: by levels, except that a filter that begins with a wildcard matches no
-- name that begins with `$`.
unfoldable pub matches : List ℕ → List ℕ → Bool
matches filter name = is_none (filter_fault filter) && (is_name name && (not (is_empty name)
    && (levels_match (levels_of filter) (levels_of name) && not (begins_wild filter && begins_dollar name))))
