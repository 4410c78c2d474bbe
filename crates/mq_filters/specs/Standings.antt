-- Topic Filters that stand, each with the greatest QoS of what may be sent for it (MQTT 5.0, sections 3.8.4 and 4.7). A text is its bytes: 35 is `#`, 43 is `+`, 47 is `/`.
use Rattle.std.specs.Prelude.{ℕ, ◌≡◌, ◌==◌, nat_le, Bool, true, false, ◌&&◌, not, cond, List, [], ◌∷◌, Option, Some, None}
use Rattle.std.specs.List.{list_any, IsDistinct}
use Rattle.std.specs.Map.{keys_of}
use Rattle.std.specs.String.{string_bytes, string_eq}
use Rattle.std.specs.declared.string.String.{String}
use Rattle.mq_topic.specs.Ceilings.{Standing}
use Rattle.mq_topic.specs.Levels.{is_name}
use Rattle.mq_topic.specs.Matching.{is_empty}

-- there is a ceiling, and it passes the test
abbrev pub has_ceiling : (ℕ → Bool) → Option ℕ → Bool
has_ceiling test None = false
has_ceiling test (Some ceiling) = test ceiling

-- ---- filters that stand

-- the filter passes the test, and something may be sent for it at this QoS
abbrev pub allows : (List ℕ → Bool) → ℕ → Standing → Bool
allows among qos s = among s.filter && nat_le qos s.ceiling

-- the standing filters that a map from filters to the greatest QoS keeps
abbrev pub standings : {Y : Type 0} → List (String Y × ℕ) → List Standing
standings [] = []
standings (e ∷ es) = record { filter = string_bytes e.0; ceiling = e.1 } ∷ standings es

-- all filters of a map pass the test
abbrev pub AllFilters : {Y : Type 0} → (List ℕ → Bool) → List (String Y × ℕ) → Type 0
AllFilters test [] = Unit {0}
AllFilters test (e ∷ es) = (test (string_bytes e.0) ≡ true) × AllFilters test es

-- the first map has filters without a wildcard, each once, and the second has others
abbrev pub IsSplit : {Y : Type 0} → List (String Y × ℕ) → List (String Y × ℕ) → Type 0
IsSplit literal wild = AllFilters is_name literal × AllFilters (λ f. not (is_name f)) wild × IsDistinct string_eq (keys_of literal)

-- one of them allows this
abbrev pub stands_any : {Y : Type 0} → (List ℕ → Bool) → ℕ → List (String Y × ℕ) → Bool
stands_any among qos es = list_any (allows among qos) (standings es)

-- ---- filters that may match (MQTT 5.0, section 4.7)

-- what follows the first level of a name
abbrev pub after_level : List ℕ → List ℕ
after_level [] = []
after_level (b ∷ bytes) = cond (b == 47) (b ∷ bytes) (after_level bytes)

-- a filter and a name are alike up to a `#` or to the end of one of them, where a `+` stands for a level
abbrev pub is_near : List ℕ → List ℕ → Bool
is_near [] name = is_empty name
is_near (f ∷ filter) [] = true
is_near (f ∷ filter) (b ∷ name) = cond (f == b) (is_near filter name) (cond (f == 43) (is_near filter (after_level (b ∷ name))) (f == 35))
