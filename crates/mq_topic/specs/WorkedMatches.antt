-- Pairs of a filter and a name, the filter first.
use Rattle.std.specs.Prelude.{ℕ, Bool, not, List}
use Rattle.std.specs.List.{list_all}
use Rattle.mq_topic.specs.Matching.{matches}

-- each filter matches its name; no filter matches its name
abbrev pub all_match : List (List ℕ × List ℕ) → Bool
all_match pairs = list_all (λ p. matches p.0 p.1) pairs

abbrev pub none_matches : List (List ℕ × List ℕ) → Bool
none_matches pairs = list_all (λ p. not (matches p.0 p.1)) pairs
