-- A list of statements, as it is written: words with a comma between two, which add statements or take them away.
use Rattle.std.specs.Prelude.{◌≡◌, ℕ, ◌==◌, ◌||◌, ◌&&◌, not, Bool, false, List, [], ◌∷◌, take, drop, codes, fold, cond, Option, Some, None, Result, Ok, Err}
use Rattle.std.specs.List.{find, list_any, slice_split}
use Rattle.std.specs.Str.{bytes_eq}
use Rattle.mq_rules.specs.declared.rule.Rule.{Rule}
use Rattle.mq_rules.specs.Rules.{all_rules, code_of, is_further, is_on_times}
use Rattle.mq_choice.specs.declared.list.Unchosen.{Unchosen}
use Rattle.mq_choice.specs.declared.list.Unchosen.TheVariants.{Unknown, Empty}

-- the words of a list, with a comma (44) between two
abbrev pub words_of : List ℕ → List (List ℕ)
words_of list = slice_split (λ byte. byte == 44) list

-- it begins with a hyphen (45)
abbrev pub has_hyphen : List ℕ → Bool
has_hyphen [] = false
has_hyphen (first ∷ rest) = first == 45

-- what a word names, without its hyphen
abbrev pub name_in : List ℕ → List ℕ
name_in word = cond (has_hyphen word) (drop 1 word) word

-- The name stands for the statement: it is its code, or the first letter of its code, which its family has; or `times`; or `all`, and the statement isn't on times; or `default`,
-- and it isn't a further one.
abbrev pub names : List ℕ → Rule → Bool
names name rule = bytes_eq name (code_of rule) || (bytes_eq name (take 1 (code_of rule)) || (bytes_eq name (codes "times")
    || ((bytes_eq name (codes "all") && not (is_on_times rule)) || (bytes_eq name (codes "default") && not (is_further rule)))))

-- the word names a statement
abbrev pub is_known : List ℕ → Bool
is_known word = list_any (names (name_in word)) all_rules

-- whether a statement is chosen after one more word: it adds what it names, or takes it away if it has a hyphen
abbrev pub after_word : Rule → Bool → List ℕ → Bool
after_word rule chosen word = cond (names (name_in word) rule) (not (has_hyphen word)) chosen

-- whether it is before the first word: those of `default` are, if the list begins by taking away
abbrev pub before_words : List ℕ → Rule → Bool
before_words list rule = has_hyphen list && not (is_further rule)

-- a list chooses a statement: it is chosen after the last word, from left to right
unfoldable pub chosen_by : List ℕ → Rule → Bool
chosen_by list rule = fold (after_word rule) (before_words list rule) (words_of list)

-- the first word that names no statement
abbrev pub unknown_in : List ℕ → Option (List ℕ)
unknown_in list = find (λ word. not (is_known word)) (words_of list)

-- Why a list of these words is no choice.
pub data Refused : Type 0 where
  -- this word names nothing
  unknown : List ℕ → Refused
  -- no statement is left
  empty : Refused

-- the statements that a list chooses, if each of its words names some, and some are left
abbrev pub read_known : Option (List ℕ) → List ℕ → Result (Rule → Bool) Refused
read_known (Some word) list = Err (unknown word)
read_known None list = cond (list_any (chosen_by list) all_rules) (Ok (chosen_by list)) (Err empty)

abbrev pub read_list : List ℕ → Result (Rule → Bool) Refused
read_list list = read_known (unknown_in list) list

-- the same as the source has it
abbrev pub refused_as : Unchosen → Refused
refused_as (Unknown word) = unknown word.now
refused_as Empty = empty
