-- The statements that a citation names, and the texts that explain them.
use Rattle.std.specs.Prelude.{ℕ, ◌==◌, ◌&&◌, ◌||◌, Bool, nat_lt, List, [], ◌∷◌, ◌++◌, length, fold, if◌then◌else◌, Option, Some, None, option_map}
use Rattle.std.specs.List.{list_all, list_any, slice_split}
use Rattle.std.specs.Option.{option_or}
use Rattle.std.specs.Str.{str_eq_ignore_ascii_case}
use Rattle.mq_rules.specs.declared.role.Role.TheVariants.{Client, Server}
use Rattle.mq_rules.specs.declared.rule.Rule.{Rule}
use Rattle.mq_rules.specs.Naming.{citation_of, coded_rule}
use Rattle.mq_rules.specs.Rules.{all_rules}
use Rattle.mq_explain.specs.Explaining.{explanation_of}

-- a comma (44) is between two citations for one end, and a semicolon (59) between those for the two ends
abbrev pub is_separator : (byte : ℕ) → Bool
is_separator byte = byte == 44 || byte == 59

-- it is one of the citations for an end, in capitals or not
abbrev pub is_among : (one citations : List ℕ) → Bool
is_among one citations = list_any (λ citation. str_eq_ignore_ascii_case citation one) (slice_split is_separator citations)

-- it is a citation of the statement, for one of the ends
abbrev pub is_citation_of : Rule → (one : List ℕ) → Bool
is_citation_of rule one = nat_lt 0 (length one) && (is_among one (citation_of rule Client) || is_among one (citation_of rule Server))

-- the word is a citation of the statement, or several
abbrev pub is_cited_by : (word : List ℕ) → Rule → Bool
is_cited_by word rule = list_all (is_citation_of rule) (slice_split is_separator word)

-- a text, and after an empty line the explanation of one more statement
abbrev pub with_explanation : List ℕ → Rule → List ℕ
with_explanation text rule = if length text == 0 then explanation_of rule else text ++ 10 ∷ explanation_of rule

-- the same, if the word cites the statement
abbrev pub with_cited : (word : List ℕ) → List ℕ → Rule → List ℕ
with_cited word text rule = if is_cited_by word rule then with_explanation text rule else text

-- the explanations of the statements that the word cites, in the order of reports; empty if there is none
unfoldable pub cited_text : (word : List ℕ) → List ℕ
cited_text word = fold (with_cited word) [] all_rules

-- that text, if there is one
abbrev pub if_some : List ℕ → Option (List ℕ)
if_some text = if length text == 0 then None else Some text

-- the text for a word: what explains the statement that it names by its code, in capitals or not; else, the statements that it cites
abbrev pub explained_for : (word : List ℕ) → Option (List ℕ)
explained_for word = option_or (option_map explanation_of (coded_rule word)) (if_some (cited_text word))
