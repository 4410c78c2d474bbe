-- The sentences and codes of the statements: a row that is found by its code in the source is found in its view, and each statement has its own.
use Rattle.std.proofs.Common.{◌≡◌, ℕ, Bool, true, false, ◌&&◌, not, cond, List, [], ◌∷◌, Option, Some, Bor, map, refl}
use Rattle.std.specs.Prelude.{T, bytes_eq}
use Rattle.std.specs.Option.{option_map}
use Rattle.std.specs.List.{find, AllByRecursion, IsDistinct}
use Rattle.std.specs.Char.{to_ascii_lowercase}
use Rattle.std.specs.Str.{str_eq_ignore_ascii_case}
use Rattle.mq_rules.specs.declared.rule.Rule.{Rule}
use Rattle.mq_rules.specs.declared.table.Ends.{Ends}
use Rattle.mq_rules.specs.declared.table.Judged.{Judged}
use Rattle.mq_rules.specs.declared.rule.Rule.TheVariants.{W01}
use Rattle.mq_rules.specs.Naming.{coded_line, coded_rule, sentence_of}
use Rattle.mq_rules.specs.Rules.{StatementLine, all_rules, code_of, found_line, line_of, line_view, lines, lines_of}

cond-map : {A B : Type 0} (view : A → B) (b : Bool) (x : A) (o : Option A) (q : Option B) → option_map view o ≡ q → option_map view (cond b (Some x) o) ≡ cond b (Some (view x)) q
cond-map view true x o q h = refl
cond-map view false x o q h = h

pub find-coded : (code : List ℕ) (rows : List (Rule × Bor (List ℕ) × Ends × Bor (List ℕ) × Bor (List ℕ) × Judged))
    → option_map line_view (find (λ row. str_eq_ignore_ascii_case row.1.now code) rows) ≡ find (λ (line : StatementLine). str_eq_ignore_ascii_case line.code code) (lines_of rows)
find-coded code [] = refl
find-coded code (row ∷ rows) = cond-map line_view (str_eq_ignore_ascii_case row.1.now code) row (find (λ r. str_eq_ignore_ascii_case r.1.now code) rows)
    (find (λ (l : StatementLine). str_eq_ignore_ascii_case l.code code) (lines_of rows)) (find-coded code rows)

pub codes_named : (rule : Rule) → coded_rule (code_of rule) ≡ Some rule
unfolding coded_rule coded_line line_of found_line lines
codes_named W01 = refl
codes_named _ = refl

pub small_codes_named : (rule : Rule) → coded_rule (map to_ascii_lowercase (code_of rule)) ≡ Some rule
unfolding coded_rule coded_line line_of found_line lines
small_codes_named W01 = refl
small_codes_named _ = refl

-- ---- no two sentences are the same

-- the text differs from each of these
abbrev differs : List ℕ → List (List ℕ) → Bool
differs text [] = true
differs text (other ∷ others) = not (bytes_eq text other) && differs text others

abbrev all_differ : List (List ℕ) → Bool
all_differ [] = true
all_differ (text ∷ texts) = differs text texts && all_differ texts

first : (a b : Bool) → T (a && b) → T a
first true b h = tt
first false b h = absurd h

second : (a b : Bool) → T (a && b) → T b
second true b h = h
second false b h = absurd h

is_false : (b : Bool) → T (not b) → b ≡ false
is_false true h = absurd h
is_false false h = refl

differs_from : (text : List ℕ) (others : List (List ℕ)) → T (differs text others) → AllByRecursion (λ other. bytes_eq text other ≡ false) others
differs_from text [] h = tt
differs_from text (other ∷ others) h = (is_false (bytes_eq text other) (first _ _ h), differs_from text others (second _ _ h))

distinct : (texts : List (List ℕ)) → T (all_differ texts) → IsDistinct bytes_eq texts
unfolding IsDistinct
distinct [] h = tt
distinct (text ∷ texts) h = (differs_from text texts (first _ _ h), distinct texts (second _ _ h))

sentences_apart : T (all_differ (map sentence_of all_rules))
unfolding sentence_of lines
sentences_apart = tt

pub sentences_differ : IsDistinct bytes_eq (map sentence_of all_rules)
sentences_differ = distinct (map sentence_of all_rules) sentences_apart
