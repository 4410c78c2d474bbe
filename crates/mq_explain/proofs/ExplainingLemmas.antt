-- The texts on the statements, and the lines of a list of them.
use Rattle.std.proofs.Common.{◌≡◌, ℕ, Bool, List, ◌∷◌, ◌++◌, Option, refl, ap, sym, ◌∙◌, ◌<◌, ◌+◌, add-one, length, drop, drop-cons, get_or, append_assoc}
use Rattle.std.specs.Prelude.{◌==◌, not}
use Rattle.std.specs.List.{flat_map, take_while}
use Rattle.mq_rules.specs.declared.role.Role.{Role}
use Rattle.mq_rules.specs.declared.rule.Rule.{Rule}
use Rattle.mq_rules.specs.Rules.{all_rules, code_of, found_line, line_of, lines}
use Rattle.mq_rules.specs.declared.rule.Rule.TheVariants.{W01}
use Rattle.mq_explain.specs.Explaining.{explanation_of}
use Rattle.mq_explain.specs.Listing.{listed_line, statement_lines}

pub begins_with_its_code : (rule : Rule) → take_while (λ byte. not (byte == 32)) (explanation_of rule) ≡ code_of rule
unfolding explanation_of line_of found_line lines
begins_with_its_code W01 = refl
begins_with_its_code _ = refl

-- the statements that are listed are all, in the order of reports
pub lines_all : (chosen : Rule → Bool) (role : Option Role) (listed : List Rule) → listed ≡ all_rules → flat_map (listed_line chosen role) listed ≡ statement_lines chosen role
unfolding statement_lines
lines_all chosen role listed all = ap (λ (rules : List Rule). flat_map (listed_line chosen role) rules) all

next_rule : (rules : List Rule) (i : ℕ) → i < length rules → drop i rules ≡ get_or rules i W01 ∷ drop (i + 1) rules
next_rule rules i h = rw (add-one, drop-cons rules i W01) refl

-- the line of one statement more
pub line_put : (chosen : Rule → Bool) (role : Option Role) (rules : List Rule) (i : ℕ) (old new whole : List ℕ) → i < length rules
    → old ++ flat_map (listed_line chosen role) (drop i rules) ≡ whole → new ≡ old ++ listed_line chosen role (get_or rules i W01)
    → new ++ flat_map (listed_line chosen role) (drop (i + 1) rules) ≡ whole
line_put chosen role rules i old new whole h so_far more =
    let f = listed_line chosen role in
    let rest = flat_map f (drop (i + 1) rules) in
    ap (λ (text : List ℕ). text ++ rest) more ∙ append_assoc old (f (get_or rules i W01)) rest
    ∙ ap (λ (l : List Rule). old ++ flat_map f l) (sym (next_rule rules i h)) ∙ so_far
