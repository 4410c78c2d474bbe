-- What reading a list comes to.
use Rattle.std.proofs.Common.{◌≡◌, ◌∙◌, Bool, true, false, cond, ap, sym, List, ℕ, Option, Some, None, Result, Ok, Err}
use Rattle.std.specs.List.{list_any}
use Rattle.mq_rules.specs.declared.rule.Rule.{Rule}
use Rattle.mq_rules.specs.Rules.{all_rules}
use Rattle.mq_choice.specs.Choices.{is_flagged}
use Rattle.mq_choice.specs.Lists.{Refused, chosen_by, empty, read_known, read_list, unknown, unknown_in}

-- the flags are those of the statements that the list chooses
same_flags : (list : List ℕ) (flags : List Bool) → ((rule : Rule) → is_flagged flags rule ≡ chosen_by list rule) → is_flagged flags ≡ chosen_by list
same_flags list flags same = λ i rule. same rule i

abbrev answer : List ℕ → Bool → Result (Rule → Bool) Refused
answer list some = cond some (Ok (chosen_by list)) (Err empty)

known_any : (list : List ℕ) (flags : List Bool) (some : Bool) → unknown_in list ≡ None → is_flagged flags ≡ chosen_by list → list_any (is_flagged flags) all_rules ≡ some → read_list list ≡ answer list some
known_any list flags some known same any =
    ap (λ o. read_known o list) known ∙ ap (answer list) (ap (λ (p : Rule → Bool). list_any p all_rules) (sym same) ∙ any)

pub reads_some : (list : List ℕ) (flags : List Bool) → unknown_in list ≡ None → ((rule : Rule) → is_flagged flags rule ≡ chosen_by list rule) → list_any (is_flagged flags) all_rules ≡ true
    → read_list list ≡ Ok (is_flagged flags)
reads_some list flags known same some =
    let all : is_flagged flags ≡ chosen_by list = same_flags list flags same in
    known_any list flags true known all some ∙ ap (λ (p : Rule → Bool). Ok p) (sym all)

pub reads_none : (list : List ℕ) (flags : List Bool) → unknown_in list ≡ None → ((rule : Rule) → is_flagged flags rule ≡ chosen_by list rule) → list_any (is_flagged flags) all_rules ≡ false
    → read_list list ≡ Err empty
reads_none list flags known same none = known_any list flags false known (same_flags list flags same) none

pub reads_unknown : (list word : List ℕ) → unknown_in list ≡ Some word → read_list list ≡ Err (unknown word)
reads_unknown list word found = ap (λ o. read_known o list) found
