-- The statements that are chosen, and the faults of these.
use Rattle.std.specs.Prelude.{◌≡◌, ℕ, Bool, true, false, not, ◌&&◌, ◌||◌, cond, List, Result, Ok, Err, slice_index_or}
use Rattle.std.specs.List.{list_any}
use denote.Enum.Declared.{tag_of}
use Rattle.mq_rules.specs.declared.role.Further.{Further}
use Rattle.mq_rules.specs.declared.role.Tested.{Tested}
use Rattle.mq_rules.specs.declared.note.Seen.{Seen}
use Rattle.mq_rules.specs.declared.rule.Rule.{Rule}
use Rattle.mq_rules.specs.declared.fault.Fault.{Fault}
use Rattle.mq_rules.specs.declared.faults.FaultKey.{FaultKey}
use Rattle.mq_rules.specs.contracts.rule.Rule.{the_type}
use Rattle.mq_rules.specs.Rules.{all_further, all_rules, is_further, is_on_times, none_further, without_times}
use Rattle.mq_rules.specs.Notes.{tested_by, seen_in}
use Rattle.mq_rules.specs.Faults.{chosen_fault, fault_in, listed_faults}
use Rattle.mq_rules.specs.FaultKeys.{FaultMap, fault_at}
use Rattle.mq_choice.specs.declared.choice.Choice.{Choice}
use Rattle.mq_choice.specs.declared.choice.Choice.TheVariants as choices
use Rattle.mq_choice.specs.declared.list.Unchosen.{Unchosen}
use Rattle.mq_choice.specs.Lists.{read_list, refused_as}

-- ---- choices

-- a further statement is asked for: those on times are asked for beside all others
abbrev pub is_asked : Further → Rule → Bool
is_asked further rule = further.with_times || (further.on_request && not (is_on_times rule))

-- those that are chosen without a list: of the further ones those that are asked for, and all others
abbrev pub unlisted : Further → Rule → Bool
unlisted further rule = cond (is_further rule) (is_asked further rule) true

-- the number of a statement in the order of reports, counted from 0
abbrev pub number_of : Rule → ℕ
number_of rule = tag_of the_type rule

-- whether the flag with a statement's number is set
abbrev pub is_flagged : List Bool → Rule → Bool
is_flagged flags rule = slice_index_or flags (number_of rule) false

-- the statement is chosen
abbrev pub in_choice : Choice → Rule → Bool
in_choice choices.Usual rule = unlisted none_further rule
in_choice choices.All rule = unlisted without_times rule
in_choice choices.Timed rule = unlisted all_further rule
in_choice (choices.Listed flags) rule = is_flagged flags rule

-- statements may be judged that aren't chosen, since there is a list
abbrev pub is_listed : Choice → Bool
is_listed choices.Usual = false
is_listed choices.All = false
is_listed choices.Timed = false
is_listed (choices.Listed flags) = true

-- which further statements are among those that are chosen: some that need no times, and some on times
unfoldable pub wants_further : (chosen : Rule → Bool) → Further
wants_further chosen = record {
  on_request = list_any (λ rule. (is_further rule && not (is_on_times rule)) && chosen rule) all_rules;
  with_times = list_any (λ rule. is_on_times rule && chosen rule) all_rules;
}

-- What reading a list returns: a choice of the statements that it chooses, or why it is none.
abbrev pub ReadsAs : List ℕ → Result Choice Unchosen → Type 0
ReadsAs list (Ok choice) = (read_list list ≡ Ok (in_choice choice)) × (is_listed choice ≡ true)
ReadsAs list (Err why) = read_list list ≡ Err (refused_as why)

-- ---- faults

-- the end that a log's header names, judged by the further statements too that are wanted for what is chosen
abbrev pub tested_for : (chosen : Rule → Bool) → List ℕ → Tested
tested_for chosen log = tested_by (wants_further chosen) log

-- the faults of a log that are of chosen statements, in ascending order
abbrev pub chosen_in : (chosen : Rule → Bool) → List ℕ → List (FaultKey × Fault)
chosen_in chosen log = listed_faults chosen (tested_for chosen log) (seen_in log)

-- These faults are all that some events have, the newest first.
abbrev pub AreAllFaults : Tested → List Seen → FaultMap → Type 0
AreAllFaults tested past faults = (k : ℕ) (rule : Rule) → fault_at faults k rule ≡ fault_in tested past k rule

-- These are those of them that are of chosen statements.
abbrev pub AreChosenFaults : (chosen : Rule → Bool) → Tested → List Seen → FaultMap → Type 0
AreChosenFaults chosen tested past faults = (k : ℕ) (rule : Rule) → fault_at faults k rule ≡ chosen_fault chosen tested past k rule
