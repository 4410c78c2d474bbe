-- The statements that the words choose.
use Rattle.std.specs.Prelude.{Bool, true, false, cond, Option, None, Some, Result, Ok, Err}
use Rattle.clap.specs.Words.{Text}
use Rattle.mq_rules.specs.declared.role.Further.{Further}
use Rattle.mq_rules.specs.declared.rule.Rule.{Rule}
use Rattle.mq_rules.specs.Rules.{all_further, none_further, without_times}
use Rattle.mq_choice.specs.declared.choice.Choice.{Choice}
use Rattle.mq_choice.specs.Choices.{in_choice, is_listed, unlisted}
use Rattle.mq_command.specs.declared.scope.Scope.{Scope}
use Rattle.mq_command.specs.declared.scope.Scope.TheVariants as scopes
use Rattle.mq_command.specs.CommandLine.{has_further}
use Rattle.mq_choice.specs.Lists.{Refused, unknown, empty, read_list}
use Rattle.mq_host.specs.Streams.{no_choice_line, no_statements_line, two_choices_line}

-- What is chosen: these statements, by a list or without one.
pub record Chosen : Type 0 where
  pub has : Rule → Bool
  pub listed : Bool

-- what is chosen without a list
abbrev pub without_list : Further → Chosen
without_list further = record { has = unlisted further; listed = false }

-- the same as the source has it
abbrev pub chosen_as : Choice → Chosen
chosen_as choice = record { has = in_choice choice; listed = is_listed choice }

-- what a list chooses; else the message
abbrev pub choice_read : Result (Rule → Bool) Refused → Result Chosen Text
choice_read (Ok has) = Ok (record { has = has; listed = true })
choice_read (Err (unknown word)) = Err (no_statements_line word)
choice_read (Err empty) = Err no_choice_line

-- the further statements that are asked for without a list
abbrev pub further_of : Scope → Further
further_of scopes.Usual = none_further
further_of scopes.All = without_times
further_of scopes.Timed = all_further

-- The statements that the words choose: by the list if there is one, else those that are asked for without one. Both a list and the further ones can't be asked for; then it is the
-- message.
abbrev pub choice_for : Scope → (list : Option Text) → Result Chosen Text
choice_for scope None = Ok (without_list (further_of scope))
choice_for scope (Some list) = cond (has_further scope) (Err two_choices_line) (choice_read (read_list list))
