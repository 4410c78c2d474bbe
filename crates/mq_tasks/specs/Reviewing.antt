-- Showing a log with the faults at its events and what they conflict with, which reads it twice, and once more if it has faults: what the words ask for, and what each status means.
use Rattle.std.specs.Prelude.{◌≡◌, ◌⊎◌, ◌^◌, ◌&&◌, Bool, nat_lt, List, [], ℕ, Option, None, Some, Result, Ok, Err, if◌then◌else◌, length, option_map, string_bytes, IfSome}
use Rattle.std.specs.Char.{digit_value}
use Rattle.std.specs.Io.KnownBytes.{Appends, Keeps}
use Rattle.std.specs.List.{list_all}
use Rattle.std.specs.Str.Parse.{digits_value, without_leading_plus}
use Rattle.clap.specs.Words.{Text}
use Rattle.mq_judge.specs.declared.Form.TheVariants as forms
use Rattle.mq_judge.specs.declared.Refusal.{Refusal}
use Rattle.mq_judge.specs.declared.Refusal.TheVariants as refusals
use Rattle.mq_rules.specs.declared.evidence.Evidence.{Evidence}
use Rattle.mq_report.specs.Report.{refused_line}
use Rattle.mq_judge.specs.Runner.{IsFaultless}
use Rattle.mq_choice.specs.Choices.{chosen_in, tested_for, unlisted}
use Rattle.mq_report.specs.Stopping.{IsJudged, default_limit, IsRefusedAt}
use Rattle.mq_display.specs.Display.{annotated, is_timed}
use Rattle.mq_rules.specs.declared.role.Role.{Role}
use Rattle.mq_rules.specs.declared.role.Further.{Further}
use Rattle.mq_rules.specs.declared.role.Tested.{Tested}
use Rattle.mq_rules.specs.declared.fault.Fault.{Fault}
use Rattle.mq_rules.specs.declared.faults.FaultKey.{FaultKey}
use Rattle.mq_log.specs.Events.{Placed, events}
use Rattle.mq_command.specs.declared.command_line.Review.{Review}
use Rattle.mq_tasks.specs.declared.reviewing.Plan.{Plan as SourcePlan}
use Rattle.mq_host.specs.declared.failure.Failure.{Failure}
use Rattle.mq_host.specs.declared.failure.Failure.TheVariants as failures
use Rattle.mq_command.specs.CommandLine.{path_named}
use Rattle.mq_tasks.specs.declared.lapse.Lapse.{Lapse}
use Rattle.mq_tasks.specs.declared.lapse.Lapse.TheVariants.{Failed, Changed}
use Rattle.mq_tasks.specs.Lapses.{AreVerdictReasons, StopsReading}
use Rattle.mq_tasks.specs.Choosing.{Chosen, further_of, without_list}
use Rattle.mq_tasks.specs.Inquiring.{AreReasonsAgain, HasChanged}
use Rattle.mq_tasks.specs.Messages.{IsRefusedBy, RefusesCheck, RefusesShow, StopsShow}
use Rattle.mq_host.specs.Streams.{AppendsPart, no_faults_for_all_line, no_faults_line, no_file_line, no_number_line}

-- ---- what the words ask for

-- these are decimal digits, at least one, of a number below 2^32
abbrev pub is_count : (digits : Text) → Bool
is_count digits = nat_lt 0 (length digits) && (list_all (λ digit. nat_lt (digit_value digit) 10) digits && nat_lt (digits_value 10 digits) (2 ^ 32))

-- the number that a word is, if it is such digits, or a plus sign and such digits
abbrev pub count_of : Text → Option ℕ
count_of word = if is_count (without_leading_plus word) then Some (digits_value 10 (without_leading_plus word)) else None

-- What to show: the log at this path; all events, or only those at most `around` positions from a fault; in long lines or short ones; with faults of these further statements
-- too.
pub record Plan : Type 0 where
  pub path : Text
  pub around : Option ℕ
  pub long : Bool
  pub further : Further

-- a plan as the source has it
abbrev pub plan_view : SourcePlan → Plan
plan_view plan = record { path = plan.path.now; around = plan.extent.around; long = plan.extent.long; further = plan.further }

-- what to show of the log in a file, if a file is named that can be read more than once; else the message
abbrev pub plan_on : (path : Option Text) → (around : Option ℕ) → (long : Bool) → Further → Result Plan Text
plan_on None around long further = Err no_file_line
plan_on (Some path) around long further = Ok (record { path = path; around = around; long = long; further = further })

-- the same, with the word after `--around` and the number that it is; else the message
abbrev pub plan_near : (path : Option Text) → (word : Text) → Option ℕ → (long : Bool) → Further → Result Plan Text
plan_near path word None long further = Err (no_number_line word)
plan_near path word (Some count) long further = plan_on path (Some count) long further

-- the same, with the word after `--around` if there is one
abbrev pub plan_around : (path around : Option Text) → (long : Bool) → Further → Result Plan Text
plan_around path None long further = plan_on path None long further
plan_around path (Some word) long further = plan_near path word (count_of word) long further

-- the message if no faults are asked for: on the word after `--around` if there is one, else on `--all` and `--times`
abbrev pub unfaulty_line : (around : Option Text) → Text
unfaulty_line None = no_faults_for_all_line
unfaulty_line (Some word) = no_faults_line

-- what to show, or the message if there is nothing to show
abbrev pub plan_of : Review → Result Plan Text
plan_of review = if review.faults then plan_around (path_named (option_map string_bytes review.file)) (option_map string_bytes review.around) review.long (further_of review.scope)
    else Err (unfaulty_line (option_map string_bytes review.around))

-- ---- what each status means for the log that was judged, the one that was read again and the one that was shown: one log, unless its file changed between the readings

-- what is said of the faults of the log that was judged: nothing if it has none, else what they conflict with, by the log that is read again
abbrev pub AreShownReasons : Further → (judged again : List ℕ) → List Evidence → Type 0
AreShownReasons further judged again reasons = (IsFaultless (unlisted further) judged × (reasons ≡ [])) ⊎ AreReasonsAgain (without_list further) judged again reasons

-- the text of events with these faults on this end, each with what it conflicts with, and with moments if the records of the log that is shown have them
abbrev pub text_with : Plan → Role → List (FaultKey × Fault) → List Evidence → (shown : List ℕ) → List Placed → List ℕ
text_with plan role faults reasons shown = annotated (is_timed shown) (record { role = role; faults = faults; reasons = reasons; around = plan.around; long = plan.long })

-- the same with the faults of the log that was judged
abbrev pub reviewed : Plan → (judged shown : List ℕ) → List Evidence → List Placed → List ℕ
reviewed plan judged shown reasons = text_with plan (tested_for (unlisted plan.further) judged).role (chosen_in (unlisted plan.further) judged) reasons shown

-- 0: The log can be judged and shown; and the text of the events, with the faults and what they conflict with, was written and nothing else.
pub record IsReviewed (plan : Plan) (judged again shown : List ℕ) (old new : Option (List ℕ)) : Type 0 where
  pub first : IsJudged judged
  pub reasons : List Evidence
  pub are : AreShownReasons plan.further judged again reasons
  pub last : IsJudged shown
  pub written : Appends old new (reviewed plan judged shown reasons (events shown))

-- what is shown of the log that was judged, by this; and what its faults conflict with was found before
abbrev pub IsShownBy : Further → (judged again : List ℕ) → (List Evidence → Type 0) → Type 0
IsShownBy further judged again P = IsJudged judged × ((reasons : List Evidence) × AreShownReasons further judged again reasons × P reasons)

-- 2: the log is refused while it is judged, and the line that says so was written and nothing else; or it is refused only while it is shown, and that line was
-- written after the text of the preceding events
abbrev pub RefusesPlan : Plan → (judged again shown : List ℕ) → (old new : Option (List ℕ)) → Type 0
RefusesPlan plan judged again shown old new = RefusesCheck forms.Text judged old new
    ⊎ IsShownBy plan.further judged again (λ reasons. RefusesShow (reviewed plan judged shown reasons) shown old new)

-- 4, while the log was judged: reading it failed, or memory ran out, and nothing was written; or part of the line on its refusal was
abbrev pub StopsJudging : Failure → List ℕ → (left old new : Option (List ℕ)) → Type 0
StopsJudging failures.Read log left old new = (at : ℕ) × IsRefusedAt default_limit log left (refusals.Read at) × Keeps old new
StopsJudging failures.Memory log left old new = (at : ℕ) × IsRefusedAt default_limit log left (refusals.Memory at) × Keeps old new
StopsJudging failures.Write log left old new = (refusal : Refusal) × IsRefusedBy log refusal × AppendsPart old new (refused_line refusal)

-- 4: reading the log again failed, or memory ran out, for a log that was judged and has faults, and nothing was written
abbrev pub StopsRereading : Further → Failure → (judged again : List ℕ) → (left old new : Option (List ℕ)) → Type 0
StopsRereading further failure judged again left old new = IsJudged judged × (¬ IsFaultless (unlisted further) judged) × StopsReading failure again left × Keeps old new

-- 4: why, while the log was judged, read again or shown, and what had been written; the three readers have these bytes left
abbrev pub StopsPlan : Plan → Lapse → (judged again shown : List ℕ) → (judged_left again_left shown_left old new : Option (List ℕ)) → Type 0
StopsPlan plan (Failed failure) judged again shown judged_left again_left shown_left old new = StopsJudging failure judged judged_left old new
    ⊎ (StopsRereading plan.further failure judged again again_left old new
    ⊎ IsShownBy plan.further judged again (λ reasons. StopsShow (reviewed plan judged shown reasons) failure shown shown_left old new))
StopsPlan plan Changed judged again shown judged_left again_left shown_left old new = HasChanged (without_list plan.further) judged again old new

-- this holds for the bytes of the log that was judged and of another one, if they are known
abbrev pub IfBoth : (judged other : Option (List ℕ)) → (List ℕ → List ℕ → Type 0) → Type 0
IfBoth judged other P = IfSome judged (λ first. IfSome other (λ second. P first second))

-- this holds for the bytes of the three logs, if they are known
abbrev pub IfAll : (judged again shown : Option (List ℕ)) → (List ℕ → List ℕ → List ℕ → Type 0) → Type 0
IfAll judged again shown P = IfSome judged (λ first. IfBoth again shown (P first))

-- ---- the parts of that

-- these are what the faults of a verdict conflict with: none if there is no fault; else the log that was read again has this verdict, and these are those of its faults
abbrev pub AreFoundReasons : Chosen → Tested → ℕ → List (FaultKey × Fault) → List ℕ → List Evidence → Type 0
AreFoundReasons choice tested count faults log reasons = ((faults ≡ []) × (reasons ≡ []))
    ⊎ AreVerdictReasons choice tested count faults log reasons

-- showing the log by this text of events failed so, and for no other reason
abbrev pub StopsShowing : (List Placed → List ℕ) → Lapse → List ℕ → (left old new : Option (List ℕ)) → Type 0
StopsShowing text_of (Failed failure) log left old new = StopsShow text_of failure log left old new
StopsShowing text_of Changed log left old new = ⊥
