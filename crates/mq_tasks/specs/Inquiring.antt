-- A check that says what each fault conflicts with, and reads a log that has faults twice: what the words ask for, and what each status means.
use Rattle.std.specs.Prelude.{Bool, ◌≡◌, ◌⊎◌, ℕ, false, true, List, length, Option, None, Some, Result, Ok, Err, IfSome, if◌then◌else◌, option_map, string_bytes}
use Rattle.std.specs.Io.KnownBytes.{Appends, Keeps}
use Rattle.clap.specs.Words.{Text}
use Rattle.mq_log.specs.Events.{events}
use Rattle.mq_log.specs.Framing.{header_by}
use Rattle.mq_rules.specs.Notes.{tested_by, seen_in}
use Rattle.mq_choice.specs.Choices.{chosen_in, tested_for}
use Rattle.mq_rules.specs.declared.role.Tested.{Tested}
use Rattle.mq_rules.specs.declared.fault.Fault.{Fault}
use Rattle.mq_rules.specs.declared.faults.FaultKey.{FaultKey}
use Rattle.mq_rules.specs.declared.evidence.Evidence.{Evidence}
use Rattle.mq_report.specs.Report.{refused_report}
use Rattle.mq_report.specs.Reasons.{reasoned_report_on}
use Rattle.mq_report.specs.Stopping.{IsJudged, default_limit, IsRefusedAt}
use Rattle.mq_trail.specs.Explaining.{AreReasons, IsSame}
use Rattle.mq_judge.specs.declared.Form.{Form}
use Rattle.mq_judge.specs.declared.Form.TheVariants.{Json}
use Rattle.mq_judge.specs.declared.RunFault.{RunFault}
use Rattle.mq_judge.specs.declared.RunFault.TheVariants as run_faults
use Rattle.mq_judge.specs.declared.Refusal.{Refusal}
use Rattle.mq_judge.specs.declared.Refusal.TheVariants as refusals
use Rattle.mq_judge.specs.Runner.{IsFaultless}
use Rattle.mq_command.specs.declared.command_line.Inquiry.{Inquiry}
use Rattle.mq_command.specs.CommandLine.{path_named}
use Rattle.mq_host.specs.declared.failure.Failure.{Failure}
use Rattle.mq_host.specs.declared.failure.Failure.TheVariants as failures
use Rattle.mq_host.specs.Streams.{AppendsPart, no_file_for_why_line, two_reports_line}
use Rattle.mq_tasks.specs.declared.lapse.Lapse.{Lapse}
use Rattle.mq_tasks.specs.declared.lapse.Lapse.TheVariants.{Failed, Changed}
use Rattle.mq_tasks.specs.Choosing.{Chosen, choice_for}
use Rattle.mq_tasks.specs.Messages.{IsRefusedBy, report_for}

-- ---- what the words ask for

-- A log that is judged by a choice of statements.
pub record Asked : Type 0 where
  pub path : Text
  pub choice : Chosen

-- a log that is named by a path, judged by this choice; else the message
abbrev pub log_at : Chosen → Option Text → Result Asked Text
log_at choice None = Err no_file_for_why_line
log_at choice (Some path) = Ok (record { path = path; choice = choice })

-- the same, if there is a choice
abbrev pub log_by : Result Chosen Text → Option Text → Result Asked Text
log_by (Err line) path = Err line
log_by (Ok choice) path = log_at choice path

-- the log, if one is named that can be read twice, no other report is asked for too, and the words choose statements; else the message
abbrev pub asked_of : Inquiry → Result Asked Text
asked_of inquiry = if inquiry.coverage then Err two_reports_line
    else log_by (choice_for inquiry.scope (option_map string_bytes inquiry.statements)) (path_named (option_map string_bytes inquiry.file))

-- ---- what each status means for the log that was judged and the one that was read again: one log, unless its file changed between the two readings. Both are judged by the
-- same choice of statements.

-- the report on a log in this form that says that its faults conflict with these
abbrev pub reasoned_report : Chosen → Form → List ℕ → List Evidence → List ℕ
reasoned_report choice form log reasons = reasoned_report_on form (tested_for choice.has log).role (chosen_in choice.has log) (length (events log)) reasons

-- these are what the log's faults conflict with, in their order
abbrev pub AreReasonsOf : Chosen → List ℕ → List Evidence → Type 0
AreReasonsOf choice log reasons = AreReasons (tested_for choice.has log) (seen_in log) (chosen_in choice.has log) reasons

-- The two logs have the same verdict: on the same end, with the same faults, among as many events.
pub record HaveSameVerdict (choice : Chosen) (judged again : List ℕ) : Type 0 where
  pub end : tested_for choice.has again ≡ tested_for choice.has judged
  pub counted : length (events again) ≡ length (events judged)
  pub found : chosen_in choice.has again ≡ chosen_in choice.has judged

-- 0: the log has no fault, and the report was written and nothing else
abbrev pub IsPassed : Chosen → Form → List ℕ → (old new : Option (List ℕ)) → Type 0
IsPassed choice form log old new = IsJudged log × IsFaultless choice.has log × Appends old new (report_for choice form false log)

-- The log that is read again has the verdict of the one that was judged, and these are what its faults conflict with, in their order.
pub record AreReasonsAgain (choice : Chosen) (judged again : List ℕ) (reasons : List Evidence) : Type 0 where
  pub second : IsJudged again
  pub same : HaveSameVerdict choice judged again
  pub are : AreReasonsOf choice again reasons

-- 1: The log has faults, it was read again for what they conflict with, and the report that says this was written and nothing else.
pub record IsReasoned (choice : Chosen) (form : Form) (judged again : List ℕ) (old new : Option (List ℕ)) : Type 0 where
  pub first : IsJudged judged
  pub faulty : ¬ IsFaultless choice.has judged
  pub reasons : List Evidence
  pub are : AreReasonsAgain choice judged again reasons
  pub reported : Appends old new (reasoned_report choice form again reasons)

-- 4: The log has faults; read again it is refused, or has another verdict; nothing was written.
pub record HasChanged (choice : Chosen) (judged again : List ℕ) (old new : Option (List ℕ)) : Type 0 where
  pub first : IsJudged judged
  pub faulty : ¬ IsFaultless choice.has judged
  pub why : ((refusal : Refusal) × IsRefusedBy again refusal) ⊎ (IsJudged again × (¬ HaveSameVerdict choice judged again))
  pub unwritten : Keeps old new

-- a report of this text wasn't written: memory ran out for it as JSON, and nothing was; or part of it was
abbrev pub StopsReport : Form → (text : List ℕ) → Failure → (old new : Option (List ℕ)) → Type 0
StopsReport form text failures.Read old new = ⊥
StopsReport form text failures.Memory old new = (form ≡ Json) × Keeps old new
StopsReport form text failures.Write old new = AppendsPart old new text

-- 4, while the log was judged: reading it failed, or memory ran out, for the log, for its refusal as JSON or for the faults of the statements that are listed, and nothing was
-- written; or part of the refusal was
abbrev pub StopsFirst : Chosen → Form → Failure → List ℕ → (left old new : Option (List ℕ)) → Type 0
StopsFirst choice form failures.Read log left old new = (at : ℕ) × IsRefusedAt default_limit log left (refusals.Read at) × Keeps old new
StopsFirst choice form failures.Memory log left old new = ((at : ℕ) × IsRefusedAt default_limit log left (refusals.Memory at) × Keeps old new)
    ⊎ (((refusal : Refusal) × IsRefusedBy log refusal × (form ≡ Json) × Keeps old new) ⊎ (IsJudged log × (choice.listed ≡ true) × Keeps old new))
StopsFirst choice form failures.Write log left old new = (refusal : Refusal) × IsRefusedBy log refusal × AppendsPart old new (refused_report form refusal)

-- 4: the log has no fault, and the report wasn't written, or only part of it
abbrev pub StopsPass : Chosen → Form → Failure → List ℕ → (old new : Option (List ℕ)) → Type 0
StopsPass choice form failure log old new = IsJudged log × IsFaultless choice.has log × StopsReport form (report_for choice form false log) failure old new

-- reading the log again failed, or memory ran out for that, for what the faults conflict with or for the report, and nothing was written; or part of the report was
abbrev pub StopsReasons : Chosen → Form → Failure → (judged again : List ℕ) → (left old new : Option (List ℕ)) → Type 0
StopsReasons choice form failures.Read judged again left old new = (at : ℕ) × IsRefusedAt default_limit again left (refusals.Read at) × Keeps old new
StopsReasons choice form failures.Memory judged again left old new = Keeps old new
StopsReasons choice form failures.Write judged again left old new = (reasons : List Evidence) × AreReasonsAgain choice judged again reasons
    × AppendsPart old new (reasoned_report choice form again reasons)

-- 4: that, for a log with faults
abbrev pub StopsAgain : Chosen → Form → Failure → (judged again : List ℕ) → (left old new : Option (List ℕ)) → Type 0
StopsAgain choice form failure judged again left old new = IsJudged judged × (¬ IsFaultless choice.has judged) × StopsReasons choice form failure judged again left old new

-- 4: why, while the log was judged or while it was read again, and what had been written; the two readers have these bytes left
abbrev pub StopsInquiry : Chosen → Form → Lapse → (judged again : List ℕ) → (judged_left again_left old new : Option (List ℕ)) → Type 0
StopsInquiry choice form (Failed failure) judged again judged_left again_left old new =
    StopsFirst choice form failure judged judged_left old new ⊎ (StopsPass choice form failure judged old new ⊎ StopsAgain choice form failure judged again again_left old new)
StopsInquiry choice form Changed judged again judged_left again_left old new = HasChanged choice judged again old new

-- ---- the parts of that

-- what failed if a report wasn't written
abbrev pub failure_by : RunFault → Failure
failure_by (run_faults.Refused refusal) = failures.Write
failure_by run_faults.Write = failures.Write
failure_by run_faults.Memory = failures.Memory

-- the header of the log says this of releases, if the log is known
abbrev pub HasReleases : (releases : Bool) → Option (List ℕ) → Type 0
HasReleases releases log = IfSome log (λ bytes. releases ≡ (header_by bytes).releases)

-- a report of this text wasn't written for this reason, and for no other
abbrev pub StopsReportBy : Form → (text : List ℕ) → (old new : Option (List ℕ)) → Lapse → Type 0
StopsReportBy form text old new (Failed failure) = StopsReport form text failure old new
StopsReportBy form text old new Changed = ⊥

-- the report on a verdict in this form that says that its faults conflict with these
abbrev pub reasoned_verdict : Form → Tested → ℕ → List (FaultKey × Fault) → List Evidence → List ℕ
reasoned_verdict form tested count faults reasons = reasoned_report_on form tested.role faults count reasons

-- the log that was read again has this verdict, and the report that says what its faults conflict with was written and nothing else
abbrev pub IsExplained : Chosen → Form → Tested → ℕ → List (FaultKey × Fault) → List ℕ → (old new : Option (List ℕ)) → Type 0
IsExplained choice form tested count faults log old new = IsJudged log × IsSame choice.has tested (tested_by tested.further log) count faults (seen_in log)
    × ((reasons : List Evidence) × AreReasons tested (seen_in log) faults reasons × Appends old new (reasoned_verdict form tested count faults reasons))

-- it wasn't: reading failed, or memory ran out, and nothing was written; or part of the report was; or the log is refused or has another verdict
abbrev pub StopsExplaining : Chosen → Form → Tested → ℕ → List (FaultKey × Fault) → Lapse → List ℕ → (left old new : Option (List ℕ)) → Type 0
StopsExplaining choice form tested count faults (Failed failures.Read) log left old new = (at : ℕ) × IsRefusedAt default_limit log left (refusals.Read at) × Keeps old new
StopsExplaining choice form tested count faults (Failed failures.Memory) log left old new = Keeps old new
StopsExplaining choice form tested count faults (Failed failures.Write) log left old new = IsJudged log × IsSame choice.has tested (tested_by tested.further log) count faults (seen_in log)
    × ((reasons : List Evidence) × AreReasons tested (seen_in log) faults reasons × AppendsPart old new (reasoned_verdict form tested count faults reasons))
StopsExplaining choice form tested count faults Changed log left old new =
    (((refusal : Refusal) × IsRefusedBy log refusal) ⊎ (IsJudged log × (¬ IsSame choice.has tested (tested_by tested.further log) count faults (seen_in log)))) × Keeps old new
