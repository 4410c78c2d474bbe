-- The result of judging a whole log, from a reader to a writer. Each definition says first which statements are chosen, or whether the further statements are judged too.
use Rattle.std.specs.Prelude.{◌≡◌, ◌⊎◌, ℕ, ◌==◌, Bool, true, List, [], length, Option, Result, Ok, Err, if◌then◌else◌}
use Rattle.std.specs.Io.KnownBytes.{Appends}
use Rattle.mq_report.specs.declared.report.Form.{Form}
use Rattle.mq_report.specs.declared.report.Form.TheVariants.{Json}
use Rattle.mq_report.specs.declared.report.Outcome.{Outcome}
use Rattle.mq_report.specs.declared.report.Outcome.TheVariants.{Pass, Fail}
use Rattle.mq_report.specs.declared.report.RunFault.{RunFault}
use Rattle.mq_report.specs.declared.report.RunFault.TheVariants as run_faults
use Rattle.mq_report.specs.declared.report.Verdict.{Verdict}
use Rattle.std.specs.FinMap as map
use Rattle.mq_rules.specs.declared.role.Role.{Role}
use Rattle.mq_rules.specs.declared.role.Further.{Further}
use Rattle.mq_rules.specs.declared.fault.Fault.{Fault}
use Rattle.mq_rules.specs.declared.faults.FaultKey.{FaultKey}
use Rattle.mq_rules.specs.FaultKeys.{FaultMap}
use Rattle.mq_rules.specs.declared.rule.Rule.{Rule}
use Rattle.mq_rules.specs.Notes.{tested_by, seen_in}
use Rattle.mq_choice.specs.declared.choice.Choice.{Choice}
use Rattle.mq_choice.specs.Choices.{chosen_in, in_choice, is_listed, tested_for, wants_further}
use Rattle.mq_log.specs.declared.refusal.Refusal.{Refusal}
use Rattle.mq_log.specs.Events.{events}
use Rattle.mq_rules.specs.Faults.{listed_faults}
use Rattle.mq_report.specs.Chosen.{is_judged}
use Rattle.mq_trace.specs.Writing.{AppendsBeginning}
use Rattle.mq_report.specs.Report.{report_on}
use Rattle.mq_report.specs.Coverage.{covered_report_on}
use Rattle.mq_judge.specs.Judging.{AreFaultsOf}
use Rattle.mq_judge.specs.Coverage.{coverage_of}
use Rattle.mq_judge.specs.Unjudged.{unjudged_of}
use Rattle.mq_report.specs.Stopping.{IsJudged, IsRefusedAt, default_limit}

-- the report on a log, on the faults of chosen statements
unfoldable pub chosen_report : (chosen : Rule → Bool) → Form → List ℕ → List ℕ
chosen_report chosen form log = report_on form (tested_for chosen log).role (chosen_in chosen log) (length (events log))

-- no chosen statement is false at any position of the log
abbrev pub IsFaultless : (chosen : Rule → Bool) → List ℕ → Type 0
IsFaultless chosen log = chosen_in chosen log ≡ []

-- Pass exactly if the log has no faults of chosen statements
abbrev pub outcome_of : (chosen : Rule → Bool) → List ℕ → Outcome
outcome_of chosen log = if length (chosen_in chosen log) == 0 then Pass else Fail

-- the faults of all statements that are judged, in ascending order
abbrev pub found_in : Further → List ℕ → List (FaultKey × Fault)
found_in further log = listed_faults (is_judged (tested_by further log)) (tested_by further log) (seen_in log)

-- The log can be judged, and this is what is found of it: the end that was judged, how many events there are, and the faults of all statements that are judged.
pub record IsFoundOf (further : Further) (log : List ℕ) (role : Role) (count : ℕ) (faults : FaultMap) : Type 0 where
  pub judged : IsJudged log
  pub role_is : role ≡ (tested_by further log).role
  pub count_is : count ≡ length (events log)
  pub faults_are : AreFaultsOf further log faults

-- The result of judging this log, and what the reader has left: what is found and the end that was judged, or why the log is refused.
abbrev pub FindsOver : {V : Type 0} → Further → (V → ℕ) → (V → FaultMap) → List ℕ → Option (List ℕ) → Result (V × Role) Refusal → Type 0
FindsOver further count_in faults_in log left (Ok answer) = IsFoundOf further log answer.1 (count_in answer.0) (faults_in answer.0)
FindsOver further count_in faults_in log left (Err refusal) = IsRefusedAt default_limit log left refusal

-- The log can be judged, and this is the verdict on it: the end that was judged, how many events there are, and the faults of chosen statements.
pub record IsVerdictOn (chosen : Rule → Bool) (log : List ℕ) (role : Role) (count : ℕ) (faults : FaultMap) : Type 0 where
  pub judged : IsJudged log
  pub role_is : role ≡ (tested_for chosen log).role
  pub count_is : count ≡ length (events log)
  pub faults_are : map.entries faults ≡ chosen_in chosen log

-- The result of judging this log by a choice, and what the reader has left: the verdict and the end that was judged, or why the log is refused. If statements are listed there
-- may be no memory for the faults of these.
abbrev pub JudgesOver : Choice → List ℕ → Option (List ℕ) → Result (Verdict × Role) RunFault → Type 0
JudgesOver choice log left (Ok answer) = IsVerdictOn (in_choice choice) log answer.1 answer.0.events answer.0.faults
JudgesOver choice log left (Err (run_faults.Refused refusal)) = IsRefusedAt default_limit log left refusal
JudgesOver choice log left (Err run_faults.Write) = ⊥
JudgesOver choice log left (Err run_faults.Memory) = IsJudged log × (is_listed choice ≡ true)

-- memory may be wanting for a report in this form: for a JSON value, or for the faults of the statements that are listed
abbrev pub MayLackReport : Choice → Form → Type 0
MayLackReport choice form = (form ≡ Json) ⊎ (is_listed choice ≡ true)

-- What a run over this log did, by the form of its report, its result and what the reader has left: it wrote the report and nothing else; or, if
-- writing failed, a beginning of it; or nothing, if the log is refused or there was no memory for the report.
abbrev pub RunsOver : Choice → Form → List ℕ → Option (List ℕ) → Result Outcome RunFault → Option (List ℕ) → Option (List ℕ) → Type 0
RunsOver choice form log left (Ok outcome) old new = IsJudged log × (outcome ≡ outcome_of (in_choice choice) log) × Appends old new (chosen_report (in_choice choice) form log)
RunsOver choice form log left (Err (run_faults.Refused refusal)) old new = IsRefusedAt default_limit log left refusal
RunsOver choice form log left (Err run_faults.Write) old new = IsJudged log × AppendsBeginning old new (chosen_report (in_choice choice) form log)
RunsOver choice form log left (Err run_faults.Memory) old new = IsJudged log × MayLackReport choice form × (new ≡ old)

-- ---- with coverage

-- the report on a log that also says how often each statement was put to the test, and what wasn't judged
unfoldable pub covered_report : (chosen : Rule → Bool) → Form → List ℕ → List ℕ
covered_report chosen form log = covered_report_on form (tested_for chosen log).role (chosen_in chosen log) (length (events log)) (coverage_of chosen log) (unjudged_of (wants_further chosen) log)

-- What a run over this log did that says how often each statement was put to the test, and what wasn't judged: as a run without that, but nothing is written either if
-- there was no memory to list the statements, or what wasn't judged.
abbrev pub RunsCoveredOver : (chosen : Rule → Bool) → Form → List ℕ → Option (List ℕ) → Result Outcome RunFault → Option (List ℕ) → Option (List ℕ) → Type 0
RunsCoveredOver chosen form log left (Ok outcome) old new = IsJudged log × (outcome ≡ outcome_of chosen log) × Appends old new (covered_report chosen form log)
RunsCoveredOver chosen form log left (Err (run_faults.Refused refusal)) old new = IsRefusedAt default_limit log left refusal
RunsCoveredOver chosen form log left (Err run_faults.Write) old new = IsJudged log × AppendsBeginning old new (covered_report chosen form log)
RunsCoveredOver chosen form log left (Err run_faults.Memory) old new = IsJudged log × (new ≡ old)
