-- A log that was fed to a judge, and what a run over it comes to.
use Rattle.std.proofs.Common.{◌≡◌, ℕ, Bool, true, false, ◌⊎◌, inl, inr, List, [], ◌∷◌, ◌++◌, length, Option, Some, None, refl, sym, ap, subst, ◌∙◌, append-nil, ◌==◌, IfOk, IfSome, Ok, Err, Result, if◌then◌else◌}
use Rattle.std.specs.FinMap as map
use Rattle.std.specs.Io.KnownBytes.{Appends}
use Rattle.mq_log.specs.declared.refusal.Refusal.{Refusal}
use Rattle.mq_log.specs.declared.refusal.Refusal.TheVariants as refusals
use Rattle.mq_report.specs.declared.report.Form.{Form}
use Rattle.mq_report.specs.declared.report.Outcome.{Outcome}
use Rattle.mq_report.specs.declared.report.Outcome.TheVariants.{Pass, Fail}
use Rattle.mq_report.specs.declared.report.RunFault.{RunFault}
use Rattle.mq_report.specs.declared.report.RunFault.TheVariants as run_faults
use Rattle.mq_rules.specs.declared.role.Role.{Role}
use Rattle.mq_rules.specs.declared.role.Further.{Further}
use Rattle.mq_judge.specs.declared.judge.Judge.{Judge}
use Rattle.mq_judge.specs.Judging.{Finishes, Follows, RefusesIn, AreFaultsOf}
use Rattle.mq_log.specs.Refusals.{refused, is_cut_short}
use Rattle.mq_log.specs.Events.{events}
use Rattle.mq_rules.specs.Notes.{tested_by, seen_in}
use Rattle.mq_rules.specs.FaultKeys.{FaultMap}
use Rattle.mq_report.specs.Report.{report_on, FailsToReport}
use Rattle.mq_trace.specs.Feeding.{FedAll}
use Rattle.mq_report.specs.Stopping.{FedBefore, IsRefusedAt, IsRefusedByte, IsRefusedEnd, default_limit, IsJudged}
use Rattle.mq_report.specs.declared.report.coverage.Covered.{Covered}
use Rattle.mq_report.specs.declared.report.unjudged.Gap.{Gap}
use Rattle.mq_report.specs.Coverage.{covered_report_on}
use Rattle.mq_judge.specs.Coverage.{coverage_of}
use Rattle.mq_judge.specs.Unjudged.{unjudged_of}
use Rattle.mq_rules.specs.declared.rule.Rule.{Rule}
use Rattle.mq_choice.specs.declared.choice.Choice.{Choice}
use Rattle.mq_choice.specs.Choices.{chosen_in, in_choice, is_listed, wants_further}
use Rattle.mq_report.specs.declared.report.Verdict.{Verdict}
use Rattle.mq_judge.specs.Runner.{chosen_report, covered_report, outcome_of, FindsOver, IsFoundOf, IsVerdictOn, JudgesOver, RunsCoveredOver, RunsOver}
use Rattle.mq_judge.proofs.JudgeLaws.{unrefused}
use Rattle.mq_trace.proofs.Exports.{pieces-are, some-taken, whole-taken}

-- nothing is refused in what a judge with the default limit follows
unrefused-yet : {judge : Judge} (log : List ℕ) → judge.limit ≡ default_limit → Follows judge log → refused default_limit log ≡ None
unrefused-yet {judge} log e follows = subst (λ l. refused l log ≡ None) e (unrefused judge.limit judge.further judge.tracer judge.judging.watching log follows)

-- what a verdict says of its log
abbrev pub SaysOf : Further → List ℕ → ℕ → FaultMap → Type 0
SaysOf further log count faults = (is_cut_short log ≡ false) × (count ≡ length (events log)) × AreFaultsOf further log faults

-- what is found of a log that was fed whole, with the role of the end that was judged
judge-ends : {S : Type 0} {first : ℕ} {x y : Option (List ℕ)} {judge : Judge} {sink : S} (count : ℕ) (faults : FaultMap) (role : Role)
    → FedAll (λ j. j.limit) (λ j (_ : S). Follows j) first x y judge sink → first ≡ default_limit → ((log : List ℕ) → Follows judge log → SaysOf judge.further log count faults)
    → ((log : List ℕ) → Follows judge log → role ≡ (tested_by judge.further log).role) → IfSome x (λ log. IsFoundOf judge.further log role count faults)
judge-ends {S} {first} {x} {y} {judge} {sink} count faults role took default verdict named =
    let log = took.log in
    let v : SaysOf judge.further log count faults = verdict log took.followed in
    whole-taken x y log (λ l. IsFoundOf judge.further l role count faults) took.consumed took.ended (record {
      judged = record { unrefused = unrefused-yet log (took.within ∙ default) took.followed; whole = v.0 };
      role_is = named log took.followed;
      count_is = v.1;
      faults_are = v.2;
    })

-- a log that was fed whole, and that the judge refused at its end
run-refused-at-end : {S : Type 0} {first : ℕ} {x y : Option (List ℕ)} {judge : Judge} {sink : S} (refusal : Refusal) → FedAll (λ j. j.limit) (λ j (_ : S). Follows j) first x y judge sink → first ≡ default_limit
    → ((log : List ℕ) → Follows judge log → IsRefusedEnd log refusal) → IfSome x (λ log. IsRefusedAt default_limit log y refusal)
run-refused-at-end {S} {first} {x} {y} refusal took default why =
    let log = took.log in
    whole-taken x y log (λ l. IsRefusedAt default_limit l y refusal) took.consumed took.ended (record {
      taken = log;
      later = [];
      is = sym (append-nil log);
      unrefused = unrefused-yet log (took.within ∙ default) took.followed;
      why = inl (why log took.followed);
    })

-- what finishing a judge gives that was fed a whole log
pub judge-finishes : {V : Type 0} (further : Further) (count_in : V → ℕ) (faults_in : V → FaultMap) {S : Type 0} {first : ℕ} {x y : Option (List ℕ)} {judge : Judge} {sink : S} (result : Result (V × Role) Refusal)
    → FedAll (λ j. j.limit) (λ j (_ : S). Follows j) first x y judge sink → first ≡ default_limit → judge.further ≡ further
    → ((log : List ℕ) → Follows judge log → Finishes judge.further (λ (answer : V × Role). count_in answer.0) (λ (answer : V × Role). faults_in answer.0) log result)
    → ((log : List ℕ) → Follows judge log → IfOk result (λ answer. answer.1 ≡ (tested_by judge.further log).role))
    → IfSome x (λ log. FindsOver further count_in faults_in log y result)
judge-finishes further count_in faults_in {S} {first} {x} (Ok answer) took default same finished named =
    subst (λ (b : Further). IfSome x (λ log. IsFoundOf b log answer.1 (count_in answer.0) (faults_in answer.0))) same
    (judge-ends (count_in answer.0) (faults_in answer.0) answer.1 took default finished named)
judge-finishes further count_in faults_in (Err refusal) took default same finished named = run-refused-at-end refusal took default finished

-- what holds of a log holds of what a reader had left, where that is known
pub for_log : (remaining : Option (List ℕ)) (P Q : List ℕ → Type 0) → ((log : List ℕ) → P log → Q log) → IfSome remaining P → IfSome remaining Q
for_log None P Q f h = tt
for_log (Some log) P Q f h = f log h

-- the verdict by the chosen statements, of what was found
pub chosen-verdict : (chosen : Rule → Bool) (x : Option (List ℕ)) (role : Role) (found_count count : ℕ) (found faults : FaultMap) → IfSome x (λ log. IsFoundOf (wants_further chosen) log role found_count found)
    → count ≡ found_count → ((log : List ℕ) → AreFaultsOf (wants_further chosen) log found → map.entries faults ≡ chosen_in chosen log) → IfSome x (λ log. IsVerdictOn chosen log role count faults)
chosen-verdict chosen x role found_count count found faults judged same kept =
    for_log x (λ log. IsFoundOf (wants_further chosen) log role found_count found) (λ log. IsVerdictOn chosen log role count faults)
    (λ log v. record { judged = v.judged; role_is = v.role_is; count_is = same ∙ v.count_is; faults_are = kept log v.faults_are }) judged

-- judging that came to a verdict, was refused, or had no memory for the verdict
pub judged-verdict : (choice : Choice) (x y : Option (List ℕ)) (verdict : Verdict) (role : Role) → IfSome x (λ log. IsVerdictOn (in_choice choice) log role verdict.events verdict.faults)
    → IfSome x (λ log. JudgesOver choice log y (Ok (verdict, role)))
judged-verdict choice None y verdict role judged = tt
judged-verdict choice (Some log) y verdict role judged = judged

pub judged-refused : (choice : Choice) (x y : Option (List ℕ)) (refusal : Refusal) → IfSome x (λ log. IsRefusedAt default_limit log y refusal)
    → IfSome x (λ log. JudgesOver choice log y (Err (run_faults.Refused refusal)))
judged-refused choice None y refusal stopped = tt
judged-refused choice (Some log) y refusal stopped = stopped

pub judged-lacking : (choice : Choice) (x y : Option (List ℕ)) (count : ℕ) (faults : FaultMap) (role : Role) → IfSome x (λ log. IsFoundOf (wants_further (in_choice choice)) log role count faults)
    → is_listed choice ≡ true → IfSome x (λ log. JudgesOver choice log y (Err run_faults.Memory))
judged-lacking choice x y count faults role judged listed =
    for_log x (λ log. IsFoundOf (wants_further (in_choice choice)) log role count faults) (λ log. JudgesOver choice log y (Err run_faults.Memory)) (λ log v. (v.judged, listed)) judged

-- there was no memory for the verdict
pub run-lacks-verdict : (choice : Choice) (x y : Option (List ℕ)) (form : Form) (w : Option (List ℕ)) (count : ℕ) (faults : FaultMap) (role : Role)
    → IfSome x (λ log. IsFoundOf (wants_further (in_choice choice)) log role count faults) → is_listed choice ≡ true → IfSome x (λ log. RunsOver choice form log y (Err run_faults.Memory) w w)
run-lacks-verdict choice x y form w count faults role judged listed =
    for_log x (λ log. IsFoundOf (wants_further (in_choice choice)) log role count faults) (λ log. RunsOver choice form log y (Err run_faults.Memory) w w) (λ log v. (v.judged, inr listed, refl)) judged

report-is : (chosen : Rule → Bool) (form : Form) (log : List ℕ) (role : Role) (count : ℕ) (faults : FaultMap) → IsVerdictOn chosen log role count faults
    → report_on form role (map.entries faults) count ≡ chosen_report chosen form log
unfolding chosen_report
report-is chosen form log role count faults v = rw (v.role_is, v.faults_are, v.count_is) refl

outcome-is : (chosen : Rule → Bool) (log : List ℕ) (role : Role) (count : ℕ) (faults : FaultMap) → IsVerdictOn chosen log role count faults
    → (if map.len faults == 0 then Pass else Fail) ≡ outcome_of chosen log
outcome-is chosen log role count faults v = rw (map.len-entries faults, v.faults_are) refl

-- a run that came to an outcome
pub run-reports : (choice : Choice) (x y : Option (List ℕ)) (form : Form) (w z : Option (List ℕ)) (count : ℕ) (faults : FaultMap) (role : Role) (outcome : Outcome)
    → IfSome x (λ log. IsVerdictOn (in_choice choice) log role count faults)
    → Appends w z (report_on form role (map.entries faults) count) → outcome ≡ (if map.len faults == 0 then Pass else Fail)
    → IfSome x (λ log. RunsOver choice form log y (Ok outcome) w z)
run-reports choice x y form w z count faults role outcome judged wrote says =
    for_log x (λ log. IsVerdictOn (in_choice choice) log role count faults) (λ log. RunsOver choice form log y (Ok outcome) w z)
    (λ log v. (v.judged, says ∙ outcome-is (in_choice choice) log role count faults v, subst (Appends w z) (report-is (in_choice choice) form log role count faults v) wrote)) judged

-- a run whose report couldn't be written
stops-with : (choice : Choice) (form : Form) (log : List ℕ) (y w z : Option (List ℕ)) (fault : RunFault) → IsJudged log → FailsToReport form w z (chosen_report (in_choice choice) form log) fault → RunsOver choice form log y (Err fault) w z
stops-with choice form log y w z (run_faults.Refused refusal) judged failed = absurd failed
stops-with choice form log y w z run_faults.Write judged failed = (judged, failed)
stops-with choice form log y w z run_faults.Memory judged failed = (judged, inl failed.0, failed.1)

pub run-stops-writing : (choice : Choice) (x y : Option (List ℕ)) (form : Form) (w z : Option (List ℕ)) (count : ℕ) (faults : FaultMap) (role : Role) (fault : RunFault)
    → IfSome x (λ log. IsVerdictOn (in_choice choice) log role count faults)
    → FailsToReport form w z (report_on form role (map.entries faults) count) fault
    → IfSome x (λ log. RunsOver choice form log y (Err fault) w z)
run-stops-writing choice x y form w z count faults role fault judged stopped =
    for_log x (λ log. IsVerdictOn (in_choice choice) log role count faults) (λ log. RunsOver choice form log y (Err fault) w z)
    (λ log v. stops-with choice form log y w z fault v.judged (subst (λ (t : List ℕ). FailsToReport form w z t fault) (report-is (in_choice choice) form log role count faults v) stopped)) judged

-- ---- with coverage

-- what holds of a log by two facts on it
for_both : (remaining : Option (List ℕ)) (P Q R : List ℕ → Type 0) → ((log : List ℕ) → P log → Q log → R log) → IfSome remaining P → IfSome remaining Q → IfSome remaining R
for_both None P Q R f h k = tt
for_both (Some log) P Q R f h k = f log h k

-- how often each statement of a log is put to the test, and what isn't judged of it
abbrev pub AreListsOf : (chosen : Rule → Bool) → List Covered → List Gap → List ℕ → Type 0
AreListsOf chosen rows gaps log = (rows ≡ coverage_of chosen log) × (gaps ≡ unjudged_of (wants_further chosen) log)

pub lists-known : (chosen : Rule → Bool) (x : Option (List ℕ)) (rows : List Covered) (gaps : List Gap) → IfSome x (λ log. rows ≡ coverage_of chosen log) → IfSome x (λ log. gaps ≡ unjudged_of (wants_further chosen) log)
    → IfSome x (AreListsOf chosen rows gaps)
lists-known chosen x rows gaps = for_both x (λ log. rows ≡ coverage_of chosen log) (λ log. gaps ≡ unjudged_of (wants_further chosen) log) (AreListsOf chosen rows gaps) (λ log covered left. (covered, left))

covered-report-is : (chosen : Rule → Bool) (form : Form) (log : List ℕ) (role : Role) (count : ℕ) (faults : FaultMap) (rows : List Covered) (gaps : List Gap) → IsVerdictOn chosen log role count faults → AreListsOf chosen rows gaps log
    → covered_report_on form role (map.entries faults) count rows gaps ≡ covered_report chosen form log
unfolding covered_report
covered-report-is chosen form log role count faults rows gaps v are = rw (v.role_is, v.faults_are, v.count_is, are.0, are.1) refl

-- a run that came to an outcome, and said how often each statement was put to the test
pub run-covers : (chosen : Rule → Bool) (x y : Option (List ℕ)) (form : Form) (w z : Option (List ℕ)) (count : ℕ) (faults : FaultMap) (role : Role) (rows : List Covered) (gaps : List Gap) (outcome : Outcome)
    → IfSome x (λ log. IsVerdictOn chosen log role count faults) → IfSome x (AreListsOf chosen rows gaps)
    → Appends w z (covered_report_on form role (map.entries faults) count rows gaps) → outcome ≡ (if map.len faults == 0 then Pass else Fail)
    → IfSome x (λ log. RunsCoveredOver chosen form log y (Ok outcome) w z)
run-covers chosen x y form w z count faults role rows gaps outcome judged covered wrote says =
    for_both x (λ log. IsVerdictOn chosen log role count faults) (AreListsOf chosen rows gaps) (λ log. RunsCoveredOver chosen form log y (Ok outcome) w z)
    (λ log v is. (v.judged, says ∙ outcome-is chosen log role count faults v, subst (Appends w z) (covered-report-is chosen form log role count faults rows gaps v is) wrote)) judged covered

-- one whose report couldn't be written
covers-partly : (chosen : Rule → Bool) (form : Form) (log : List ℕ) (y w z : Option (List ℕ)) (fault : RunFault) → IsJudged log → FailsToReport form w z (covered_report chosen form log) fault → RunsCoveredOver chosen form log y (Err fault) w z
covers-partly chosen form log y w z (run_faults.Refused refusal) judged failed = absurd failed
covers-partly chosen form log y w z run_faults.Write judged failed = (judged, failed)
covers-partly chosen form log y w z run_faults.Memory judged failed = (judged, failed.1)

pub run-stops-covering : (chosen : Rule → Bool) (x y : Option (List ℕ)) (form : Form) (w z : Option (List ℕ)) (count : ℕ) (faults : FaultMap) (role : Role) (rows : List Covered) (gaps : List Gap) (fault : RunFault)
    → IfSome x (λ log. IsVerdictOn chosen log role count faults) → IfSome x (AreListsOf chosen rows gaps)
    → FailsToReport form w z (covered_report_on form role (map.entries faults) count rows gaps) fault
    → IfSome x (λ log. RunsCoveredOver chosen form log y (Err fault) w z)
run-stops-covering chosen x y form w z count faults role rows gaps fault judged covered stopped =
    for_both x (λ log. IsVerdictOn chosen log role count faults) (AreListsOf chosen rows gaps) (λ log. RunsCoveredOver chosen form log y (Err fault) w z)
    (λ log v is. covers-partly chosen form log y w z fault v.judged (subst (λ (t : List ℕ). FailsToReport form w z t fault) (covered-report-is chosen form log role count faults rows gaps v is) stopped)) judged covered

-- one that had no memory for the lists, or for the verdict
pub run-lacks-rows : (chosen : Rule → Bool) (x y : Option (List ℕ)) (form : Form) (w : Option (List ℕ)) (count : ℕ) (faults : FaultMap) (role : Role)
    → IfSome x (λ log. IsFoundOf (wants_further chosen) log role count faults) → IfSome x (λ log. RunsCoveredOver chosen form log y (Err run_faults.Memory) w w)
run-lacks-rows chosen x y form w count faults role judged =
    for_log x (λ log. IsFoundOf (wants_further chosen) log role count faults) (λ log. RunsCoveredOver chosen form log y (Err run_faults.Memory) w w) (λ log v. (v.judged, refl)) judged

-- what is so of the rows, if there are some, is so of these
pub rows-known : {A : Type 0} (P : List ℕ → A → Type 0) (x : Option (List ℕ)) (found : Option A) (rows : A) → found ≡ Some rows → IfSome x (λ log. IfSome found (P log))
    → IfSome x (λ log. P log rows)
rows-known {A} P x found rows is known =
    for_log x (λ log. IfSome found (P log)) (λ log. P log rows)
    (λ log h. let there : IfSome (Some rows) (P log) = subst (λ (o : Option A). IfSome o (P log)) is h in there) known

-- a judge that stopped has no rows
abbrev stopped_by : {V E : Type 0} → E → Result V E
stopped_by e = Err e

pub no-rows : {V E : Type 0} (x : Option (List ℕ)) (result : Result V E) (e : E) (P : List ℕ → V → Type 0) → result ≡ Err e → IfSome x (λ log. IfOk result (P log))
no-rows {V} {E} x result e P is = subst (λ (r : Result V E). IfSome x (λ log. IfOk r (P log))) (sym is) (nothing x)
  where
    nothing : (y : Option (List ℕ)) → IfSome y (λ log. IfOk (stopped_by {V = V} e) (P log))
    nothing None = tt
    nothing (Some log) = tt

-- a run that was stopped while it was feeding the judge
pub run-stopped : {S : Type 0} {first : ℕ} {x y : Option (List ℕ)} {judge : Judge} {sink : S} (refusal : Refusal) → FedBefore (λ j. j.limit) (λ j (_ : S). Follows j) (λ l j _. RefusesIn l j) first x y judge sink refusal → first ≡ default_limit
    → IfSome x (λ log. IsRefusedAt default_limit log y refusal)
run-stopped {S} {first} {x} {y} {judge} {sink} refusal fed default =
    some-taken x y (fed.log ++ fed.piece) (λ l left. IsRefusedAt default_limit l left refusal) fed.consumed (λ left. by_why left fed.why)
  where
    by_why : (left : List ℕ) → RefusesIn first judge fed.log fed.piece refusal
        ⊎ ((fed.piece ≡ []) × Follows judge fed.log × (judge.limit ≡ first) × (refusal ≡ refusals.Read (length fed.log)))
        → IsRefusedAt default_limit ((fed.log ++ fed.piece) ++ left) (Some left) refusal
    by_why left (inl (s, state)) = record {
      taken = fed.log ++ s.taken;
      later = s.byte ∷ (s.later ++ left);
      is = pieces-are fed.log fed.piece s.taken (s.byte ∷ s.later) left s.is;
      unrefused = subst (λ (l : ℕ). refused l (fed.log ++ s.taken) ≡ None) default s.unrefused;
      why = inl (subst (λ (l : ℕ). IsRefusedByte l (fed.log ++ s.taken) s.byte refusal) default s.why);
    }
    by_why left (inr (none, follows, within, is)) = record {
      taken = fed.log;
      later = left;
      is = ap (λ (l : List ℕ). (fed.log ++ l) ++ left) none ∙ ap (λ (l : List ℕ). l ++ left) (append-nil fed.log);
      unrefused = unrefused-yet fed.log (within ∙ default) follows;
      why = inr (is, refl);
    }
