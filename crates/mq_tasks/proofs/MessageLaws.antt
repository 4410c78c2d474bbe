-- What a status tells of a log, and what was written where a line couldn't be flushed.
use Rattle.std.proofs.Common.{◌≡◌, ◌==◌, ℕ, Bool, true, false, List, [], append-nil, Option, Some, None, Result, Ok, Err, IfErr, IfOk, IfSome, OnOk, ◌⊎◌, refl, subst, sym, inl, inr, length, ◌∙◌}
use Rattle.std.proofs.KnownBytes.{Appends-kept, Keeps-refl}
use Rattle.std.specs.Io.KnownBytes.{Appends, Keeps}
use Rattle.std.specs.Prelude.{String, string_bytes, option_map, unwrap_or, if◌then◌else◌, IsOkAnd, IsSome, MatchResult}
use Rattle.std.proofs.lemmas.Bool.{eqb-true}
use Rattle.std.proofs.lemmas.List.{nil_from_length}
use Rattle.std.specs.declared.alloc.Global.{Global}
use Rattle.mq_log.specs.Events.{Placed, events}
use Rattle.mq_trace.specs.Writing.{AppendsBeginning}
use Rattle.mq_judge.specs.declared.Form.{Form}
use Rattle.mq_judge.specs.declared.Form.TheVariants.{Text, Json}
use Rattle.mq_judge.specs.declared.Outcome.{Outcome}
use Rattle.mq_judge.specs.declared.Outcome.TheVariants.{Pass, Fail}
use Rattle.mq_rules.specs.declared.role.Role.{Role}
use Rattle.mq_rules.specs.declared.rule.Rule.{Rule}
use Rattle.mq_rules.specs.declared.fault.Fault.{Fault}
use Rattle.mq_rules.specs.declared.faults.FaultKey.{FaultKey}
use Rattle.mq_judge.specs.declared.Refusal.{Refusal}
use Rattle.mq_judge.specs.declared.Refusal.TheVariants as refusals
use Rattle.mq_judge.specs.declared.RunFault.{RunFault}
use Rattle.mq_judge.specs.declared.RunFault.TheVariants as run_faults
use Rattle.mq_report.specs.Report.{refused_line, refused_report}
use Rattle.mq_judge.specs.Runner.{IsFaultless, RunsCoveredOver, RunsOver}
use Rattle.mq_report.specs.Stopping.{IsJudged, default_limit, IsRefusedAt, IsRefusedNext, IsUnread}
use Rattle.mq_display.specs.Display.{Shows}
use Rattle.mq_trace.proofs.Exports.{appends-kept, appends-then}
use Rattle.mq_command.specs.declared.scope.Scope.{Scope}
use Rattle.mq_command.specs.declared.command_line.Task.{Task}
use Rattle.mq_command.specs.declared.command_line.Task.TheVariants.{Check, Show, Packet, Rules, Explain}
use Rattle.mq_host.specs.declared.failure.Obstacle.{Obstacle}
use Rattle.mq_host.specs.declared.failure.Obstacle.TheVariants as obstacles
use Rattle.mq_tasks.proofs.PacketLaws.{packet_lacks}
use Rattle.mq_explain.specs.Citing.{explained_for}
use Rattle.mq_explain.specs.Listing.{listed_for, role_named, statement_lines}
use Rattle.mq_choice.specs.declared.choice.Choice.{Choice}
use Rattle.mq_choice.specs.Choices.{chosen_in, in_choice}
use Rattle.mq_command.specs.declared.command_line.Form.{Form as AskedForm}
use Rattle.mq_host.specs.declared.misuse.Misuse.{Misuse}
use Rattle.mq_tasks.specs.Choosing.{Chosen, choice_for, chosen_as}
use Rattle.mq_tasks.specs.Messages.{ByChoice, Prints, LacksMessage, StopsPrinting, form_of, AppendsAfter, BeginsRefusal, IsOfLog, LacksJsonMemory, IsRefusedBy, RefusesCheck, RunsFor, report_for, RefusesShow, StopsCheck, StopsShow, failure_of, FailsMisnamed, IsMisnamed, StopsAttempt, StopsTask, StopsText}
use Rattle.mq_host.specs.Streams.{AppendsPart, IsCutOff, IsTold, Stream, failure_line, misuse_line, no_role_line, no_statement_line}
use Rattle.mq_host.specs.declared.failure.Failure.{Failure}
use Rattle.mq_host.specs.declared.failure.Failure.TheVariants as failures

-- what holds of a log holds of what a reader has left, where that is known
for_log : (remaining : Option (List ℕ)) (P Q : List ℕ → Type 0) → ((log : List ℕ) → P log → Q log) → IfSome remaining P → IfSome remaining Q
for_log None P Q f h = tt
for_log (Some log) P Q f h = f log h

-- ---- parts of a text

-- nothing of it was written
pub part-kept : (old new : Option (List ℕ)) (text : List ℕ) → Keeps old new → AppendsPart old new text
part-kept old new text kept = record { written = []; unwritten = text; whole = refl; appended = appends-kept old new kept }

-- all of it was
part-whole : (old new : Option (List ℕ)) (text : List ℕ) → Appends old new text → AppendsPart old new text
part-whole old new text h = record { written = text; unwritten = []; whole = sym (append-nil text); appended = h }

-- a beginning of it was
part-begun : (old new : Option (List ℕ)) (text : List ℕ) → AppendsBeginning old new text → AppendsPart old new text
part-begun old new text h = record { written = h.written; unwritten = h.unwritten; whole = h.whole; appended = h.appended }

-- part of it was, after another text
part-after : (old middle new : Option (List ℕ)) (before text : List ℕ) → Appends old middle before → AppendsPart middle new text → AppendsAfter old new before text
part-after old middle new before text first part = record {
  written = part.written;
  unwritten = part.unwritten;
  whole = part.whole;
  appended = appends-then old middle new before part.written first part.appended;
}

-- all of it was written, and then not flushed
pub whole_is_begun : {E : Type 0} (old middle new : Option (List ℕ)) (text : List ℕ) (status : Result ℕ E) → Appends old middle text → Keeps middle new
    → IfErr status (λ _. AppendsPart old new text)
whole_is_begun old middle new text (Ok s) a k = tt
whole_is_begun old middle new text (Err e) a k = part-whole old new text (Appends-kept old middle new text a k)

-- ---- what keeps a task from being done is what keeps its text from being written

-- this holds for the statements that the words choose
pub by_choice : (scope : Scope) (statements : Option (String Global)) (choice : Chosen) (P : Chosen → Type 0) → choice_for scope (option_map string_bytes statements) ≡ Ok choice → P choice
    → ByChoice scope statements P
by_choice scope statements choice P is h = subst (λ (r : Result Chosen (List ℕ)). IsOkAnd r P) (sym is) h

-- what was printed is there
prints_some : (text old new : Option (List ℕ)) → Prints text old new → IsSome text
prints_some None old new h = absurd h
prints_some (Some t) old new h = refl

-- so the list that was printed is that of the statements that the words choose
pub listed_passed : (scope : Scope) (statements : Option (String Global)) (choice : Chosen) (word old new : Option (List ℕ)) (status : Result ℕ Obstacle)
    → choice_for scope (option_map string_bytes statements) ≡ Ok choice → OnOk status (Prints (listed_for choice.has word) old new)
    → OnOk status (ByChoice scope statements (λ c. IsSome (listed_for c.has word)))
listed_passed scope statements choice word old new (Ok s) is h = by_choice scope statements choice (λ c. IsSome (listed_for c.has word)) is (prints_some (listed_for choice.has word) old new h)
listed_passed scope statements choice word old new (Err e) is h = tt

pub listed_reported : (scope : Scope) (statements : Option (String Global)) (choice : Chosen) (word old new : Option (List ℕ)) (status : Result ℕ Obstacle)
    → choice_for scope (option_map string_bytes statements) ≡ Ok choice → OnOk status (Prints (listed_for choice.has word) old new)
    → OnOk status (ByChoice scope statements (λ c. Prints (listed_for c.has word) old new))
listed_reported scope statements choice word old new (Ok s) is h = by_choice scope statements choice (λ c. Prints (listed_for c.has word) old new) is h
listed_reported scope statements choice word old new (Err e) is h = tt

-- what keeps the list for one end from being written, where a word names it
pub end_stops : (chosen : Rule → Bool) (word : List ℕ) (role : Role) (old new : Option (List ℕ)) (status : Result ℕ Obstacle) → Some role ≡ role_named word
    → IfErr status (StopsText (Some (statement_lines chosen (Some role))) (no_role_line word) old new) → IfErr status (StopsText (listed_for chosen (Some word)) (no_role_line word) old new)
end_stops chosen word role old new status named stops =
    subst (λ (r : Option Role). IfErr status (StopsText (option_map (λ x. statement_lines chosen (Some x)) r) (no_role_line word) old new)) named stops

-- and where there is no word
pub all_stop : (chosen : Rule → Bool) (role : Option (String Global)) (old new : Option (List ℕ)) (status : Result ℕ Obstacle) → role ≡ None
    → IfErr status (StopsText (Some (statement_lines chosen None)) (no_role_line []) old new)
    → IfErr status (StopsText (listed_for chosen (option_map string_bytes role)) (no_role_line (unwrap_or (option_map string_bytes role) [])) old new)
all_stop chosen role old new status none stops =
    subst (λ (r : Option (String Global)). IfErr status (StopsText (listed_for chosen (option_map string_bytes r)) (no_role_line (unwrap_or (option_map string_bytes r) [])) old new)) (sym none) stops

-- and where there is one, which may name no end
pub word_stops : (chosen : Rule → Bool) (role : Option (String Global)) (word : String Global) (text : List ℕ) (old new : Option (List ℕ)) (status : Result ℕ Obstacle) → role ≡ Some word
    → text ≡ string_bytes word → IfErr status (StopsText (listed_for chosen (Some text)) (no_role_line text) old new)
    → IfErr status (StopsText (listed_for chosen (option_map string_bytes role)) (no_role_line (unwrap_or (option_map string_bytes role) [])) old new)
word_stops chosen role word text old new status some same stops =
    subst (λ (r : Option (String Global)). IfErr status (StopsText (listed_for chosen (option_map string_bytes r)) (no_role_line (unwrap_or (option_map string_bytes r) [])) old new)) (sym some)
    (subst (λ (t : List ℕ). IfErr status (StopsText (listed_for chosen (Some t)) (no_role_line t) old new)) same stops)

pub rules_stop : (role : Option (String Global)) (scope : Scope) (statements : Option (String Global)) (choice : Chosen) (input left old new : Option (List ℕ)) (status : Result ℕ Obstacle)
    → choice_for scope (option_map string_bytes statements) ≡ Ok choice
    → IfErr status (StopsText (listed_for choice.has (option_map string_bytes role)) (no_role_line (unwrap_or (option_map string_bytes role) [])) old new)
    → IfErr status (StopsAttempt (Rules role scope statements) input left old new)
rules_stop role scope statements choice input left old new (Ok s) is h = tt
rules_stop role scope statements choice input left old new (Err (obstacles.Failed failure)) is h =
    subst (λ (r : Result Chosen (List ℕ)). MatchResult r (λ c. StopsPrinting failure (listed_for c.has (option_map string_bytes role)) old new) (λ line. LacksMessage failure old new)) (sym is) h
rules_stop role scope statements choice input left old new (Err (obstacles.Misused misuse)) is h = (
  subst (λ (r : Result Chosen (List ℕ)). MatchResult r (λ c. (listed_for c.has (option_map string_bytes role) ≡ None) × (misuse_line misuse ≡ no_role_line (unwrap_or (option_map string_bytes role) [])))
      (λ why. misuse_line misuse ≡ why)) (sym is) (h.0, h.1),
  h.2,
)

-- the words choose none
pub rules_misused : (role : Option (String Global)) (scope : Scope) (statements : Option (String Global)) (misuse : Misuse) (input left old : Option (List ℕ))
    → choice_for scope (option_map string_bytes statements) ≡ Err (misuse_line misuse) → StopsAttempt (Rules role scope statements) input left old old (obstacles.Misused misuse)
rules_misused role scope statements misuse input left old is = (
  subst (λ (r : Result Chosen (List ℕ)). MatchResult r (λ c. (listed_for c.has (option_map string_bytes role) ≡ None) × (misuse_line misuse ≡ no_role_line (unwrap_or (option_map string_bytes role) [])))
      (λ why. misuse_line misuse ≡ why)) (sym is) refl,
  Keeps-refl old,
)

pub check_misused : (file : Option (String Global)) (form : AskedForm) (coverage : Bool) (scope : Scope) (statements : Option (String Global)) (misuse : Misuse) (input left old : Option (List ℕ))
    → choice_for scope (option_map string_bytes statements) ≡ Err (misuse_line misuse) → StopsAttempt (Check file form coverage scope statements) input left old old (obstacles.Misused misuse)
check_misused file form coverage scope statements misuse input left old is = (
  subst (λ (r : Result Chosen (List ℕ)). MatchResult r (λ c. ⊥) (λ why. misuse_line misuse ≡ why)) (sym is) refl,
  Keeps-refl old,
)

pub check_fails : (file : Option (String Global)) (form : AskedForm) (coverage : Bool) (scope : Scope) (statements : Option (String Global)) (choice : Chosen) (failure : Failure) (input left old new : Option (List ℕ))
    → choice_for scope (option_map string_bytes statements) ≡ Ok choice → IfSome input (λ log. StopsCheck choice (form_of form) coverage failure log left old new)
    → StopsAttempt (Check file form coverage scope statements) input left old new (obstacles.Failed failure)
check_fails file form coverage scope statements choice failure input left old new is h =
    subst (λ (r : Result Chosen (List ℕ)). MatchResult r (λ c. IfSome input (λ log. StopsCheck c (form_of form) coverage failure log left old new)) (λ line. LacksMessage failure old new)) (sym is) h

pub explanation_stops : (code : String Global) (input left old new : Option (List ℕ)) (status : Result ℕ Obstacle)
    → IfErr status (StopsText (explained_for (string_bytes code)) (no_statement_line (string_bytes code)) old new)
    → IfErr status (StopsAttempt (Explain code) input left old new)
explanation_stops code input left old new (Ok s) h = tt
explanation_stops code input left old new (Err (obstacles.Failed failure)) h = h
explanation_stops code input left old new (Err (obstacles.Misused misuse)) h = ((h.0, h.1), h.2)

-- ---- what is asked for in vain

-- memory may run out for it
no_memory : {A : Type 0} (r : Result A (List ℕ)) (P Q : A → Type 0) (line : List ℕ) (old new : Option (List ℕ)) → ((a : A) → P a → Q a) → Keeps old new
    → MatchResult r P (λ why. line ≡ why) → MatchResult r Q (λ why. LacksMessage failures.Memory old new)
no_memory (Ok a) P Q line old new f kept h = f a h
no_memory (Err why) P Q line old new f kept h = kept

memory_stops : (task : Task) (input left old new : Option (List ℕ)) (line : List ℕ) → IsMisnamed task input line → Keeps old new
    → StopsTask failures.Memory task input left old new
memory_stops (Check file form coverage scope statements) input left old new line misnamed kept =
    no_memory (choice_for scope (option_map string_bytes statements)) (λ c. ⊥) (λ c. IfSome input (λ log. StopsCheck c (form_of form) coverage failures.Memory log left old new)) line old new
    (λ c none. absurd none) kept misnamed
memory_stops (Show file long) input left old new line misnamed kept = absurd misnamed
memory_stops (Packet hex long) input left old new line misnamed kept = packet_lacks long (string_bytes hex) input old new kept
memory_stops (Rules role scope statements) input left old new line misnamed kept =
    no_memory (choice_for scope (option_map string_bytes statements)) (λ c. (listed_for c.has (option_map string_bytes role) ≡ None) × (line ≡ no_role_line (unwrap_or (option_map string_bytes role) [])))
    (λ c. StopsPrinting failures.Memory (listed_for c.has (option_map string_bytes role)) old new) line old new (λ c named. kept) kept misnamed
memory_stops (Explain code) input left old new line misnamed kept = kept

pub misuse_fails : (task : Task) (line : List ℕ) (input left old new : Option (List ℕ)) (error : Stream) → IsMisnamed task input line
    → Keeps old new → IsCutOff error line ⊎ IsTold error (failure_line failures.Memory)
    → (StopsTask failures.Memory task input left old new × IsTold error (failure_line failures.Memory)) ⊎ FailsMisnamed task input old new error
misuse_fails task line input left old new error misnamed kept (inl cut) = inr (record { line = line; misnamed = misnamed; unwritten = kept; printed = cut })
misuse_fails task line input left old new error misnamed kept (inr told) = inl (memory_stops task input left old new line misnamed kept, told)

-- ---- refusals

-- a refusal that lies in the log isn't that reading failed
pub next_refused : (taken later : List ℕ) (left : Option (List ℕ)) (refusal : Refusal) → IsOfLog refusal
    → IsRefusedNext default_limit taken later refusal ⊎ IsUnread taken later left refusal → IsRefusedNext default_limit taken later refusal
next_refused taken later left refusal own (inl why) = why
next_refused taken later left refusal own (inr unread) = absurd (subst IsOfLog unread.0 own)

abbrev pub own_refusal : (log : List ℕ) (left : Option (List ℕ)) (refusal : Refusal) → IsOfLog refusal → IsRefusedAt default_limit log left refusal
    → IsRefusedBy log refusal
own_refusal log left refusal own stops = record {
  own = own;
  taken = stops.taken;
  later = stops.later;
  is = stops.is;
  unrefused = stops.unrefused;
  why = next_refused stops.taken stops.later left refusal own stops.why;
}

-- a refusal that lies in the log and wasn't flushed is a failed write
own_fails : (refusal : Refusal) → IsOfLog refusal → failures.Write ≡ failure_of refusal
own_fails (refusals.Read at) own = absurd own
own_fails (refusals.Memory at) own = absurd own
own_fails r own = refl

pub unflushed_refusal : (X : Failure → Type 0) (refusal : Refusal) (status : Result ℕ Failure) → IsOfLog refusal
    → IfErr status (λ failure. failure ≡ failures.Write) → IfErr status (λ failure. (failure ≡ failure_of refusal) ⊎ X failure)
unflushed_refusal X refusal (Ok s) own failed = tt
unflushed_refusal X refusal (Err failure) own failed = inl (failed ∙ own_fails refusal own)

-- nor is it more than begun
pub unflushed_begun : (form : Form) (refusal : Refusal) (old middle new : Option (List ℕ)) (status : Result ℕ Failure) → IsOfLog refusal
    → Appends old middle (refused_report form refusal) → Keeps middle new → IfErr status (λ _. BeginsRefusal form refusal old new)
unflushed_begun form refusal old middle new (Ok s) own a k = tt
unflushed_begun form refusal old middle new (Err failure) own a k =
    inr (own, part-whole old new (refused_report form refusal) (Appends-kept old middle new (refused_report form refusal) a k))

-- ---- a check

-- a run without coverage, and one with it
over_is_for : (choice : Choice) (form : Form) (log : List ℕ) (left old new : Option (List ℕ)) (result : Result Outcome RunFault) → RunsOver choice form log left result old new
    → RunsFor (chosen_as choice) form false log left result old new
over_is_for choice form log left old new (Ok outcome) h = h
over_is_for choice form log left old new (Err (run_faults.Refused refusal)) h = h
over_is_for choice form log left old new (Err run_faults.Write) h = h
over_is_for choice form log left old new (Err run_faults.Memory) h = (
  h.0,
  elim h.1 [
    | inl json ↦ inl json
    | inr listed ↦ inr (inr listed)
  ],
  h.2,
)

covered_is_for : (choice : Choice) (form : Form) (log : List ℕ) (left old new : Option (List ℕ)) (result : Result Outcome RunFault) → RunsCoveredOver (in_choice choice) form log left result old new
    → RunsFor (chosen_as choice) form true log left result old new
covered_is_for choice form log left old new (Ok outcome) h = h
covered_is_for choice form log left old new (Err (run_faults.Refused refusal)) h = h
covered_is_for choice form log left old new (Err run_faults.Write) h = h
covered_is_for choice form log left old new (Err run_faults.Memory) h = (h.0, inr (inl refl), h.1)

pub ran_without : (choice : Choice) (form : Form) (coverage : Bool) (remaining left old new : Option (List ℕ)) (result : Result Outcome RunFault) → coverage ≡ false
    → IfSome remaining (λ log. RunsOver choice form log left result old new) → IfSome remaining (λ log. RunsFor (chosen_as choice) form coverage log left result old new)
ran_without choice form coverage remaining left old new result not_asked ran =
    rw not_asked (for_log remaining (λ log. RunsOver choice form log left result old new) (λ log. RunsFor (chosen_as choice) form false log left result old new)
    (λ log h. over_is_for choice form log left old new result h) ran)

pub ran_with : (choice : Choice) (form : Form) (coverage : Bool) (remaining left old new : Option (List ℕ)) (result : Result Outcome RunFault) → coverage ≡ true
    → IfSome remaining (λ log. RunsCoveredOver (in_choice choice) form log left result old new) → IfSome remaining (λ log. RunsFor (chosen_as choice) form coverage log left result old new)
ran_with choice form coverage remaining left old new result asked ran =
    rw asked (for_log remaining (λ log. RunsCoveredOver (in_choice choice) form log left result old new) (λ log. RunsFor (chosen_as choice) form true log left result old new)
    (λ log h. covered_is_for choice form log left old new result h) ran)

-- a log passes if it has no faults
pass_isnt_fail : Pass ≡ Fail → ⊥
pass_isnt_fail e = cc

none_if_passed : (faults : List (FaultKey × Fault)) → Pass ≡ (if length faults == 0 then Pass else Fail) → faults ≡ []
none_if_passed faults is = go (length faults == 0) refl is
  where
    go : (b : Bool) → (length faults == 0) ≡ b → Pass ≡ (if b then Pass else Fail) → faults ≡ []
    go true none e = nil_from_length faults (eqb-true (length faults) 0 none)
    go false some e = absurd (pass_isnt_fail e)

pub passed_for : (choice : Chosen) (form : Form) (coverage : Bool) (remaining left old new : Option (List ℕ)) (status : Result ℕ Failure)
    → IfSome remaining (λ log. RunsFor choice form coverage log left (Ok Pass) old new) → IfOk status (λ s. s ≡ 0 → IfSome remaining (λ log. IsJudged log × IsFaultless choice.has log))
passed_for choice form coverage remaining left old new (Ok s) ran = λ is.
    for_log remaining (λ log. RunsFor choice form coverage log left (Ok Pass) old new) (λ log. IsJudged log × IsFaultless choice.has log)
    (λ log h. (h.0, none_if_passed (chosen_in choice.has log) h.1)) ran
passed_for choice form coverage remaining left old new (Err e) ran = tt

-- a status for a refusal says which one it is, and that it was written and nothing else
pub refusal_is_printed : {E : Type 0} (choice : Chosen) (form : Form) (coverage : Bool) (remaining left old middle new : Option (List ℕ)) (refusal : Refusal) (status : Result ℕ E)
    → IfSome remaining (λ log. RunsFor choice form coverage log left (Err (run_faults.Refused refusal)) old middle) → middle ≡ old
    → OnOk status (IsOfLog refusal) → OnOk status (Appends middle new (refused_report form refusal))
    → IfOk status (λ s. s ≡ 2 → IfSome remaining (λ log. RefusesCheck form log old new))
refusal_is_printed choice form coverage remaining left old middle new refusal (Ok s) ran unwritten own written = λ is.
    for_log remaining (λ log. RunsFor choice form coverage log left (Err (run_faults.Refused refusal)) old middle) (λ log. RefusesCheck form log old new)
    (λ log h. (refusal, own_refusal log left refusal own h, subst (λ v. Appends v new (refused_report form refusal)) unwritten written)) ran
refusal_is_printed choice form coverage remaining left old middle new refusal (Err e) ran unwritten own written = tt

-- where it can't be told, that is why
pub refusal_stops : (choice : Chosen) (form : Form) (coverage : Bool) (remaining left old middle new : Option (List ℕ)) (refusal : Refusal) (status : Result ℕ Failure)
    → IfSome remaining (λ log. RunsFor choice form coverage log left (Err (run_faults.Refused refusal)) old middle) → middle ≡ old
    → IfErr status (λ failure. (failure ≡ failure_of refusal) ⊎ ((failure ≡ failures.Memory) × LacksJsonMemory form refusal middle new))
    → IfErr status (λ _. BeginsRefusal form refusal middle new)
    → IfErr status (λ failure. IfSome remaining (λ log. StopsCheck choice form coverage failure log left old new))
refusal_stops choice form coverage remaining left old middle new refusal (Ok s) ran unwritten failed begun = tt
refusal_stops choice form coverage remaining left old middle new refusal (Err failure) ran unwritten failed begun =
    for_log remaining (λ log. RunsFor choice form coverage log left (Err (run_faults.Refused refusal)) old middle) (λ log. StopsCheck choice form coverage failure log left old new)
    (λ log h. by_why log h failed) ran
  where
    on_log : (r : Refusal) (log : List ℕ) → IsRefusedAt default_limit log left r → BeginsRefusal form r old new → StopsCheck choice form coverage (failure_of r) log left old new
    on_log (refusals.Read at) log h (inl kept) = (at, h, kept)
    on_log (refusals.Read at) log h (inr (own, part)) = absurd own
    on_log (refusals.Memory at) log h (inl kept) = inl (at, h, kept)
    on_log (refusals.Memory at) log h (inr (own, part)) = absurd own
    on_log r log h (inl kept) = inr (r, own_refusal log left r tt h, part-kept old new (refused_report form r) kept)
    on_log r log h (inr (own, part)) = inr (r, own_refusal log left r own h, part)

    by_why : (log : List ℕ) → IsRefusedAt default_limit log left refusal
        → (failure ≡ failure_of refusal) ⊎ ((failure ≡ failures.Memory) × LacksJsonMemory form refusal middle new) → StopsCheck choice form coverage failure log left old new
    by_why log h (inl why) = subst (λ f. StopsCheck choice form coverage f log left old new) (sym why)
        (on_log refusal log h (subst (λ v. BeginsRefusal form refusal v new) unwritten begun))
    by_why log h (inr (is, lacks)) = subst (λ f. StopsCheck choice form coverage f log left old new) (sym is)
        (inr (inl lacks.0, inr (refusal, own_refusal log left refusal lacks.1 h), subst (λ v. Keeps v new) unwritten lacks.2))

-- the report was written, and then not flushed
pub report_stops : (choice : Chosen) (form : Form) (coverage : Bool) (remaining left old middle new : Option (List ℕ)) (outcome : Outcome) (status : Result ℕ Failure)
    → IfSome remaining (λ log. RunsFor choice form coverage log left (Ok outcome) old middle) → Keeps middle new → IfErr status (λ failure. failure ≡ failures.Write)
    → IfErr status (λ failure. IfSome remaining (λ log. StopsCheck choice form coverage failure log left old new))
report_stops choice form coverage remaining left old middle new outcome (Ok s) ran kept failed = tt
report_stops choice form coverage remaining left old middle new outcome (Err failure) ran kept failed =
    for_log remaining (λ log. RunsFor choice form coverage log left (Ok outcome) old middle) (λ log. StopsCheck choice form coverage failure log left old new)
    (λ log h. subst (λ f. StopsCheck choice form coverage f log left old new) (sym failed)
    (inl (h.0, part-whole old new (report_for choice form coverage log) (Appends-kept old middle new (report_for choice form coverage log) h.2 kept)))) ran

-- a beginning of the report was written
pub run_stops : (choice : Chosen) (form : Form) (coverage : Bool) (remaining left old new : Option (List ℕ)) → IfSome remaining (λ log. RunsFor choice form coverage log left (Err run_faults.Write) old new)
    → IfSome remaining (λ log. StopsCheck choice form coverage failures.Write log left old new)
run_stops choice form coverage remaining left old new ran =
    for_log remaining (λ log. RunsFor choice form coverage log left (Err run_faults.Write) old new) (λ log. StopsCheck choice form coverage failures.Write log left old new)
    (λ log h. inl (h.0, part-begun old new (report_for choice form coverage log) h.1)) ran

-- memory ran out for the report
pub run_lacks : (choice : Chosen) (form : Form) (coverage : Bool) (remaining left old new : Option (List ℕ)) → IfSome remaining (λ log. RunsFor choice form coverage log left (Err run_faults.Memory) old new)
    → IfSome remaining (λ log. StopsCheck choice form coverage failures.Memory log left old new)
run_lacks choice form coverage remaining left old new ran =
    for_log remaining (λ log. RunsFor choice form coverage log left (Err run_faults.Memory) old new) (λ log. StopsCheck choice form coverage failures.Memory log left old new)
    (λ log h. inr (h.1, inl h.0, subst (λ v. Keeps old v) (sym h.2) (Keeps-refl old))) ran

-- ---- a log that is shown

-- a status for a refusal says which one it is, and that its line was written after those of the events before, and nothing else
pub shown_refusal_is_printed : {E : Type 0} (text_of : List ℕ → List Placed → List ℕ) (remaining left old middle new : Option (List ℕ)) (refusal : Refusal) (status : Result ℕ E)
    → IfSome remaining (λ log. Shows (text_of log) log left (Err (run_faults.Refused refusal)) old middle)
    → OnOk status (IsOfLog refusal) → OnOk status (Appends middle new (refused_line refusal))
    → IfOk status (λ s. s ≡ 2 → IfSome remaining (λ log. RefusesShow (text_of log) log old new))
shown_refusal_is_printed text_of remaining left old middle new refusal (Ok s) shown own written = λ is.
    for_log remaining (λ log. Shows (text_of log) log left (Err (run_faults.Refused refusal)) old middle) (λ log. RefusesShow (text_of log) log old new)
    (λ log h. (refusal, own_refusal log left refusal own h.0, appends-then old middle new (text_of log (events h.0.taken)) (refused_line refusal) h.1 written)) shown
shown_refusal_is_printed text_of remaining left old middle new refusal (Err e) shown own written = tt

-- where it can't be told, that is why
pub shown_refusal_stops : (text_of : List ℕ → List Placed → List ℕ) (remaining left old middle new : Option (List ℕ)) (refusal : Refusal) (status : Result ℕ Failure)
    → IfSome remaining (λ log. Shows (text_of log) log left (Err (run_faults.Refused refusal)) old middle)
    → IfErr status (λ failure. (failure ≡ failure_of refusal) ⊎ ((failure ≡ failures.Memory) × LacksJsonMemory Text refusal middle new))
    → IfErr status (λ _. BeginsRefusal Text refusal middle new)
    → IfErr status (λ failure. IfSome remaining (λ log. StopsShow (text_of log) failure log left old new))
shown_refusal_stops text_of remaining left old middle new refusal (Ok s) shown failed begun = tt
shown_refusal_stops text_of remaining left old middle new refusal (Err failure) shown (inr (is, lacks)) begun = absurd (text_is_text lacks.0)
  where
    text_is_text : Text ≡ Json → ⊥
    text_is_text e = cc
shown_refusal_stops text_of remaining left old middle new refusal (Err failure) shown (inl failed) begun =
    for_log remaining (λ log. Shows (text_of log) log left (Err (run_faults.Refused refusal)) old middle) (λ log. StopsShow (text_of log) failure log left old new)
    (λ log h. subst (λ f. StopsShow (text_of log) f log left old new) (sym failed) (on_log refusal log h.0 h.1 begun)) shown
  where
    on_log : (r : Refusal) (log : List ℕ) (stops : IsRefusedAt default_limit log left r) → Appends old middle (text_of log (events stops.taken))
        → BeginsRefusal Text r middle new → StopsShow (text_of log) (failure_of r) log left old new
    on_log (refusals.Read at) log stops lines (inl kept) = (at, stops, Appends-kept old middle new (text_of log (events stops.taken)) lines kept)
    on_log (refusals.Read at) log stops lines (inr (own, part)) = absurd own
    on_log (refusals.Memory at) log stops lines (inl kept) = (at, stops, Appends-kept old middle new (text_of log (events stops.taken)) lines kept)
    on_log (refusals.Memory at) log stops lines (inr (own, part)) = absurd own
    on_log r log stops lines (inl kept) =
        inr (inr (r, own_refusal log left r tt stops, part-after old middle new (text_of log (events stops.taken)) (refused_line r) lines (part-kept middle new (refused_line r) kept)))
    on_log r log stops lines (inr (own, part)) =
        inr (inr (r, own_refusal log left r own stops, part-after old middle new (text_of log (events stops.taken)) (refused_line r) lines part))

-- all lines were written, and then not flushed
pub lines_stop : (text_of : List ℕ → List Placed → List ℕ) (remaining left old middle new : Option (List ℕ)) (status : Result ℕ Failure)
    → IfSome remaining (λ log. Shows (text_of log) log left (Ok tt) old middle) → Keeps middle new → IfErr status (λ failure. failure ≡ failures.Write)
    → IfErr status (λ failure. IfSome remaining (λ log. StopsShow (text_of log) failure log left old new))
lines_stop text_of remaining left old middle new (Ok s) shown kept failed = tt
lines_stop text_of remaining left old middle new (Err failure) shown kept failed =
    for_log remaining (λ log. Shows (text_of log) log left (Ok tt) old middle) (λ log. StopsShow (text_of log) failure log left old new)
    (λ log h. subst (λ f. StopsShow (text_of log) f log left old new) (sym failed)
    (inr (inl (h.0, Appends-kept old middle new (text_of log (events log)) h.1 kept)))) shown
