-- What holds of the words that a host gave, and of the log of a task.
use Rattle.std.proofs.Common.{◌≡◌, ◌∙◌, ◌⊎◌, inl, inr, Bool, true, ℕ, List, [], map, Option, Some, None, Result, Ok, Err, IfSome, IsOkAnd, MatchResult, ap, codes, option_map, refl, subst, sym}
use Rattle.std.specs.Prelude.{String, string_bytes}
use Rattle.std.specs.declared.alloc.Global.{Global}
use Rattle.std.specs.Io.KnownBytes.{Appends, Keeps, prepend_known}
use Rattle.clap.specs.Words.{Text}
use Rattle.mq_command.specs.declared.command_line.Task.{Task}
use Rattle.mq_command.specs.declared.command_line.Task.TheVariants.{Check, Show, Packet, Rules, Explain}
use Rattle.mq_command.specs.declared.command_line.Work.{Work}
use Rattle.mq_command.specs.declared.command_line.Work.TheVariants.{Once, Again, Why, Convert}
use Rattle.mq_host.specs.declared.failure.Failure.{Failure}
use Rattle.mq_host.specs.declared.failure.Failure.TheVariants as failures
use Rattle.mq_host.specs.declared.failure.Obstacle.TheVariants as obstacles
use Rattle.mq_host.specs.declared.trouble.Trouble.TheVariants as troubles
use Rattle.mq_judge.specs.declared.Form.{Form}
use Rattle.mq_display.specs.Display.{is_timed}
use Rattle.mq_command.specs.CommandLine.{path_of, reads_input}
use Rattle.mq_tasks.specs.Converting.{Files, files_of}
use Rattle.mq_judge.specs.Runner.{IsFaultless}
use Rattle.mq_report.specs.Stopping.{IsJudged}
use Rattle.mq_tasks.specs.Choosing.{choice_for}
use Rattle.mq_tasks.specs.Inquiring.{Asked, asked_of}
use Rattle.mq_host.specs.Given.{Given, bytes_at}
use Rattle.mq_tasks.specs.Messages.{LacksMessage, report_for, AppendsReportOf, AppendsReportPart, FailsMisnamed, HasFailed, HasPassed, IsMisnamed, IsMisread, IsMisspelled, IsRefusedOn, IsReportedOn, RefusesCheck, SpellsNoPacket, SpellsPacket, StopsGiven, StopsCheck, StopsShow, StopsTask, form_of, text_for}
use Rattle.mq_command.specs.Digits.{OfDigits}
use Rattle.mq_tasks.specs.Program.{FailsLog, FailsRead, FailsTaskOn, IsHinted, MisusesTask, Refuses, RefusesSource, RefusesWork, input_of}
use Rattle.mq_tasks.specs.Reviewing.{Plan, RefusesPlan, plan_of}
use Rattle.mq_host.specs.Streams.{IsTold, Stream, failure_line}
use Rattle.mq_host.specs.Troubles.{failure_in, place_of}
use Rattle.mq_tasks.proofs.BeginningLaws.{hinted_of_kept}
use Rattle.mq_tasks.proofs.PacketLaws.{of_read}

-- what holds of the words that were read holds of those that are known
pub known_words : {A : Type 0} (text : A → Text) (known : Option (List Text)) (read slice : List A) (P : List Text → Type 0)
    → IfSome known (λ words. map text read ≡ words) → slice ≡ read → P (map text slice) → IfSome known P
known_words text None read slice P given same h = tt
known_words text (Some words) read slice P given same h = subst P (ap (map text) same ∙ given) h

-- ---- the log of a task

-- a task that names a path reads the log there
pub path_reads : (task : Task) (path : Text) → path_of task ≡ Some path → reads_input task ≡ true
path_reads (Check file form coverage scope statements) path named = refl
path_reads (Show file long) path named = refl
path_reads (Packet hex long) path named = cc
path_reads (Rules role scope statements) path named = cc
path_reads (Explain code) path named = cc

-- ---- what a reader gives of a log is the log

pub known_kept : (log read : Option (List ℕ)) (P : List ℕ → Type 0) → Keeps log read → IfSome read P → IfSome log P
known_kept None read P k h = tt
known_kept (Some bytes) None P k h = absurd k
known_kept (Some bytes) (Some same) P k h = subst P k h

-- what holds for the chosen statements holds so for the log
choice_kept : {A : Type 0} (r : Result A Text) (P Q : A → Type 0) → ((a : A) → P a → Q a) → IsOkAnd r P → IsOkAnd r Q
choice_kept (Ok a) P Q f h = f a h
choice_kept (Err line) P Q f h = absurd h

match_kept : {A : Type 0} (r : Result A Text) (P Q : A → Type 0) (R : Text → Type 0) → ((a : A) → P a → Q a) → MatchResult r P R → MatchResult r Q R
match_kept (Ok a) P Q R f h = f a h
match_kept (Err line) P Q R f h = h

-- what holds of the digits that were read holds of those that were given
digits_kept : (operand : List ℕ) (log read : Option (List ℕ)) (P : List ℕ → Type 0) → Keeps log read → OfDigits operand read P → OfDigits operand log P
digits_kept operand log read P k h = of_read operand (IfSome read P) (IfSome log P) (P operand) (known_kept log read P k) h

packet_stops_kept : (failure : Failure) (hex : String Global) (long : Bool) (log read old new : Option (List ℕ)) → Keeps log read
    → StopsGiven long (string_bytes hex) read old new (obstacles.Failed failure) → StopsGiven long (string_bytes hex) log old new (obstacles.Failed failure)
packet_stops_kept failures.Read hex long log read old new k h = h
packet_stops_kept failures.Write hex long log read old new k h = digits_kept (string_bytes hex) log read (λ text. AppendsReportPart long text old new) k h
packet_stops_kept failures.Memory hex long log read old new k h = h

-- the line on what is asked for in vain
misnamed_kept : (task : Task) (log read : Option (List ℕ)) (line : List ℕ) → Keeps log read → IsMisnamed task read line → IsMisnamed task log line
misnamed_kept (Check file form coverage scope statements) log read line k h = h
misnamed_kept (Show file long) log read line k h = h
misnamed_kept (Packet hex long) log read line k h =
    of_read (string_bytes hex) (IfSome read (λ text. IsMisread text line)) (IfSome log (λ text. IsMisread text line)) (IsMisspelled (string_bytes hex) line)
    (known_kept log read (λ text. IsMisread text line) k) h
misnamed_kept (Rules role scope statements) log read line k h = h
misnamed_kept (Explain code) log read line k h = h

-- whatever reader gives that input
pub misnamed_in : (task : Task) (known input : Option (List ℕ)) (line : List ℕ) → IsMisnamed task known line → known ≡ input → IsMisnamed task input line
misnamed_in task known input line h same = subst (λ (i : Option (List ℕ)). IsMisnamed task i line) same h

misnamed_fails_kept : (task : Task) (log read old new : Option (List ℕ)) (error : Stream) → Keeps log read → FailsMisnamed task read old new error
    → FailsMisnamed task log old new error
misnamed_fails_kept task log read old new error k h = record {
  line = h.line;
  misnamed = misnamed_kept task log read h.line k h.misnamed;
  unwritten = h.unwritten;
  printed = h.printed;
}

stops_kept : (failure : Failure) (task : Task) (log read left old new : Option (List ℕ)) → Keeps log read → StopsTask failure task read left old new
    → StopsTask failure task log left old new
stops_kept failure (Check file form coverage scope statements) log read left old new k h =
    match_kept (choice_for scope (option_map string_bytes statements)) (λ c. IfSome read (λ bytes. StopsCheck c (form_of form) coverage failure bytes left old new))
    (λ c. IfSome log (λ bytes. StopsCheck c (form_of form) coverage failure bytes left old new)) (λ line. LacksMessage failure old new)
    (λ c. known_kept log read (λ bytes. StopsCheck c (form_of form) coverage failure bytes left old new) k) h
stops_kept failure (Show file long) log read left old new k h = known_kept log read (λ bytes. StopsShow (text_for (is_timed bytes) long) failure bytes left old new) k h
stops_kept failure (Packet hex long) log read left old new k h = packet_stops_kept failure hex long log read old new k h
stops_kept failure (Rules role scope statements) log read left old new k h = h
stops_kept failure (Explain code) log read left old new k h = h

pub fails_kept : (task : Task) (place : Text) (log read old new : Option (List ℕ)) (is_closed : Bool) (error : Stream) → Keeps log read
    → FailsTaskOn task place read is_closed old new error → FailsTaskOn task place log is_closed old new error
fails_kept task place log read old new is_closed error k (inl fails) = inl (record {
  left = fails.left;
  trouble = fails.trouble;
  stops = stops_kept (failure_in fails.trouble) task log read fails.left old new k fails.stops;
  told = fails.told;
})
fails_kept task place log read old new is_closed error k (inr misnamed) = inr (misnamed_fails_kept task log read old new error k misnamed)

log_fails_kept : (task : Task) (place : Text) (log read old new : Option (List ℕ)) (is_closed : Bool) (error : Stream) → Keeps log read
    → FailsLog task place read is_closed old new error → FailsLog task place log is_closed old new error
log_fails_kept task place log read old new is_closed error k (inl unbegun) = inl unbegun
log_fails_kept task place log read old new is_closed error k (inr fails) = inr (fails_kept task place log read old new is_closed error k fails)

-- what holds of what was read of a log holds of the log
abbrev pub IsKept : (Option (List ℕ) → Type 0) → Type 0
IsKept P = (log read : Option (List ℕ)) → Keeps log read → P read → P log

pub passed_kept : (task : Task) → IsKept (HasPassed task)
passed_kept (Check file form coverage scope statements) log read k h =
    choice_kept (choice_for scope (option_map string_bytes statements)) (λ c. IfSome read (λ bytes. IsJudged bytes × IsFaultless c.has bytes)) (λ c. IfSome log (λ bytes. IsJudged bytes × IsFaultless c.has bytes))
    (λ c. known_kept log read (λ bytes. IsJudged bytes × IsFaultless c.has bytes) k) h
passed_kept (Show file long) log read k h = known_kept log read _ k h
passed_kept (Packet hex long) log read k h = digits_kept (string_bytes hex) log read SpellsPacket k h
passed_kept (Rules role scope statements) log read k h = h
passed_kept (Explain code) log read k h = h

pub failed_kept : (task : Task) → IsKept (HasFailed task)
failed_kept (Check file form coverage scope statements) log read k h =
    choice_kept (choice_for scope (option_map string_bytes statements)) (λ c. IfSome read (λ bytes. IsJudged bytes × (¬ IsFaultless c.has bytes))) (λ c. IfSome log (λ bytes. IsJudged bytes × (¬ IsFaultless c.has bytes)))
    (λ c. known_kept log read (λ bytes. IsJudged bytes × (¬ IsFaultless c.has bytes)) k) h
failed_kept (Show file long) log read k h = h
failed_kept (Packet hex long) log read k h = digits_kept (string_bytes hex) log read SpellsNoPacket k h
failed_kept (Rules role scope statements) log read k h = h
failed_kept (Explain code) log read k h = h

pub reported_kept : (task : Task) (old new : Option (List ℕ)) → IsKept (λ log. IsReportedOn task log old new)
reported_kept (Check file form coverage scope statements) old new log read k h =
    choice_kept (choice_for scope (option_map string_bytes statements)) (λ c. IfSome read (λ bytes. Appends old new (report_for c (form_of form) coverage bytes))) (λ c. IfSome log (λ bytes. Appends old new (report_for c (form_of form) coverage bytes)))
    (λ c. known_kept log read (λ bytes. Appends old new (report_for c (form_of form) coverage bytes)) k) h
reported_kept (Show file long) old new log read k h = known_kept log read _ k h
reported_kept (Packet hex long) old new log read k h = digits_kept (string_bytes hex) log read (λ text. AppendsReportOf long text old new) k h
reported_kept (Rules role scope statements) old new log read k h = h
reported_kept (Explain code) old new log read k h = h

pub refused_kept : (task : Task) (old new : Option (List ℕ)) → IsKept (λ log. IsRefusedOn task log old new)
refused_kept (Check file form coverage scope statements) old new log read k h = known_kept log read _ k h
refused_kept (Show file long) old new log read k h = known_kept log read _ k h
refused_kept (Packet hex long) old new log read k h = h
refused_kept (Rules role scope statements) old new log read k h = h
refused_kept (Explain code) old new log read k h = h

pub misused_kept : (task : Task) (error_old error_new : Option (List ℕ)) → IsKept (λ log. MisusesTask task log error_old error_new)
misused_kept task error_old error_new log read k h = record { line = h.line; misnamed = misnamed_kept task log read h.line k h.misnamed; told = h.told }

-- what is read after no bytes is what there is
pub unread : (known : Option (List ℕ)) → prepend_known [] known ≡ known
unread None = refl
unread (Some bytes) = refl

-- ---- the log that a task names

-- what holds of what was read of a file holds of the log that the task names
pub file_keeps : (P : Option (List ℕ) → Type 0) → IsKept P → (given : Given) (task : Task) (path : Text) (read : Option (List ℕ)) → Some path ≡ path_of task
    → Keeps (given.file path) read → P read → P (input_of given task)
file_keeps P kept given task path read named k h = subst (λ (p : Option Text). P (bytes_at given p)) named (kept (given.file path) read k h)

-- and of standard input
pub input_keeps : (P : Option (List ℕ) → Type 0) → IsKept P → (given : Given) (task : Task) (read : Option (List ℕ)) → None ≡ path_of task
    → Keeps given.standard read → P read → P (input_of given task)
input_keeps P kept given task read named k h = subst (λ (p : Option Text). P (bytes_at given p)) named (kept given.standard read k h)

-- what was said of a file is said of what it names
pub file_hinted : (given : Given) (task : Task) (path : Text) (read : Option (List ℕ)) (error : Stream) → Some path ≡ path_of task → Keeps (given.file path) read
    → IsHinted read error → IsHinted (input_of given task) error
file_hinted given task path read error named k h =
    hinted_of_kept (input_of given task) read error (subst (λ (p : Option Text). Keeps (bytes_at given p) read) named k) h

-- it failed on a file
pub file_fails : (given : Given) (task : Task) (path : Text) (read old new : Option (List ℕ)) (is_closed : Bool) (error : Stream) → Some path ≡ path_of task
    → Keeps (given.file path) read → FailsLog task path read is_closed old new error → FailsRead given task is_closed old new error
file_fails given task path read old new is_closed error named k fails =
    let kept : FailsLog task path (given.file path) is_closed old new error = log_fails_kept task path (given.file path) read old new is_closed error k fails in
    inr (inl (
      path_reads task path (sym named),
      subst (λ (p : Option Text). FailsLog task (place_of p) (bytes_at given p) is_closed old new error) named kept,
    ))

-- it failed on standard input
pub input_fails : (given : Given) (task : Task) (read old new : Option (List ℕ)) (is_closed : Bool) (error : Stream) → None ≡ path_of task → reads_input task ≡ true
    → Keeps given.standard read → FailsLog task (codes "standard input") read is_closed old new error → FailsRead given task is_closed old new error
input_fails given task read old new is_closed error named reads k fails =
    let place = codes "standard input" in
    let kept : FailsLog task place given.standard is_closed old new error = log_fails_kept task place given.standard read old new is_closed error k fails in
    inr (inl (reads, subst (λ (p : Option Text). FailsLog task (place_of p) (bytes_at given p) is_closed old new error) named kept))

-- it reads nothing, and failed
pub unread_fails : (given : Given) (task : Task) (read old new : Option (List ℕ)) (is_closed : Bool) (error : Stream) → None ≡ path_of task
    → Keeps given.standard read → FailsTaskOn task (codes "standard input") (prepend_known [] read) is_closed old new error → FailsRead given task is_closed old new error
unread_fails given task read old new is_closed error named k fails =
    let place = codes "standard input" in
    let of_read : FailsTaskOn task place read is_closed old new error = subst (λ (log : Option (List ℕ)). FailsTaskOn task place log is_closed old new error) (unread read) fails in
    let kept : FailsTaskOn task place given.standard is_closed old new error = fails_kept task place given.standard read old new is_closed error k of_read in
    inr (inr (subst (λ (p : Option Text). FailsTaskOn task (place_of p) (bytes_at given p) is_closed old new error) named kept))

-- ---- what failed

-- what a task asks for can't be done, and that can't be said
pub misuse_stops : (task : Task) (place : Text) (log left old new : Option (List ℕ)) (is_closed : Bool) (error : Stream)
    → (StopsTask failures.Memory task log left old new × IsTold error (failure_line failures.Memory)) ⊎ FailsMisnamed task log old new error
    → FailsTaskOn task place log is_closed old new error
misuse_stops task place log left old new is_closed error (inl (stops, told)) = inl (record { left = left; trouble = troubles.Memory; stops = stops; told = told })
misuse_stops task place log left old new is_closed error (inr misnamed) = inr misnamed

-- ---- a refused log

-- whatever the log is, no more is said than the line on its first bytes
planned_hint : (given : Given) (plan : Result Plan Text) (old new : Option (List ℕ)) (error : Stream)
    → IsOkAnd plan (λ p. IfSome (given.file p.path) (λ log. RefusesPlan p log log log old new) × IsHinted (given.file p.path) error) → IsHinted None error
planned_hint given (Ok plan) old new error h = record { start = h.1.start; shows = tt; told = h.1.told }
planned_hint given (Err line) old new error h = absurd h

converted_hint : (given : Given) (files : Result Files Text) (old new : Option (List ℕ)) (error : Stream)
    → IsOkAnd files (λ f. RefusesSource (bytes_at given f.log) old new error) → IsHinted None error
converted_hint given (Ok files) old new error h = record { start = h.1.start; shows = tt; told = h.1.told }
converted_hint given (Err line) old new error h = absurd h

judged_hint : (given : Given) (asked : Result Asked Text) (form : Form) (old new : Option (List ℕ)) (error : Stream)
    → IsOkAnd asked (λ a. IfSome (given.file a.path) (λ log. RefusesCheck form log old new) × IsHinted (given.file a.path) error) → IsHinted None error
judged_hint given (Ok a) form old new error h = record { start = h.1.start; shows = tt; told = h.1.told }
judged_hint given (Err line) form old new error h = absurd h

work_hint : (work : Work) (given : Given) (old new : Option (List ℕ)) (error : Stream) → RefusesWork given work old new error → IsHinted None error
work_hint (Once task) given old new error h = record { start = h.1.start; shows = tt; told = h.1.told }
work_hint (Again review) given old new error h = planned_hint given (plan_of review) old new error h
work_hint (Why inquiry) given old new error h = judged_hint given (asked_of inquiry) (form_of inquiry.form) old new error h
work_hint (Convert conversion) given old new error h = converted_hint given (files_of conversion) old new error h

pub refusal_hint : (words : List Text) (given : Given) (old new : Option (List ℕ)) (error : Stream) → Refuses words given old new error → IsHinted None error
refusal_hint words given old new error h = work_hint h.0 given old new error h.2
