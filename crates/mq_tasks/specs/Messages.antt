-- What the program writes, and where.
use Rattle.std.specs.Prelude.{Bool, String, true, false, ◌≡◌, ◌⊎◌, ⊤, List, ℕ, Option, None, [], ◌++◌, string_bytes, unwrap_or, option_map, ◌<◌, length, IfSome, IsSome, IsSomeAnd, IsErr, IsOkAnd, MatchResult, Result, Ok, Err}
use Rattle.std.specs.FinMap as map
use Rattle.std.specs.Io.KnownBytes.{Appends, Keeps}
use Rattle.mq_judge.specs.declared.Form.{Form}
use Rattle.mq_judge.specs.declared.Form.TheVariants.{Text, Json, Summary}
use Rattle.mq_judge.specs.declared.Refusal.{Refusal}
use Rattle.mq_judge.specs.declared.Refusal.TheVariants as refusals
use Rattle.mq_display.specs.LongPacket.{long_packet_report}
use Rattle.mq_display.specs.OnePacket.{IsOnePacket, packet_report}
use Rattle.mq_report.specs.Report.{refused_line, refused_report}
use Rattle.mq_judge.specs.declared.Outcome.{Outcome}
use Rattle.mq_judge.specs.declared.RunFault.{RunFault}
use Rattle.mq_judge.specs.declared.RunFault.TheVariants as run_faults
use Rattle.mq_judge.specs.Runner.{IsFaultless, chosen_report, covered_report, outcome_of}
use Rattle.mq_trace.specs.Writing.{AppendsBeginning}
use Rattle.mq_report.specs.Stopping.{IsJudged, default_limit, IsRefusedAt, IsRefusedNext}
use Rattle.mq_display.specs.Display.{WritesBeginning, annotated, is_timed, short_lines_of, long_lines_of}
use Rattle.mq_log.specs.Events.{Placed, events}
use Rattle.mq_log.specs.Refusals.{refused}
use Rattle.mq_explain.specs.Citing.{explained_for}
use Rattle.mq_command.specs.Digits.{OfDigits, by_operand, bytes_of, most_text, oddity_in, oddity_line}
use Rattle.mq_explain.specs.Listing.{listed_for}
use Rattle.mq_command.specs.declared.command_line.Form.{Form as AskedForm}
use Rattle.mq_command.specs.declared.command_line.Form.TheVariants as asked
use Rattle.mq_command.specs.declared.scope.Scope.{Scope}
use Rattle.mq_command.specs.declared.command_line.Task.{Task}
use Rattle.mq_command.specs.declared.command_line.Task.TheVariants.{Check, Show, Packet, Rules, Explain}
use Rattle.std.specs.declared.alloc.Global.{Global}
use Rattle.mq_tasks.specs.Choosing.{Chosen, choice_for}
use Rattle.mq_tasks.specs.declared.tasks.EventView.{EventView}
use Rattle.mq_tasks.specs.declared.tasks.EventView.TheVariants.{Lines, Faults}
use Rattle.mq_command.specs.declared.command_line.EarlyExit.{EarlyExit}
use Rattle.mq_command.specs.declared.command_line.EarlyExit.TheVariants.{Help, Usage, Memory}
use Rattle.mq_host.specs.declared.failure.Failure.{Failure}
use Rattle.mq_host.specs.declared.failure.Failure.TheVariants as failures
use Rattle.mq_host.specs.declared.failure.Obstacle.{Obstacle}
use Rattle.mq_host.specs.declared.failure.Obstacle.TheVariants as obstacles
use Rattle.mq_host.specs.Streams.{AppendsPart, IsCutOff, Stream, misuse_line, no_role_line, no_statement_line, too_long_line}

-- help or the version was asked for, and its text was written
abbrev pub IsShownOn : EarlyExit → Option (List ℕ) → Option (List ℕ) → Type 0
IsShownOn (Help text) old new = Appends old new (string_bytes text)
IsShownOn (Usage text) old new = ⊥
IsShownOn Memory old new = ⊥

-- the words were misused, and the text that says so was written
abbrev pub IsPrintedOn : EarlyExit → Option (List ℕ) → Option (List ℕ) → Type 0
IsPrintedOn (Help text) old new = ⊥
IsPrintedOn (Usage text) old new = Appends old new (string_bytes text)
IsPrintedOn Memory old new = ⊥

-- The known bytes grew by one text, then by a beginning of another one, or by all of it, and by nothing else.
pub record AppendsAfter (old new : Option (List ℕ)) (before text : List ℕ) : Type 0 where
  pub written : List ℕ
  pub unwritten : List ℕ
  pub whole : text ≡ written ++ unwritten
  pub appended : Appends old new (before ++ written)

-- ---- the log

-- the log is the reason of the refusal, and not a failed read or want of memory
abbrev pub IsOfLog : Refusal → Type 0
IsOfLog (refusals.Read at) = ⊥
IsOfLog (refusals.Memory at) = ⊥
IsOfLog _ = ⊤

-- what failed if the line on a refusal couldn't be written: reading or memory if that is the refusal, else writing
abbrev pub failure_of : Refusal → Failure
failure_of (refusals.Read at) = failures.Read
failure_of (refusals.Memory at) = failures.Memory
failure_of _ = failures.Write

-- nothing was written, or part of the report on this refusal, whose reason is the log
abbrev pub BeginsRefusal : Form → Refusal → Option (List ℕ) → Option (List ℕ) → Type 0
BeginsRefusal form refusal old new = Keeps old new ⊎ (IsOfLog refusal × AppendsPart old new (refused_report form refusal))

-- memory ran out for a refusal as JSON, whose reason is the log: nothing was written
abbrev pub LacksJsonMemory : Form → Refusal → Option (List ℕ) → Option (List ℕ) → Type 0
LacksJsonMemory form refusal old new = (form ≡ Json) × IsOfLog refusal × Keeps old new

-- The log is refused for this reason, and nothing is refused before that byte: it is the lowest number whose condition applies at the
-- byte after those that were taken in, or the log is cut short after them.
pub record IsRefusedBy (log : List ℕ) (refusal : Refusal) : Type 0 where
  pub own : IsOfLog refusal
  pub taken : List ℕ
  pub later : List ℕ
  pub is : log ≡ taken ++ later
  pub unrefused : refused default_limit taken ≡ None
  pub why : IsRefusedNext default_limit taken later refusal

-- the judge's form of report for the one that the words ask for
abbrev pub form_of : AskedForm → Form
form_of asked.Text = Text
form_of asked.Json = Json
form_of asked.Summary = Summary

-- the report on a log, on the statements of this choice, in this form, with how often each statement was put to the test, or without
abbrev pub report_for : Chosen → Form → (coverage : Bool) → List ℕ → List ℕ
report_for choice form false log = chosen_report choice.has form log
report_for choice form true log = covered_report choice.has form log

-- memory may be wanting for the report: for a JSON value, for the list of the statements that were put to the test, or for the faults of the statements that are listed
abbrev pub MayLackMemory : Chosen → Form → (coverage : Bool) → Type 0
MayLackMemory choice form coverage = (form ≡ Json) ⊎ ((coverage ≡ true) ⊎ (choice.listed ≡ true))

-- What a run over this log did that judges by this choice, and whose report is in this form and has coverage or not, by its result and what the reader has left: it wrote the report
-- and nothing else; or, if writing failed, a beginning of it; or nothing, if the log is refused or there was no memory for the report.
abbrev pub RunsFor : Chosen → Form → (coverage : Bool) → List ℕ → Option (List ℕ) → Result Outcome RunFault → Option (List ℕ) → Option (List ℕ) → Type 0
RunsFor choice form coverage log left (Ok outcome) old new = IsJudged log × (outcome ≡ outcome_of choice.has log) × Appends old new (report_for choice form coverage log)
RunsFor choice form coverage log left (Err (run_faults.Refused refusal)) old new = IsRefusedAt default_limit log left refusal
RunsFor choice form coverage log left (Err run_faults.Write) old new = IsJudged log × AppendsBeginning old new (report_for choice form coverage log)
RunsFor choice form coverage log left (Err run_faults.Memory) old new = IsJudged log × MayLackMemory choice form coverage × (new ≡ old)

-- A check of the log was refused: the refusal was written in this form and nothing else.
abbrev pub RefusesCheck : Form → List ℕ → (old new : Option (List ℕ)) → Type 0
RefusesCheck form log old new = (refusal : Refusal) × IsRefusedBy log refusal × Appends old new (refused_report form refusal)

-- the lines of events, long or short, with moments if the records of the log have them
abbrev pub text_for : (timed long : Bool) → List Placed → List ℕ
text_for timed false = short_lines_of timed
text_for timed true = long_lines_of timed

-- the text of events by a view of them
abbrev pub text_in_view : (timed : Bool) → EventView → List Placed → List ℕ
text_in_view timed (Lines long) = text_for timed long
text_in_view timed (Faults faults reasons role extent) = annotated timed (record { role = role; faults = map.entries faults.now; reasons = reasons.now; around = extent.around; long = extent.long })

-- Showing the log by this text of events was refused: the text of the events that are complete before the refused byte was written, then the line on
-- the refusal, and nothing else.
abbrev pub RefusesShow : (List Placed → List ℕ) → List ℕ → (old new : Option (List ℕ)) → Type 0
RefusesShow text_of log old new = (refusal : Refusal) × (by : IsRefusedBy log refusal)
    × Appends old new (text_of (events by.taken) ++ refused_line refusal)

-- In what follows, `left` are the bytes that the log's reader has left, if that is known.

-- the log was judged, or is refused
abbrev pub IsDecided : List ℕ → Type 0
IsDecided log = IsJudged log ⊎ ((refusal : Refusal) × IsRefusedBy log refusal)

-- A check of the log failed. Reading it failed, or memory ran out, for the log, for the report or refusal as JSON, for the list of
-- what was put to the test, or for the faults of the statements that are listed: nothing was written. Or writing failed: part of the report was written, or of its refusal.
abbrev pub StopsCheck : Chosen → Form → (coverage : Bool) → Failure → List ℕ → (left old new : Option (List ℕ)) → Type 0
StopsCheck choice form coverage failures.Read log left old new = (at : ℕ) × IsRefusedAt default_limit log left (refusals.Read at) × Keeps old new
StopsCheck choice form coverage failures.Memory log left old new = ((at : ℕ) × IsRefusedAt default_limit log left (refusals.Memory at) × Keeps old new)
    ⊎ (MayLackMemory choice form coverage × IsDecided log × Keeps old new)
StopsCheck choice form coverage failures.Write log left old new = (IsJudged log × AppendsPart old new (report_for choice form coverage log))
    ⊎ ((refusal : Refusal) × IsRefusedBy log refusal × AppendsPart old new (refused_report form refusal))

-- Showing the log by this text of events failed. Reading it failed, or memory ran out: the text of the preceding events was written. Or
-- writing failed: a beginning of the text was written; or all of it, if only a flush failed; or that of the events before the refused
-- byte, and part of the line on the refusal.
abbrev pub StopsShow : (List Placed → List ℕ) → Failure → List ℕ → (left old new : Option (List ℕ)) → Type 0
StopsShow text_of failures.Read log left old new = (at : ℕ) × (stops : IsRefusedAt default_limit log left (refusals.Read at))
    × Appends old new (text_of (events stops.taken))
StopsShow text_of failures.Memory log left old new = (at : ℕ) × (stops : IsRefusedAt default_limit log left (refusals.Memory at))
    × Appends old new (text_of (events stops.taken))
StopsShow text_of failures.Write log left old new = WritesBeginning text_of log old new
    ⊎ ((IsJudged log × Appends old new (text_of (events log)))
    ⊎ ((refusal : Refusal) × (by : IsRefusedBy log refusal) × AppendsAfter old new (text_of (events by.taken)) (refused_line refusal)))

-- ---- the bytes of one packet

-- the digits spell bytes that are one packet
abbrev pub SpellsPacket : List ℕ → Type 0
SpellsPacket hex = (bytes : List ℕ) × (bytes_of hex ≡ Ok bytes) × IsOnePacket bytes

-- they spell bytes that aren't one packet
abbrev pub SpellsNoPacket : List ℕ → Type 0
SpellsNoPacket hex = (bytes : List ℕ) × (bytes_of hex ≡ Ok bytes) × (¬ IsOnePacket bytes)

-- the line on bytes, or if that is asked for, the line and what else there is to say
abbrev pub report_of_packet : (long : Bool) → List ℕ → List ℕ
report_of_packet false bytes = packet_report bytes
report_of_packet true bytes = long_packet_report bytes

-- they spell bytes, and the report on these was written and nothing else
abbrev pub AppendsReportOf : (long : Bool) → List ℕ → Option (List ℕ) → Option (List ℕ) → Type 0
AppendsReportOf long hex old new = (bytes : List ℕ) × (bytes_of hex ≡ Ok bytes) × Appends old new (report_of_packet long bytes)

-- they spell bytes, and part of that report was written
abbrev pub AppendsReportPart : (long : Bool) → List ℕ → Option (List ℕ) → Option (List ℕ) → Type 0
AppendsReportPart long hex old new = (bytes : List ℕ) × (bytes_of hex ≡ Ok bytes) × AppendsPart old new (report_of_packet long bytes)

-- they spell no bytes, and this line says what is odd in them
abbrev pub IsMisspelled : List ℕ → (line : List ℕ) → Type 0
IsMisspelled hex line = IsErr (bytes_of hex) × IsSomeAnd (oddity_in hex) (λ odd. line ≡ oddity_line odd)

-- a text that was read is misspelled, or is longer than the most that is taken, and this line says so
abbrev pub IsMisread : List ℕ → (line : List ℕ) → Type 0
IsMisread text line = IsMisspelled text line ⊎ ((most_text < length text) × (line ≡ too_long_line))

-- so it is with the digits of an operand, which are on standard input if it is `-`
abbrev pub IsMisgiven : (operand : List ℕ) → (input : Option (List ℕ)) → (line : List ℕ) → Type 0
IsMisgiven operand input line = by_operand operand (IfSome input (λ text. IsMisread text line)) (IsMisspelled operand line)

-- ---- the statements

-- there is such a text, and it was written and nothing else
abbrev pub Prints : Option (List ℕ) → Option (List ℕ) → Option (List ℕ) → Type 0
Prints text old new = IsSomeAnd text (λ printed. Appends old new printed)

-- there is such a text, and part of it was written
abbrev pub PrintsPart : Option (List ℕ) → Option (List ℕ) → Option (List ℕ) → Type 0
PrintsPart text old new = IsSomeAnd text (λ printed. AppendsPart old new printed)

-- ---- the choice of the words

-- the words choose statements, and this holds for these
abbrev pub ByChoice : Scope → Option (String Global) → (Chosen → Type 0) → Type 0
ByChoice scope statements P = IsOkAnd (choice_for scope (option_map string_bytes statements)) P

-- they choose none, or this holds for those that they choose; this line says why
abbrev pub IsMischosen : Scope → Option (String Global) → (line : List ℕ) → (Chosen → Type 0) → Type 0
IsMischosen scope statements line P = MatchResult (choice_for scope (option_map string_bytes statements)) P (λ why. line ≡ why)

-- there was no memory for a message, and nothing was written
abbrev pub LacksMessage : Failure → (old new : Option (List ℕ)) → Type 0
LacksMessage failures.Read old new = ⊥
LacksMessage failures.Write old new = ⊥
LacksMessage failures.Memory old new = Keeps old new

-- this holds for the statements that they choose, or they choose none and there was no memory to say so
abbrev pub StopsByChoice : Scope → Option (String Global) → Failure → (old new : Option (List ℕ)) → (Chosen → Type 0) → Type 0
StopsByChoice scope statements failure old new P = MatchResult (choice_for scope (option_map string_bytes statements)) P (λ line. LacksMessage failure old new)

-- ---- what a status means for a task, whose input gives these bytes and then has these left, each if known

-- 0: the log is judged and has no fault; the log that is shown can be judged; the bytes are one packet; the word names an end, or a statement
abbrev pub HasPassed : Task → Option (List ℕ) → Type 0
HasPassed (Check file form coverage scope statements) input = ByChoice scope statements (λ choice. IfSome input (λ log. IsJudged log × IsFaultless choice.has log))
HasPassed (Show file long) input = IfSome input IsJudged
HasPassed (Packet hex long) input = OfDigits (string_bytes hex) input SpellsPacket
HasPassed (Rules role scope statements) input = ByChoice scope statements (λ choice. IsSome (listed_for choice.has (option_map string_bytes role)))
HasPassed (Explain code) input = IsSome (explained_for (string_bytes code))

-- 1: the log is judged and has faults; the bytes aren't exactly one packet
abbrev pub HasFailed : Task → Option (List ℕ) → Type 0
HasFailed (Check file form coverage scope statements) input = ByChoice scope statements (λ choice. IfSome input (λ log. IsJudged log × (¬ IsFaultless choice.has log)))
HasFailed (Show file long) input = ⊥
HasFailed (Packet hex long) input = OfDigits (string_bytes hex) input SpellsNoPacket
HasFailed (Rules role scope statements) input = ⊥
HasFailed (Explain code) input = ⊥

-- 0 and 1: the report was written, or the lines of the log's events, the line on the packet, the lines of the statements, or the explanation of one, and nothing else
abbrev pub IsReportedOn : Task → Option (List ℕ) → Option (List ℕ) → Option (List ℕ) → Type 0
IsReportedOn (Check file form coverage scope statements) input old new = ByChoice scope statements (λ choice. IfSome input (λ log. Appends old new (report_for choice (form_of form) coverage log)))
IsReportedOn (Show file long) input old new = IfSome input (λ log. Appends old new (text_for (is_timed log) long (events log)))
IsReportedOn (Packet hex long) input old new = OfDigits (string_bytes hex) input (λ text. AppendsReportOf long text old new)
IsReportedOn (Rules role scope statements) input old new = ByChoice scope statements (λ choice. Prints (listed_for choice.has (option_map string_bytes role)) old new)
IsReportedOn (Explain code) input old new = Prints (explained_for (string_bytes code)) old new

-- 2: the log is refused, and the line that says so was written: alone by a check, after the lines of the preceding events if the log is shown
abbrev pub IsRefusedOn : Task → (input old new : Option (List ℕ)) → Type 0
IsRefusedOn (Check file form coverage scope statements) input old new = IfSome input (λ log. RefusesCheck (form_of form) log old new)
IsRefusedOn (Show file long) input old new = IfSome input (λ log. RefusesShow (text_for (is_timed log) long) log old new)
IsRefusedOn (Packet hex long) input old new = ⊥
IsRefusedOn (Rules role scope statements) input old new = ⊥
IsRefusedOn (Explain code) input old new = ⊥

-- 3: the digits of a packet spell no bytes or are too many, the words choose no statements, or a word isn't an end, or is neither the code of a statement nor a citation; and this line says so
abbrev pub IsMisnamed : Task → (input : Option (List ℕ)) → (line : List ℕ) → Type 0
IsMisnamed (Check file form coverage scope statements) input line = IsMischosen scope statements line (λ choice. ⊥)
IsMisnamed (Show file long) input line = ⊥
IsMisnamed (Packet hex long) input line = IsMisgiven (string_bytes hex) input line
IsMisnamed (Rules role scope statements) input line =
    IsMischosen scope statements line (λ choice. (listed_for choice.has (option_map string_bytes role) ≡ None) × (line ≡ no_role_line (unwrap_or (option_map string_bytes role) [])))
IsMisnamed (Explain code) input line = (explained_for (string_bytes code) ≡ None) × (line ≡ no_statement_line (string_bytes code))

-- what keeps the report on these digits from being written: it couldn't be written or flushed, or memory ran out first, or they spell no bytes
abbrev pub StopsSpelled : (long : Bool) → List ℕ → (old new : Option (List ℕ)) → Obstacle → Type 0
StopsSpelled long hex old new (obstacles.Failed failures.Read) = ⊥
StopsSpelled long hex old new (obstacles.Failed failures.Write) = AppendsReportPart long hex old new
StopsSpelled long hex old new (obstacles.Failed failures.Memory) = Keeps old new
StopsSpelled long hex old new (obstacles.Misused misuse) = IsMisspelled hex (misuse_line misuse) × Keeps old new

-- and on those that are on standard input, which may also not be read, or be too many
abbrev pub StopsRead : (long : Bool) → (input old new : Option (List ℕ)) → Obstacle → Type 0
StopsRead long input old new (obstacles.Failed failures.Read) = Keeps old new
StopsRead long input old new (obstacles.Failed failures.Write) = IfSome input (λ text. AppendsReportPart long text old new)
StopsRead long input old new (obstacles.Failed failures.Memory) = Keeps old new
StopsRead long input old new (obstacles.Misused misuse) = IfSome input (λ text. IsMisread text (misuse_line misuse)) × Keeps old new

-- by the operand, which is `-` for these
abbrev pub StopsGiven : (long : Bool) → (operand : List ℕ) → (input old new : Option (List ℕ)) → Obstacle → Type 0
StopsGiven long operand input old new obstacle = by_operand operand (StopsRead long input old new obstacle) (StopsSpelled long operand old new obstacle)

-- 4, for the statements: the text couldn't be written or flushed, or memory ran out first
abbrev pub StopsPrinting : Failure → Option (List ℕ) → Option (List ℕ) → Option (List ℕ) → Type 0
StopsPrinting failures.Read text old new = ⊥
StopsPrinting failures.Write text old new = PrintsPart text old new
StopsPrinting failures.Memory text old new = Keeps old new

-- what keeps this text from being written: something failed, or there is no text, and this line says so
abbrev pub StopsText : (text : Option (List ℕ)) → (line : List ℕ) → (old new : Option (List ℕ)) → Obstacle → Type 0
StopsText text line old new (obstacles.Failed failure) = StopsPrinting failure text old new
StopsText text line old new (obstacles.Misused misuse) = (text ≡ None) × (misuse_line misuse ≡ line) × Keeps old new

-- 4: what failed, and what had been written
abbrev pub StopsTask : Failure → Task → (input left old new : Option (List ℕ)) → Type 0
StopsTask failure (Check file form coverage scope statements) input left old new =
    StopsByChoice scope statements failure old new (λ choice. IfSome input (λ log. StopsCheck choice (form_of form) coverage failure log left old new))
StopsTask failure (Show file long) input left old new = IfSome input (λ log. StopsShow (text_for (is_timed log) long) failure log left old new)
StopsTask failure (Packet hex long) input left old new = StopsGiven long (string_bytes hex) input old new (obstacles.Failed failure)
StopsTask failure (Rules role scope statements) input left old new =
    StopsByChoice scope statements failure old new (λ choice. StopsPrinting failure (listed_for choice.has (option_map string_bytes role)) old new)
StopsTask failure (Explain code) input left old new = StopsPrinting failure (explained_for (string_bytes code)) old new

-- what keeps a task from being done: something failed, or its digits spell no bytes, or its word names nothing, and nothing was written
abbrev pub StopsAttempt : Task → (input left old new : Option (List ℕ)) → Obstacle → Type 0
StopsAttempt task input left old new (obstacles.Failed failure) = StopsTask failure task input left old new
StopsAttempt task input left old new (obstacles.Misused misuse) = IsMisnamed task input (misuse_line misuse) × Keeps old new

-- 4: the digits of a packet spell no bytes, or a word names nothing; and the line that says so couldn't be written to the error stream
pub record FailsMisnamed (task : Task) (input old new : Option (List ℕ)) (error : Stream) : Type 0 where
  pub line : List ℕ
  pub misnamed : IsMisnamed task input line
  pub unwritten : Keeps old new
  pub printed : IsCutOff error line
