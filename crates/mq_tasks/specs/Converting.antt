-- Converting a log into one of version 2: what the words ask for, and what each status means for the log, the file that is made, and the output.
use Rattle.std.specs.Prelude.{◌≡◌, ◌⊎◌, Bool, true, false, List, ℕ, Option, None, Some, Result, Ok, Err, if◌then◌else◌, length, take, option_map, string_bytes, ◌≤◌, ◌∷◌, [], IfSome}
use Rattle.std.specs.Str.{bytes_eq}
use Rattle.std.specs.Io.KnownBytes.{Appends, Keeps}
use Rattle.clap.specs.Words.{Text}
use Rattle.mq_judge.specs.declared.Refusal.{Refusal}
use Rattle.mq_judge.specs.declared.Refusal.TheVariants as refusals
use Rattle.mq_report.specs.Report.{refused_line}
use Rattle.mq_trace.specs.Converting.{Converts, converted, unconverted}
use Rattle.mq_log.specs.Refusals.{is_cut_short}
use Rattle.mq_trace.specs.declared.converting.ConvertFault.TheVariants as faults
use Rattle.mq_command.specs.declared.command_line.Conversion.{Conversion}
use Rattle.mq_tasks.specs.declared.converting.Files.{Files as SourceFiles}
use Rattle.mq_host.specs.declared.failure.Failure.{Failure}
use Rattle.mq_host.specs.declared.failure.Failure.TheVariants as failures
use Rattle.mq_host.specs.declared.trouble.Trouble.{Trouble}
use Rattle.mq_command.specs.CommandLine.{path_named}
use Rattle.mq_host.specs.Effects.{Doing, keeping, opening}
use Rattle.mq_tasks.specs.Messages.{IsOfLog}
use Rattle.mq_host.specs.Streams.{AppendsPart, Stream, same_file_line}
use Rattle.mq_host.specs.Troubles.{Tells, failure_in}

-- ---- what the words ask for

-- The files of a conversion: the log that is read, at a path, or on standard input if there is none; the path of the log that is made; and whether a file there may
-- be emptied.
pub record Files : Type 0 where
  pub log : Option Text
  pub made : Text
  pub force : Bool

-- files as the source has them
abbrev pub files_view : SourceFiles → Files
files_view files = record { log = option_map (λ path. path.now) files.log; made = files.made.now; force = files.force }

-- the files that two words name, with this flag; the message if the words are the same
abbrev pub files_named : (input output : Text) → (force : Bool) → Result Files Text
files_named input output force = if bytes_eq input output then Err same_file_line else Ok (record { log = path_named (Some input); made = output; force = force })

abbrev pub files_of : Conversion → Result Files Text
files_of conversion = files_named (string_bytes conversion.input) (string_bytes conversion.output) conversion.force

-- ---- what each status means for the log. `made_old` and `made_new` are the bytes that the file that is made held before and after, each if known; `old` and
-- `new` are those of the output.

-- the log can be converted: none of its bytes is refused, and it doesn't end inside its header or a record
abbrev pub IsConvertible : List ℕ → Type 0
IsConvertible log = (unconverted log ≡ None) × (is_cut_short log ≡ false)

-- the first bytes of the log, eight or all that there are, are a header of version 1
abbrev pub HasHeader : List ℕ → Type 0
HasHeader log = IsConvertible (take 8 log)

-- the log can't be converted, for this reason: it is the refusal that applies first, or the log ends inside its header or a record
abbrev pub IsInconvertible : List ℕ → Refusal → Type 0
IsInconvertible log refusal = (unconverted log ≡ Some refusal)
    ⊎ ((unconverted log ≡ None) × (is_cut_short log ≡ true) × (refusal ≡ refusals.Cut (length log)))

-- 0: the log can be converted, and all of it in version 2 was written to the file and nothing else
abbrev pub IsConverted : List ℕ → (made_old made_new : Option (List ℕ)) → Type 0
IsConverted log made_old made_new = IsConvertible log × Appends made_old made_new (converted log)

-- 2: The log can't be converted. What is written of it, all before the byte that is refused, was written to the file, and the line on the refusal to the output,
-- and nothing else.
pub record RefusesConverting (log : List ℕ) (made_old made_new old new : Option (List ℕ)) : Type 0 where
  pub refusal : Refusal
  pub own : IsOfLog refusal
  pub why : IsInconvertible log refusal
  pub copied : Appends made_old made_new (converted log)
  pub told : Appends old new (refused_line refusal)

-- 4, of a log whose reader has these bytes left. Reading failed, or memory ran out: what is written of the bytes that were read was written to the file, and
-- nothing to the output. Or writing to the file failed: a beginning of that was written, or all of it if only saving it failed. Or the log is
-- refused, and saving the file or writing the line on it failed: part of that line was written, or nothing.
abbrev pub StopsConverting : Failure → (log : List ℕ) → (left made_old made_new old new : Option (List ℕ)) → Type 0
StopsConverting failures.Read log left made_old made_new old new =
    (at : ℕ) × Converts log left (Err (faults.Refused (refusals.Read at))) made_old made_new × Keeps old new
StopsConverting failures.Memory log left made_old made_new old new =
    (at : ℕ) × Converts log left (Err (faults.Refused (refusals.Memory at))) made_old made_new × Keeps old new
StopsConverting failures.Write log left made_old made_new old new =
    ((Converts log left (Err faults.Write) made_old made_new ⊎ Converts log left (Ok tt) made_old made_new) × Keeps old new)
    ⊎ ((refusal : Refusal) × IsOfLog refusal × Converts log left (Err (faults.Refused refusal)) made_old made_new × AppendsPart old new (refused_line refusal))

-- 4: Converting this log failed, and it is said what failed. What its reader has left isn't specified.
pub record FailsConverting (place : Text) (log : Option Text) (is_closed : Bool) (made_old made_new old new : Option (List ℕ)) (error : Stream) : Type 0 where
  pub left : Option (List ℕ)
  pub trouble : Trouble
  pub stops : IfSome log (λ bytes. StopsConverting (failure_in trouble) bytes left made_old made_new old new)
  pub told : Tells is_closed place trouble error

-- ---- what is done to files, by the status. `did` says of effects that they are what was done since the program began.

-- 3 and 4: none was made
abbrev pub MakesNothing : (status : ℕ) → Doing → Type 0
MakesNothing status did = (3 ≤ status) × did []

-- 2: none was made, since the log is refused for its header
abbrev pub RefusesHeader : (log : Option Text) → (status : ℕ) → Doing → Type 0
RefusesHeader log status did = (status ≡ 2) × did [] × IfSome log (λ bytes. ¬ HasHeader bytes)

-- 4: the file was made at the path, once, and no other; it isn't complete
abbrev pub MakesPart : (path : Text) → (force : Bool) → (status : ℕ) → Doing → Type 0
MakesPart path force status did = (status ≡ 4) × ((held : Option Text) × did (opening path force held ∷ []))

-- 0 and 2: the file was made at the path, once, and no other; then what is written of the log was written to it, and nothing else
abbrev pub MakesWhole : (log : Option Text) → (path : Text) → (force : Bool) → (status : ℕ) → Doing → Type 0
MakesWhole log path force status did = (status ≤ 2) × ((held : Option Text) × (holds : Option Text)
    × did (keeping holds ∷ opening path force held ∷ []) × IfSome log (λ bytes. Appends held holds (converted bytes)))

-- the one or the other
abbrev pub MakesFile : (log : Option Text) → (path : Text) → (force : Bool) → (status : ℕ) → Doing → Type 0
MakesFile log path force status did = MakesPart path force status did ⊎ MakesWhole log path force status did

-- A file is made only for a log with a header of version 1.
abbrev pub DoesToFiles : (log : Option Text) → (path : Text) → (force : Bool) → (status : ℕ) → Doing → Type 0
DoesToFiles log path force status did = MakesNothing status did
    ⊎ (RefusesHeader log status did ⊎ (IfSome log HasHeader × MakesFile log path force status did))
