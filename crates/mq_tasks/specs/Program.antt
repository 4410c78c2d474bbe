-- What the program does for the words of its command line, by its exit status.
use Rattle.std.specs.Prelude.{◌≡◌, ◌≢◌, ◌⊎◌, ℕ, Bool, true, List, [], Option, Some, IfSome, IsErrAnd, IsOkAnd, MatchResult, string_bytes}
use Rattle.std.specs.Io.KnownBytes.{Appends, Keeps}
use Rattle.clap.specs.Words.{Text}
use Rattle.mq_command.specs.declared.command_line.EarlyExit.{EarlyExit}
use Rattle.mq_command.specs.declared.command_line.Conversion.{Conversion}
use Rattle.mq_command.specs.declared.command_line.Inquiry.{Inquiry}
use Rattle.mq_command.specs.declared.command_line.Review.{Review}
use Rattle.mq_command.specs.declared.command_line.Task.{Task}
use Rattle.mq_command.specs.declared.command_line.Work.{Work}
use Rattle.mq_command.specs.declared.command_line.Work.TheVariants.{Once, Again, Why, Convert}
use Rattle.mq_command.specs.declared.command_line.EarlyExit.TheVariants as exits
use Rattle.mq_host.specs.declared.failure.Failure.TheVariants.{Memory}
use Rattle.mq_host.specs.declared.host.Unmade.{Unmade}
use Rattle.mq_host.specs.declared.host.Unmade.TheVariants.{Exists, IsLog, Failed}
use Rattle.mq_host.specs.declared.trouble.Trouble.{Trouble}
use Rattle.mq_host.specs.declared.trouble.Trouble.TheVariants as troubles
use Rattle.mq_command.specs.CommandLine.{ReadsAsAsked, StopsFor, word_faults, path_of, reads_input, request_by, request_of}
use Rattle.mq_tasks.specs.Converting.{DoesToFiles, FailsConverting, Files, IsConvertible, RefusesConverting, files_of}
use Rattle.mq_host.specs.Effects.{Doing}
use Rattle.mq_host.specs.Given.{Given, bytes_at}
use Rattle.mq_judge.specs.declared.Form.{Form}
use Rattle.mq_tasks.specs.Choosing.{Chosen, without_list}
use Rattle.mq_tasks.specs.Inquiring.{HasChanged, IsPassed, IsReasoned, StopsInquiry, asked_of}
use Rattle.mq_tasks.specs.Lapses.{changed_line}
use Rattle.mq_tasks.specs.declared.lapse.Lapse.TheVariants as lapses
use Rattle.mq_tasks.specs.Reviewing.{IfAll, IfBoth, IsReviewed, Plan, RefusesPlan, StopsPlan, plan_of}
use Rattle.mq_tasks.specs.Messages.{RefusesCheck, form_of, FailsMisnamed, StopsTask, HasFailed, HasPassed, IsMisnamed, IsRefusedOn, IsReportedOn, IsShownOn, IsPrintedOn}
use Rattle.mq_host.specs.Streams.{AppendsPart, IsCutOff, IsTold, Stream, exists_line, failure_line, same_file_line}
use Rattle.mq_host.specs.Troubles.{Tells, failure_in, hint_line, place_of, words_place}

-- the bytes that a task reads
abbrev pub input_of : Given → Task → Option Text
input_of given task = bytes_at given (path_of task)

-- 2: If the first bytes of the log show that it is another kind of file, the line that says so is written to the error stream, unless that failed; else nothing.
-- `start` are the first bytes. Of a log that isn't known, they may be any.
pub record IsHinted (log : Option Text) (error : Stream) : Type 0 where
  pub start : Text
  pub shows : IfSome log (λ bytes. hint_line bytes ≡ hint_line start)
  pub told : IsTold error (hint_line start)

-- 3: what the task asks for can't be done, and the line that says so was written to the error stream
pub record MisusesTask (task : Task) (input error_old error_new : Option (List ℕ)) : Type 0 where
  pub line : List ℕ
  pub misnamed : IsMisnamed task input line
  pub told : Appends error_old error_new line

-- In what follows, `is_closed` says that nobody reads the output any more.

-- The first bytes of the log couldn't be read, or memory ran out: nothing was written, and it is said why, and which log it is.
pub record IsUnbegun (place : Text) (is_closed : Bool) (old new : Option (List ℕ)) (error : Stream) : Type 0 where
  pub trouble : Trouble
  pub is_of_reading : trouble ≢ troubles.Write
  pub unwritten : Keeps old new
  pub told : Tells is_closed place trouble error

-- The task failed on this log, and it is said what failed. What its reader has left isn't specified.
pub record FailsOn (task : Task) (place : Text) (log : Option Text) (is_closed : Bool) (old new : Option (List ℕ)) (error : Stream) : Type 0 where
  pub left : Option (List ℕ)
  pub trouble : Trouble
  pub stops : StopsTask (failure_in trouble) task log left old new
  pub told : Tells is_closed place trouble error

-- 4: the task failed on this log, or what it asks for can't be done, and the line that says so couldn't be written to the error stream
abbrev pub FailsTaskOn : Task → (place : Text) → (log : Option Text) → (is_closed : Bool) → (old new : Option (List ℕ)) → Stream → Type 0
FailsTaskOn task place log is_closed old new error = FailsOn task place log is_closed old new error ⊎ FailsMisnamed task log old new error

-- 4: the same, or the first bytes of the log couldn't be read
abbrev pub FailsLog : Task → (place : Text) → (log : Option Text) → (is_closed : Bool) → (old new : Option (List ℕ)) → Stream → Type 0
FailsLog task place log is_closed old new error = IsUnbegun place is_closed old new error ⊎ FailsTaskOn task place log is_closed old new error

-- The file that is named couldn't be opened: nothing was written, and it is said why, and which file it is.
pub record IsUnopened (given : Given) (name : Option Text) (is_closed : Bool) (old new : Option (List ℕ)) (error : Stream) : Type 0 where
  pub path : Text
  pub named : name ≡ Some path
  pub trouble : Trouble
  pub refused : given.unopened path trouble
  pub unwritten : Keeps old new
  pub told : Tells is_closed path trouble error

-- 4: the task's file couldn't be opened, or the task reads its input and failed at that, or it reads none and failed
abbrev pub FailsRead : Given → Task → (is_closed : Bool) → (old new : Option (List ℕ)) → Stream → Type 0
FailsRead given task is_closed old new error = IsUnopened given (path_of task) is_closed old new error
    ⊎ (((reads_input task ≡ true) × FailsLog task (place_of (path_of task)) (input_of given task) is_closed old new error)
    ⊎ FailsTaskOn task (place_of (path_of task)) (input_of given task) is_closed old new error)

-- ---- a log that is shown with the faults at its events

-- 0: what is asked for was shown
abbrev pub PassesReview : Given → Review → Option (List ℕ) → Option (List ℕ) → Type 0
PassesReview given review old new = IsOkAnd (plan_of review) (λ plan. IfSome (given.file plan.path) (λ log. IsReviewed plan log log log old new))

-- 2: the log is refused, and the line that says so was written
abbrev pub RefusesReview : Given → Review → (old new : Option (List ℕ)) → Stream → Type 0
RefusesReview given review old new error = IsOkAnd (plan_of review) (λ plan. IfSome (given.file plan.path) (λ log. RefusesPlan plan log log log old new)
    × IsHinted (given.file plan.path) error)

-- 3: there is nothing to show, and the line that says so was written
abbrev pub MisusesReview : Review → Option (List ℕ) → Option (List ℕ) → Type 0
MisusesReview review error_old error_new = IsErrAnd (plan_of review) (λ line. Appends error_old error_new line)

-- Reading or writing failed, or memory ran out, while one log was judged, the next one read again or the last one shown, and it is said what failed. What the
-- three readers have left isn't specified.
pub record StopsReaders (plan : Plan) (judged again shown : Option Text) (is_closed : Bool) (old new : Option (List ℕ)) (error : Stream) : Type 0 where
  pub judged_left : Option (List ℕ)
  pub again_left : Option (List ℕ)
  pub shown_left : Option (List ℕ)
  pub trouble : Trouble
  pub stops : IfAll judged again shown (λ first second third. StopsPlan plan (lapses.Failed (failure_in trouble)) first second third judged_left again_left shown_left old new)
  pub told : Tells is_closed plan.path trouble error

-- The log changed between the first two readings, and it is said so.
pub record ChangesReaders (choice : Chosen) (judged again shown : Option Text) (old new : Option (List ℕ)) (error : Stream) : Type 0 where
  pub changed : IfAll judged again shown (λ first second third. HasChanged choice first second old new)
  pub told : IsTold error changed_line

-- 4: judging the log, reading it again or showing it failed, or it changed
abbrev pub FailsBegun : Plan → (judged again shown : Option Text) → (is_closed : Bool) → (old new : Option (List ℕ)) → Stream → Type 0
FailsBegun plan judged again shown is_closed old new error =
    StopsReaders plan judged again shown is_closed old new error ⊎ ChangesReaders (without_list plan.further) judged again shown old new error

-- 4: the same, or the first bytes of the log couldn't be read
abbrev pub FailsReaders : Plan → (judged again shown : Option Text) → (is_closed : Bool) → (old new : Option (List ℕ)) → Stream → Type 0
FailsReaders plan judged again shown is_closed old new error =
    IsUnbegun plan.path is_closed old new error ⊎ FailsBegun plan judged again shown is_closed old new error

-- The file couldn't be opened: nothing was written, and it is said why, and which file it is.
pub record IsUnopenedPlan (given : Given) (plan : Plan) (is_closed : Bool) (old new : Option (List ℕ)) (error : Stream) : Type 0 where
  pub trouble : Trouble
  pub refused : given.unopened plan.path trouble
  pub unwritten : Keeps old new
  pub told : Tells is_closed plan.path trouble error

-- 4: the file couldn't be opened, or not be read, judged or shown, or it changed
abbrev pub FailsFile : Given → Plan → (is_closed : Bool) → (old new : Option (List ℕ)) → Stream → Type 0
FailsFile given plan is_closed old new error = IsUnopenedPlan given plan is_closed old new error
    ⊎ FailsReaders plan (given.file plan.path) (given.file plan.path) (given.file plan.path) is_closed old new error

-- 4: there is nothing to do, and the line that says so couldn't be written to the error stream, or memory ran out for it
pub record FailsUnplanned (line : Text) (old new : Option (List ℕ)) (error : Stream) : Type 0 where
  pub unwritten : Keeps old new
  pub printed : IsCutOff error line ⊎ IsTold error (failure_line Memory)

-- 4: showing failed, or there is nothing to show
abbrev pub FailsReview : Given → Review → (is_closed : Bool) → (old new : Option (List ℕ)) → Stream → Type 0
FailsReview given review is_closed old new error = IsOkAnd (plan_of review) (λ plan. FailsFile given plan is_closed old new error)
    ⊎ IsErrAnd (plan_of review) (λ line. FailsUnplanned line old new error)

-- ---- a log that is judged with what its faults conflict with

-- 0: the log has no fault, and the report was written
abbrev pub PassesInquiry : Given → Inquiry → Option (List ℕ) → Option (List ℕ) → Type 0
PassesInquiry given inquiry old new = IsOkAnd (asked_of inquiry) (λ asked. IfSome (given.file asked.path) (λ log. IsPassed asked.choice (form_of inquiry.form) log old new))

-- 1: it has faults, and the report that says what they conflict with was written
abbrev pub FindsReasons : Given → Inquiry → Option (List ℕ) → Option (List ℕ) → Type 0
FindsReasons given inquiry old new = IsOkAnd (asked_of inquiry) (λ asked. IfSome (given.file asked.path) (λ log. IsReasoned asked.choice (form_of inquiry.form) log log old new))

-- 2: the log is refused, and the line that says so was written
abbrev pub RefusesInquiry : Given → Inquiry → (old new : Option (List ℕ)) → Stream → Type 0
RefusesInquiry given inquiry old new error = IsOkAnd (asked_of inquiry) (λ asked. IfSome (given.file asked.path) (λ log. RefusesCheck (form_of inquiry.form) log old new)
    × IsHinted (given.file asked.path) error)

-- 3: no file is named, or another report is asked for too, and the line that says so was written
abbrev pub MisusesInquiry : Inquiry → Option (List ℕ) → Option (List ℕ) → Type 0
MisusesInquiry inquiry error_old error_new = IsErrAnd (asked_of inquiry) (λ line. Appends error_old error_new line)

-- Reading or writing failed, or memory ran out, while one log was judged or while the other one was read, and it is said what failed. What the two readers have left
-- isn't specified.
pub record StopsInquiryReaders (path : Text) (choice : Chosen) (form : Form) (judged again : Option Text) (is_closed : Bool) (old new : Option (List ℕ)) (error : Stream) : Type 0 where
  pub judged_left : Option (List ℕ)
  pub again_left : Option (List ℕ)
  pub trouble : Trouble
  pub stops : IfBoth judged again (λ first second. StopsInquiry choice form (lapses.Failed (failure_in trouble)) first second judged_left again_left old new)
  pub told : Tells is_closed path trouble error

-- The log changed between the two readings, and it is said so.
pub record ChangesInquiry (choice : Chosen) (judged again : Option Text) (old new : Option (List ℕ)) (error : Stream) : Type 0 where
  pub changed : IfBoth judged again (λ first second. HasChanged choice first second old new)
  pub told : IsTold error changed_line

-- 4: judging the log or reading it again failed, or it changed
abbrev pub FailsInquiryBegun : (path : Text) → (choice : Chosen) → Form → (judged again : Option Text) → (is_closed : Bool) → (old new : Option (List ℕ)) → Stream → Type 0
FailsInquiryBegun path choice form judged again is_closed old new error =
    StopsInquiryReaders path choice form judged again is_closed old new error ⊎ ChangesInquiry choice judged again old new error

-- 4: the same, or the first bytes of the log couldn't be read
abbrev pub FailsInquiryReaders : (path : Text) → (choice : Chosen) → Form → (judged again : Option Text) → (is_closed : Bool) → (old new : Option (List ℕ)) → Stream → Type 0
FailsInquiryReaders path choice form judged again is_closed old new error =
    IsUnbegun path is_closed old new error ⊎ FailsInquiryBegun path choice form judged again is_closed old new error

-- The file couldn't be opened: nothing was written, and it is said why, and which file it is.
pub record IsUnopenedLog (given : Given) (path : Text) (is_closed : Bool) (old new : Option (List ℕ)) (error : Stream) : Type 0 where
  pub trouble : Trouble
  pub refused : given.unopened path trouble
  pub unwritten : Keeps old new
  pub told : Tells is_closed path trouble error

-- 4: the file couldn't be opened, or not be read or judged, or it changed
abbrev pub FailsInquiryFile : Given → (path : Text) → (choice : Chosen) → Form → (is_closed : Bool) → (old new : Option (List ℕ)) → Stream → Type 0
FailsInquiryFile given path choice form is_closed old new error = IsUnopenedLog given path is_closed old new error
    ⊎ FailsInquiryReaders path choice form (given.file path) (given.file path) is_closed old new error

-- 4: the check failed, or it is misused, and the line that says so couldn't be written
abbrev pub FailsInquiry : Given → Inquiry → (is_closed : Bool) → (old new : Option (List ℕ)) → Stream → Type 0
FailsInquiry given inquiry is_closed old new error = IsOkAnd (asked_of inquiry) (λ asked. FailsInquiryFile given asked.path asked.choice (form_of inquiry.form) is_closed old new error)
    ⊎ IsErrAnd (asked_of inquiry) (λ line. FailsUnplanned line old new error)

-- ---- a log that is converted. The file that was made is gone when the program ends, so nothing is said of it here.

-- for some bytes that the file that was made held before and after, each if known
abbrev pub ForSomeFile : (Option (List ℕ) → Option (List ℕ) → Type 0) → Type 0
ForSomeFile P = (made_old : Option (List ℕ)) × (made_new : Option (List ℕ)) × P made_old made_new

-- 0: the log can be converted
abbrev pub PassesConversion : Given → Conversion → Type 0
PassesConversion given conversion = IsOkAnd (files_of conversion) (λ files. IfSome (bytes_at given files.log) IsConvertible)

-- 2: this log can't be converted, and the line that says so was written
abbrev pub RefusesSource : (log : Option Text) → (old new : Option (List ℕ)) → Stream → Type 0
RefusesSource log old new error = ForSomeFile (λ made_old made_new. IfSome log (λ bytes. RefusesConverting bytes made_old made_new old new)) × IsHinted log error

-- 2: so it is with the log that is named
abbrev pub RefusesConversion : Given → Conversion → (old new : Option (List ℕ)) → Stream → Type 0
RefusesConversion given conversion old new error = IsOkAnd (files_of conversion) (λ files. RefusesSource (bytes_at given files.log) old new error)

-- the file at this path wasn't made for this reason, which is a misuse, and the line that says so was written
abbrev pub IsMisuseFor : (path : Text) → Unmade → Option (List ℕ) → Option (List ℕ) → Type 0
IsMisuseFor path Exists error_old error_new = Appends error_old error_new (exists_line path)
IsMisuseFor path IsLog error_old error_new = Appends error_old error_new same_file_line
IsMisuseFor path (Failed trouble) error_old error_new = ⊥

-- 3: the file at this path is there, or is the log, and the line that says so was written
abbrev pub MisusesFile : Given → (path : Text) → Option (List ℕ) → Option (List ℕ) → Type 0
MisusesFile given path error_old error_new = (why : Unmade) × given.unmade path why × IsMisuseFor path why error_old error_new

-- 3: so it is with the files that are named, or the log and the file have one name, and the line that says so was written
abbrev pub MisusesConversion : Given → Conversion → Option (List ℕ) → Option (List ℕ) → Type 0
MisusesConversion given conversion error_old error_new =
    MatchResult (files_of conversion) (λ files. MisusesFile given files.made error_old error_new) (λ line. Appends error_old error_new line)

-- the file at this path wasn't made for this reason, and it is said what failed; or that it is a misuse couldn't be said
abbrev pub FailsUnmade : (path : Text) → Unmade → (is_closed : Bool) → (old new : Option (List ℕ)) → Stream → Type 0
FailsUnmade path Exists is_closed old new error = FailsUnplanned (exists_line path) old new error
FailsUnmade path IsLog is_closed old new error = FailsUnplanned same_file_line old new error
FailsUnmade path (Failed trouble) is_closed old new error = Keeps old new × Tells is_closed path trouble error

-- The file at this path wasn't made: nothing was written, and it is said what failed.
pub record IsUnmade (given : Given) (path : Text) (is_closed : Bool) (old new : Option (List ℕ)) (error : Stream) : Type 0 where
  pub why : Unmade
  pub refused : given.unmade path why
  pub fails : FailsUnmade path why is_closed old new error

-- 4: the first bytes of the log couldn't be read, or the file at this path not be made, or converting failed
abbrev pub FailsSource : Given → (place : Text) → (log : Option Text) → (path : Text) → (is_closed : Bool) → (old new : Option (List ℕ)) → Stream → Type 0
FailsSource given place log path is_closed old new error = IsUnbegun place is_closed old new error
    ⊎ (IsUnmade given path is_closed old new error
    ⊎ ForSomeFile (λ made_old made_new. FailsConverting place log is_closed made_old made_new old new error))

-- 4: the log couldn't be opened, or not be read or converted, or the file not be made
abbrev pub FailsFiles : Given → Files → (is_closed : Bool) → (old new : Option (List ℕ)) → Stream → Type 0
FailsFiles given files is_closed old new error = IsUnopened given files.log is_closed old new error
    ⊎ FailsSource given (place_of files.log) (bytes_at given files.log) files.made is_closed old new error

-- 4: converting failed, or the log and the file have one name
abbrev pub FailsConversion : Given → Conversion → (is_closed : Bool) → (old new : Option (List ℕ)) → Stream → Type 0
FailsConversion given conversion is_closed old new error = IsOkAnd (files_of conversion) (λ files. FailsFiles given files is_closed old new error)
    ⊎ IsErrAnd (files_of conversion) (λ line. FailsUnplanned line old new error)

-- ---- what a status means for some work

-- 0: it was done, and all of its output was written, which of a conversion is nothing
abbrev pub PassesWork : Given → Work → Option (List ℕ) → Option (List ℕ) → Type 0
PassesWork given (Once task) old new = HasPassed task (input_of given task) × IsReportedOn task (input_of given task) old new
PassesWork given (Again review) old new = PassesReview given review old new
PassesWork given (Why inquiry) old new = PassesInquiry given inquiry old new
PassesWork given (Convert conversion) old new = PassesConversion given conversion × Keeps old new

-- 1: it found faults, and all of its output was written
abbrev pub FindsFaultsIn : Given → Work → Option (List ℕ) → Option (List ℕ) → Type 0
FindsFaultsIn given (Once task) old new = HasFailed task (input_of given task) × IsReportedOn task (input_of given task) old new
FindsFaultsIn given (Again review) old new = ⊥
FindsFaultsIn given (Why inquiry) old new = FindsReasons given inquiry old new
FindsFaultsIn given (Convert conversion) old new = ⊥

-- 2: its log is refused, and all of its output was written
abbrev pub RefusesWork : Given → Work → (old new : Option (List ℕ)) → Stream → Type 0
RefusesWork given (Once task) old new error = IsRefusedOn task (input_of given task) old new × IsHinted (input_of given task) error
RefusesWork given (Again review) old new error = RefusesReview given review old new error
RefusesWork given (Why inquiry) old new error = RefusesInquiry given inquiry old new error
RefusesWork given (Convert conversion) old new error = RefusesConversion given conversion old new error

-- 3: the digits of a packet spell no bytes, a word isn't an end, a statement or a number, there is no file to read again, two reports are asked for, or a log is to be
-- converted into itself, or into a file that is there, and the line that says so was written to the error stream
abbrev pub MisusesWork : Given → Work → Option (List ℕ) → Option (List ℕ) → Type 0
MisusesWork given (Once task) error_old error_new = MisusesTask task (input_of given task) error_old error_new
MisusesWork given (Again review) error_old error_new = MisusesReview review error_old error_new
MisusesWork given (Why inquiry) error_old error_new = MisusesInquiry inquiry error_old error_new
MisusesWork given (Convert conversion) error_old error_new = MisusesConversion given conversion error_old error_new

-- 4: it failed, or its file couldn't be opened
abbrev pub FailsWork : Given → Work → (is_closed : Bool) → (old new : Option (List ℕ)) → Stream → Type 0
FailsWork given (Once task) is_closed old new error = FailsRead given task is_closed old new error
FailsWork given (Again review) is_closed old new error = FailsReview given review is_closed old new error
FailsWork given (Why inquiry) is_closed old new error = FailsInquiry given inquiry is_closed old new error
FailsWork given (Convert conversion) is_closed old new error = FailsConversion given conversion is_closed old new error

-- ---- what a status means if the words ask for no work

-- 4: help, the version or a misuse couldn't be written, or memory ran out
abbrev pub FailsStop : EarlyExit → (is_closed : Bool) → (old new : Option (List ℕ)) → Stream → Type 0
FailsStop (exits.Help text) is_closed old new error = AppendsPart old new (string_bytes text) × Tells is_closed [] troubles.Write error
FailsStop (exits.Usage text) is_closed old new error = Keeps old new × IsCutOff error (string_bytes text)
FailsStop exits.Memory is_closed old new error = Keeps old new × IsTold error (failure_line Memory)

-- ---- of these words

-- they ask for this, and for a second reading of the log if it takes one
abbrev pub AsksFor : List Text → Work → Type 0
AsksFor words work = (request_of words ≡ Some (request_by work)) × ReadsAsAsked work

-- they ask for no work, and this is why
abbrev pub StopsAt : List Text → EarlyExit → Type 0
StopsAt words stop = StopsFor (word_faults words) stop

-- 0: they ask for help or the version, which was written; or for work that was done, and all of its output was written
abbrev pub Passes : List Text → Given → Option (List ℕ) → Option (List ℕ) → Type 0
Passes words given old new = ((stop : EarlyExit) × StopsAt words stop × IsShownOn stop old new)
    ⊎ ((work : Work) × AsksFor words work × PassesWork given work old new)

-- 1: they ask for work that found faults, and all of its output was written
abbrev pub FindsFaults : List Text → Given → Option (List ℕ) → Option (List ℕ) → Type 0
FindsFaults words given old new = (work : Work) × AsksFor words work × FindsFaultsIn given work old new

-- 2: they ask for work on a log that is refused, and all of its output was written
abbrev pub Refuses : List Text → Given → (old new : Option (List ℕ)) → Stream → Type 0
Refuses words given old new error = (work : Work) × AsksFor words work × RefusesWork given work old new error

-- 3: they aren't a command line, or ask for what can't be done, and the text that says so was written to the error stream
abbrev pub IsMisuse : List Text → Given → Option (List ℕ) → Option (List ℕ) → Type 0
IsMisuse words given error_old error_new = ((stop : EarlyExit) × StopsAt words stop × IsPrintedOn stop error_old error_new)
    ⊎ ((work : Work) × AsksFor words work × MisusesWork given work error_old error_new)

-- 4: the text for words that ask for no work couldn't be written; or they ask for work that failed, or whose file couldn't be opened
abbrev pub FailsWords : List Text → Given → (is_closed : Bool) → (old new : Option (List ℕ)) → Stream → Type 0
FailsWords words given is_closed old new error = ((stop : EarlyExit) × StopsAt words stop × FailsStop stop is_closed old new error)
    ⊎ ((work : Work) × AsksFor words work × FailsWork given work is_closed old new error)

-- What the words ask for was done to files, with this status: nothing, unless they ask for a conversion. `did` says of effects that they are what was done.
abbrev pub DoesForWork : Given → Work → (status : ℕ) → Doing → Type 0
DoesForWork given (Once task) status did = did []
DoesForWork given (Again review) status did = did []
DoesForWork given (Why inquiry) status did = did []
DoesForWork given (Convert conversion) status did =
    MatchResult (files_of conversion) (λ files. DoesToFiles (bytes_at given files.log) files.made files.force status did) (λ _. did [])

abbrev pub DoesForWords : List Text → Given → (status : ℕ) → Doing → Type 0
DoesForWords words given status did = ((stop : EarlyExit) × StopsAt words stop × did [])
    ⊎ ((work : Work) × AsksFor words work × DoesForWork given work status did)

-- 4: The words couldn't be read: nothing was written, and it is said why.
pub record WordsUnread (given : Given) (is_closed : Bool) (old new : Option (List ℕ)) (error : Stream) : Type 0 where
  pub trouble : Trouble
  pub why : given.unread trouble
  pub unwritten : Keeps old new
  pub told : Tells is_closed words_place trouble error
