-- What was written to a stream, and the lines that say what failed or what is asked for in vain.
use Rattle.std.specs.Prelude.{◌≡◌, ◌⊎◌, ℕ, Bool, true, List, [], ◌∷◌, ◌++◌, codes, Option}
use Rattle.std.specs.Io.KnownBytes.{Appends}
use Rattle.mq_command.specs.Digits.{oddity_line}
use Rattle.mq_explain.specs.Listing.{all_codes}
use Rattle.mq_host.specs.declared.failure.Failure.{Failure}
use Rattle.mq_host.specs.declared.failure.Failure.TheVariants as failures
use Rattle.mq_host.specs.declared.misuse.Misuse.{Misuse}
use Rattle.mq_host.specs.declared.misuse.Misuse.TheVariants.{NotHex, TooLong, NoRole, NoStatement, NoFaults, NoFaultsForAll, NoFile, NoNumber, NoFileForWhy, TwoReports, NoStatements, NoChoice, TwoChoices, SameFile, OutExists}

-- The known bytes grew by a beginning of the text, or by all of it, and by nothing else.
pub record AppendsPart (old new : Option (List ℕ)) (text : List ℕ) : Type 0 where
  pub written : List ℕ
  pub unwritten : List ℕ
  pub whole : text ≡ written ++ unwritten
  pub appended : Appends old new written

-- What became of the error stream: the bytes that it held and those that it holds, each if known, and whether a message couldn't be
-- written to it.
pub record Stream : Type 0 where
  pub old : Option (List ℕ)
  pub new : Option (List ℕ)
  pub has_failed : Bool

-- the error stream before and after, by what it holds and whether it has failed
abbrev pub stream : {E : Type 0} → (E → Option (List ℕ)) → (E → Bool) → (old new : E) → Stream
stream contents has_failed old new = record { old = contents old; new = contents new; has_failed = has_failed new }

-- The message couldn't be written to the error stream: only a beginning of it was, or all of it if only a flush failed, and nothing else.
pub record IsCutOff (error : Stream) (message : List ℕ) : Type 0 where
  pub failed : error.has_failed ≡ true
  pub part : AppendsPart error.old error.new message

-- The message was written to the error stream and nothing else, unless that failed.
pub record IsTold (error : Stream) (message : List ℕ) : Type 0 where
  pub outcome : Appends error.old error.new message ⊎ IsCutOff error message

-- ---- what failed

-- the line that says what failed
abbrev pub failure_line : Failure → List ℕ
failure_line failures.Read = codes "mqjudge: read failed" ++ 10 ∷ []
failure_line failures.Write = codes "mqjudge: write failed" ++ 10 ∷ []
failure_line failures.Memory = codes "mqjudge: out of memory" ++ 10 ∷ []

-- ---- what the words ask for in vain

-- the message for more text on standard input than is taken
abbrev pub too_long_line : List ℕ
too_long_line = codes "mqjudge: standard input has more than 134217728 bytes, the most that packet takes" ++ 10 ∷ []

-- for a word that isn't an end, and then which ends there are
abbrev pub no_role_line : List ℕ → List ℕ
no_role_line word = codes "mqjudge: no role " ++ (word ++ (10 ∷ codes "mqjudge: there are client and server" ++ 10 ∷ []))

-- for a word that is neither a statement's code nor a citation, and then which codes there are
abbrev pub no_statement_line : List ℕ → List ℕ
no_statement_line word = codes "mqjudge: no statement " ++ (word ++ (10 ∷ codes "mqjudge: there are"
    ++ (all_codes ++ (codes ", and citations such as MQTT-4.4.0-1: see mqjudge rules" ++ 10 ∷ []))))

-- for `--around` without `--faults`, for no file that can be read twice, and for a word that isn't a number
abbrev pub no_faults_line : List ℕ
no_faults_line = codes "mqjudge: --around needs --faults" ++ 10 ∷ []

-- the line on the further statements where no faults are asked for
abbrev pub no_faults_for_all_line : List ℕ
no_faults_for_all_line = codes "mqjudge: --all and --times need --faults" ++ 10 ∷ []

abbrev pub no_file_line : List ℕ
no_file_line = codes "mqjudge: --faults reads the log more than once, so it needs a FILE, not standard input" ++ 10 ∷ []

abbrev pub no_number_line : List ℕ → List ℕ
no_number_line word = codes "mqjudge: no number " ++ (word ++ 10 ∷ [])

-- for `--why` without a file that can be read twice, and beside `--coverage`
abbrev pub no_file_for_why_line : List ℕ
no_file_for_why_line = codes "mqjudge: --why may read the log twice, so it needs a FILE, not standard input" ++ 10 ∷ []

abbrev pub two_reports_line : List ℕ
two_reports_line = codes "mqjudge: --why and --coverage are two reports: ask for one at a time" ++ 10 ∷ []

-- the end of a line on a list of statements, and then what a list may have
abbrev pub choices_line : List ℕ
choices_line = 10 ∷ codes "mqjudge: there are default, all, times," ++ (all_codes ++ (codes ", and a family for each letter that codes begin with: see mqjudge rules --times" ++ 10 ∷ []))

-- for a word of a list that names no statement, for a list that leaves none, and for one beside `--all` or `--times`
abbrev pub no_statements_line : List ℕ → List ℕ
no_statements_line word = codes "mqjudge: no statements " ++ (word ++ choices_line)

abbrev pub no_choice_line : List ℕ
no_choice_line = codes "mqjudge: --statements leaves no statement" ++ choices_line

abbrev pub two_choices_line : List ℕ
two_choices_line = codes "mqjudge: --all, --times and --statements choose statements: give one of them" ++ 10 ∷ []

-- for a log that is to be converted into itself
abbrev pub same_file_line : List ℕ
same_file_line = codes "mqjudge: OUT has to be another file than IN" ++ 10 ∷ []

-- for a log that is to be converted into a file that is there
abbrev pub exists_line : List ℕ → List ℕ
exists_line path = codes "mqjudge: OUT exists: " ++ (path ++ (10 ∷ codes "mqjudge: with --force it is emptied and written" ++ 10 ∷ []))

-- the message for a misuse
abbrev pub misuse_line : Misuse → List ℕ
misuse_line (NotHex odd) = oddity_line odd
misuse_line TooLong = too_long_line
misuse_line (NoRole word) = no_role_line word.now
misuse_line (NoStatement word) = no_statement_line word.now
misuse_line NoFaults = no_faults_line
misuse_line NoFaultsForAll = no_faults_for_all_line
misuse_line NoFile = no_file_line
misuse_line (NoNumber word) = no_number_line word.now
misuse_line NoFileForWhy = no_file_for_why_line
misuse_line TwoReports = two_reports_line
misuse_line (NoStatements word) = no_statements_line word.now
misuse_line NoChoice = no_choice_line
misuse_line TwoChoices = two_choices_line
misuse_line SameFile = same_file_line
misuse_line (OutExists path) = exists_line path.now
