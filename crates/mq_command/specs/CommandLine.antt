-- The command line of `mqjudge`, and what its words ask for.
use Rattle.std.specs.Prelude.{◌≡◌, ◌++◌, ◌⊎◌, String, Bool, true, false, if◌then◌else◌, List, [], Option, Some, None, codes, option_map, string_bytes, unwrap_or, IsSome, ⊤}
use Rattle.std.specs.Str.{bytes_eq}
use Rattle.std.specs.List.{Any}
use Rattle.clap.specs.Words.{App, Kinds, Row, Rule, Text, all_of, fault_of, first_of, new_app, new_rule, subcommand_of, with_rule, with_subcommand}
use Rattle.clap.specs.Lexer.{usize_max}
use Rattle.clap.specs.declared.builder.range.ValueRange.{ValueRange}
use Rattle.clap.specs.Simple.{on_top}
use Rattle.clap.specs.declared.builder.action.ArgAction.TheVariants.{SetTrue}
use Rattle.clap.specs.declared.error.kind.ErrorKind.{ErrorKind}
use Rattle.clap.specs.declared.error.kind.ErrorKind.TheVariants.{DisplayHelp, DisplayVersion}
use Rattle.std.specs.declared.alloc.Global.{Global}
use Rattle.mq_command.specs.Digits.{is_dash, spaced}
use Rattle.mq_command.specs.Operands.{EndsWith, many_logs_line, names_many_logs}
use Rattle.mq_command.specs.declared.command_line.Form.{Form}
use Rattle.mq_command.specs.declared.command_line.Form.TheVariants as forms
use Rattle.mq_command.specs.declared.scope.Scope.{Scope}
use Rattle.mq_command.specs.declared.scope.Scope.TheVariants as scopes
use Rattle.mq_command.specs.declared.command_line.Work.{Work}
use Rattle.mq_command.specs.declared.command_line.Work.TheVariants.{Once, Again, Why, Convert}
use Rattle.mq_command.specs.declared.command_line.Task.{Task}
use Rattle.mq_command.specs.declared.command_line.Task.TheVariants.{Check, Show, Packet, Rules, Explain}
use Rattle.mq_command.specs.declared.command_line.EarlyExit.{EarlyExit}
use Rattle.mq_command.specs.declared.command_line.EarlyExit.TheVariants.{Help, Usage, Memory}

-- a flag of this name: its value is `true` if it is given, and else `false`
abbrev pub flag : Text → Rule
flag name = record (new_rule name) { long = Some name; action = Some SetTrue }

-- `--statements LIST`
abbrev pub statements_option : Rule
statements_option = record (new_rule (codes "LIST")) { long = Some (codes "statements") }

-- `check [--json] [--summary] [--coverage] [--why] [--all] [--times] [--statements LIST] [FILE]`
abbrev pub check_command : App
check_command = with_rule (with_rule (with_rule (with_rule (with_rule (with_rule (with_rule (with_rule (new_app (codes "check")) (new_rule (codes "FILE"))) (flag (codes "json")))
    (flag (codes "summary"))) (flag (codes "coverage"))) (flag (codes "why"))) (flag (codes "all"))) (flag (codes "times"))) statements_option

-- `--around N`
abbrev pub around_option : Rule
around_option = record (new_rule (codes "N")) { long = Some (codes "around") }

-- `show [--long] [--faults] [--around N] [--all] [--times] [FILE]`
abbrev pub show_command : App
show_command = with_rule (with_rule (with_rule (with_rule (with_rule (with_rule (new_app (codes "show")) (new_rule (codes "FILE"))) (flag (codes "long"))) (flag (codes "faults")))
    around_option) (flag (codes "all"))) (flag (codes "times"))

-- one value or more
abbrev pub several : ValueRange
several = record { start_inclusive = 1; end_inclusive = usize_max }

-- `packet [--long] HEX..`
abbrev pub packet_command : App
packet_command = with_rule (with_rule (new_app (codes "packet")) (record (new_rule (codes "HEX")) { range = Some several; required = true })) (flag (codes "long"))

-- `rules [--role ROLE] [--all] [--times] [--statements LIST]`
abbrev pub rules_command : App
rules_command = with_rule (with_rule (with_rule (with_rule (new_app (codes "rules")) (record (new_rule (codes "role")) { long = Some (codes "role") })) (flag (codes "all")))
    (flag (codes "times"))) statements_option

-- an operand of this name that has to be given
abbrev pub required_operand : Text → Rule
required_operand name = record (new_rule name) { required = true }

-- `explain CODE`
abbrev pub explain_command : App
explain_command = with_rule (new_app (codes "explain")) (required_operand (codes "CODE"))

-- `convert [--force] IN OUT`
abbrev pub convert_command : App
convert_command = with_rule (with_rule (with_rule (new_app (codes "convert")) (required_operand (codes "IN"))) (required_operand (codes "OUT"))) (flag (codes "force"))

-- `mqjudge`, which has a version, and whose subcommand is required
abbrev pub mqjudge : App
mqjudge = with_subcommand
    (with_subcommand
    (with_subcommand
    (with_subcommand
    (with_subcommand
    (with_subcommand
    (on_top (λ s. record s { has_version = true; subcommand_required = true }) (new_app (codes "mqjudge")))
    check_command.top)
    show_command.top)
    packet_command.top)
    rules_command.top)
    explain_command.top)
    convert_command.top

-- what a command line asks for: a subcommand, its operand, the form of the report, its other flags, the number after `--around`,
-- which statements are meant without a list, the list of those that are meant, the end that it is for, the file that it makes, and whether one that is there may be emptied
pub record Request : Type 0 where
  pub subcommand : Text
  pub operand : Option Text
  pub form : Form
  pub coverage : Bool
  pub why : Bool
  pub long : Bool
  pub faults : Bool
  pub around : Option Text
  pub scope : Scope
  pub statements : Option Text
  pub role : Option Text
  pub made : Option Text
  pub force : Bool

-- a subcommand on this operand, with nothing else
abbrev pub plain_request : Text → Option Text → Request
plain_request subcommand operand =
    record {
      subcommand = subcommand;
      operand = operand;
      form = forms.Text;
      coverage = false;
      why = false;
      long = false;
      faults = false;
      around = None;
      scope = scopes.Usual;
      statements = None;
      role = None;
      made = None;
      force = false;
    }

-- `check` on this file, with a report in this form, with coverage or without, with what the faults conflict with or without, and by these statements or those of this list
abbrev pub check_request : Option Text → Form → (coverage why : Bool) → Scope → (statements : Option Text) → Request
check_request file form coverage why scope statements =
    record (plain_request (codes "check") file) { form = form; coverage = coverage; why = why; scope = scope; statements = statements }

-- `show` of this file, with these flags and this number, and by these statements
abbrev pub show_request : Option Text → (long faults : Bool) → (around : Option Text) → Scope → Request
show_request file long faults around scope = record (plain_request (codes "show") file) { long = long; faults = faults; around = around; scope = scope }

-- `packet` on these digits, with this flag
abbrev pub digits_request : Text → (long : Bool) → Request
digits_request hex long = record (plain_request (codes "packet") (Some hex)) { long = long }

-- `packet` on the digits in these words, with a space between two, and with this flag; at least one word is required
abbrev pub packet_request : Option (List Text) → (long : Bool) → Request
packet_request words long = digits_request (spaced (unwrap_or words [])) long

-- `rules` for the end that this word names, of these statements or of this list
abbrev pub rules_request : Option Text → Scope → (statements : Option Text) → Request
rules_request role scope statements = record (plain_request (codes "rules") None) { role = role; scope = scope; statements = statements }

-- `explain` of this code or citation; the operand is required
abbrev pub explain_request : Option Text → Request
explain_request code = plain_request (codes "explain") (Some (unwrap_or code []))

-- `convert` of the log that this word names, into this file, with this flag; both operands are required
abbrev pub convert_request : (log made : Option Text) → (force : Bool) → Request
convert_request log made force = record (plain_request (codes "convert") (Some (unwrap_or log []))) { made = Some (unwrap_or made []); force = force }

-- the value of a flag is `true`
abbrev pub is_true : Option Text → Bool
is_true None = false
is_true (Some value) = bytes_eq value (codes "true")

-- the form of the report that matches of `check` ask for: `--json` goes before `--summary`, since JSON has everything
abbrev pub form_in : List Row → Form
form_in rows = if is_true (first_of (codes "json") rows) then forms.Json
    else (if is_true (first_of (codes "summary") rows) then forms.Summary else forms.Text)

-- the statements that matches of `check`, `show` or `rules` ask for: `--times` asks for all, whether `--all` is there or not
abbrev pub scope_in : List Row → Scope
scope_in rows = if is_true (first_of (codes "times") rows) then scopes.Timed
    else (if is_true (first_of (codes "all") rows) then scopes.All else scopes.Usual)

-- further statements are asked for
abbrev pub has_further : Scope → Bool
has_further scopes.Usual = false
has_further scopes.All = true
has_further scopes.Timed = true

-- the request in a subcommand's name and matches
abbrev pub request_in : Text × List Row → Request
request_in met = if bytes_eq met.0 (codes "check") then check_request (first_of (codes "FILE") met.1) (form_in met.1) (is_true (first_of (codes "coverage") met.1))
    (is_true (first_of (codes "why") met.1)) (scope_in met.1) (first_of (codes "LIST") met.1)
    else (if bytes_eq met.0 (codes "show") then show_request (first_of (codes "FILE") met.1) (is_true (first_of (codes "long") met.1))
    (is_true (first_of (codes "faults") met.1)) (first_of (codes "N") met.1) (scope_in met.1)
    else (if bytes_eq met.0 (codes "packet") then packet_request (all_of (codes "HEX") met.1) (is_true (first_of (codes "long") met.1))
    else (if bytes_eq met.0 (codes "rules") then rules_request (first_of (codes "role") met.1) (scope_in met.1) (first_of (codes "LIST") met.1)
    else (if bytes_eq met.0 (codes "explain") then explain_request (first_of (codes "CODE") met.1)
    else convert_request (first_of (codes "IN") met.1) (first_of (codes "OUT") met.1) (is_true (first_of (codes "force") met.1))))))

-- what the words ask for, if they are a command line
abbrev pub request_of : List Text → Option Request
request_of words = option_map request_in (subcommand_of mqjudge words)

-- the kinds of error that the words have as a command line
abbrev pub word_faults : List Text → Kinds
word_faults words = fault_of mqjudge words

-- the request that corresponds to some work
abbrev pub request_by : Work → Request
request_by (Once (Check file form coverage scope statements)) = check_request (option_map string_bytes file) form coverage false scope (option_map string_bytes statements)
request_by (Once (Show file long)) = show_request (option_map string_bytes file) long false None scopes.Usual
request_by (Once (Packet hex long)) = digits_request (string_bytes hex) long
request_by (Once (Rules role scope statements)) = rules_request (option_map string_bytes role) scope (option_map string_bytes statements)
request_by (Once (Explain code)) = explain_request (Some (string_bytes code))
request_by (Again review) = show_request (option_map string_bytes review.file) review.long review.faults (option_map string_bytes review.around) review.scope
request_by (Why inquiry) = check_request (option_map string_bytes inquiry.file) inquiry.form inquiry.coverage true inquiry.scope (option_map string_bytes inquiry.statements)
request_by (Convert conversion) = convert_request (Some (string_bytes conversion.input)) (Some (string_bytes conversion.output)) conversion.force

-- what shows a log and reads it again is asked for by `--faults`, by a number of positions, or by `--all` or `--times`; without them the log is read once
abbrev pub ReadsAsAsked : Work → Type 0
ReadsAsAsked (Once task) = ⊤
ReadsAsAsked (Again review) = (review.faults ≡ true) ⊎ (IsSome review.around ⊎ (has_further review.scope ≡ true))
ReadsAsAsked (Why inquiry) = ⊤
ReadsAsAsked (Convert conversion) = ⊤

-- the kind asks for a text to be shown: help, or the version
abbrev pub IsHelpOrVersion : ErrorKind → Type 0
IsHelpOrVersion kind = (kind ≡ DisplayHelp) ⊎ (kind ≡ DisplayVersion)

-- if words that aren't a command line name many logs, what is said of them ends with where those are judged
abbrev pub TellsOfMany : List Text → EarlyExit → Type 0
TellsOfMany words (Usage text) = names_many_logs words ≡ true → EndsWith (string_bytes text) many_logs_line
TellsOfMany words (Help text) = ⊤
TellsOfMany words Memory = ⊤

-- a misuse that has this text, and then where many logs are judged if they are named; memory may run out
abbrev pub IsUsage : String Global → (many : Bool) → EarlyExit → Type 0
IsUsage text false (Usage told) = string_bytes told ≡ string_bytes text
IsUsage text true (Usage told) = string_bytes told ≡ string_bytes text ++ many_logs_line
IsUsage text many (Help told) = ⊥
IsUsage text many Memory = ⊤

-- one of these kinds gives the stop: help and the version are shown, anything else is misuse, and
-- memory may run out with any words
abbrev pub StopsFor : Kinds → EarlyExit → Type 0
StopsFor kinds (Help text) = Any IsHelpOrVersion kinds
StopsFor kinds (Usage text) = Any (λ kind. ¬ IsHelpOrVersion kind) kinds
StopsFor kinds Memory = ⊤

-- the path that an operand names; without an operand, or with `-`, there is none
abbrev pub path_named : Option Text → Option Text
path_named None = None
path_named (Some operand) = if bytes_eq operand (codes "-") then None else Some operand

-- the path of the log that a task reads: none if it reads standard input, or nothing
abbrev pub path_of : Task → Option Text
path_of (Check file form coverage scope statements) = path_named (option_map string_bytes file)
path_of (Show file long) = path_named (option_map string_bytes file)
path_of (Packet hex long) = None
path_of (Rules role scope statements) = None
path_of (Explain code) = None

-- a task reads its input: a log, or the digits of a packet if the operand is `-`. Others need no input.
abbrev pub reads_input : Task → Bool
reads_input (Check file form coverage scope statements) = true
reads_input (Show file long) = true
reads_input (Packet hex long) = is_dash (string_bytes hex)
reads_input (Rules role scope statements) = false
reads_input (Explain code) = false
