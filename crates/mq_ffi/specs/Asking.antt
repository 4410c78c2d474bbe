-- Asking for one fault of those that are known.
use Rattle.std.specs.Prelude.{◌≡◌, ◌≤◌, ◌*◌, ℕ, zero, suc, nat_le, Bool, true, List, [], ◌∷◌, length, Option, Some, None, is_some, if◌then◌else◌}
use Rattle.std.specs.List.{filter, find}
use Rattle.std.specs.Option.{unwrap_or}
use Rattle.std.specs.FinMap as map
use Rattle.mq_rules.specs.declared.rule.Rule.{Rule}
use Rattle.mq_rules.specs.declared.role.Role.{Role}
use Rattle.mq_rules.specs.declared.role.Role.TheVariants as roles
use Rattle.mq_rules.specs.declared.fault.Fault.{Fault}
use Rattle.mq_rules.specs.declared.faults.FaultKey.{FaultKey}
use Rattle.mq_rules.specs.FaultKeys.{FaultMap, faults_at}
use Rattle.mq_rules.specs.Rules.{all_rules}
use Rattle.mq_choice.specs.declared.choice.Choice.{Choice}
use Rattle.mq_choice.specs.Choices.{in_choice, is_listed}
use Rattle.mq_rules.specs.Weights.{in_word}
use Rattle.mq_rules.specs.Notes.{seen_in}
use Rattle.mq_watchers.specs.Burden.{burden}
use Rattle.mq_judge.specs.Judging.{Knows, Follows, AreFaultsOf}
use Rattle.mq_judge.specs.Watching.{watchers_weigh}
use Rattle.mq_ffi.specs.declared.asking.Which.{Which}
use Rattle.mq_ffi.specs.declared.asking.Which.TheVariants as which
use Rattle.mq_ffi.specs.declared.fault.FaultRow.{FaultRow}
use Rattle.mq_ffi.specs.declared.live.Live.{Live}

-- the element at an index, if there are so many
abbrev pub nth : {A : Type 0} → List A → ℕ → Option A
nth [] n = None
nth (x ∷ xs) zero = Some x
nth (x ∷ xs) (suc n) = nth xs n

-- the statement with this number, in the order of reports, counted from 0
abbrev pub statement_at : ℕ → Option Rule
statement_at = nth all_rules

-- a statement, if it is chosen
abbrev pub if_chosen : Choice → Option Rule → Option Rule
if_chosen choice None = None
if_chosen choice (Some rule) = if in_choice choice rule then Some rule else None

-- the statement with this number, if it is chosen
abbrev pub chosen_at : Choice → ℕ → Option Rule
chosen_at choice number = if_chosen choice (statement_at number)

-- the end with this number
abbrev pub role_at : ℕ → Option Role
role_at zero = Some roles.Client
role_at (suc zero) = Some roles.Server
role_at _ = None

-- a fault with its key
abbrev pub Found : Type 0
Found = FaultKey × Fault

-- A choice leaves the faults of this statement. Without a list it leaves all, since no statements are judged then that aren't chosen.
abbrev pub leaves : Choice → Rule → Bool
leaves choice rule = if is_listed choice then in_choice choice rule else true

-- the faults that a choice leaves
abbrev pub left_by : Choice → List Found → List Found
left_by choice faults = filter (λ found. leaves choice found.0.rule) faults

-- This is what C reads of a fault.
pub record IsRow (row : FaultRow) (found : Found) : Type 0 where
  pub position : row.position ≡ found.0.position
  pub statement : statement_at row.statement ≡ Some found.0.rule
  pub decided : row.decided ≡ found.1.decided
  pub number : row.record ≡ found.1.record_no
  pub has_offset : row.has_offset ≡ (if is_some found.1.offset then 1 else 0)
  pub offset : row.offset ≡ unwrap_or found.1.offset 0

-- the first fault at this position or after it
abbrev pub first_fault_from : ℕ → List Found → Option Found
first_fault_from position faults = find (λ found. nat_le position found.0.position) faults

-- the row of this fault, or none
abbrev pub IsRowOf : Option Found → Option FaultRow → Type 0
IsRowOf None None = Unit {0}
IsRowOf (Some found) (Some row) = IsRow row found
IsRowOf _ _ = ⊥

-- The caller's row is this fault's; or there is none, and the row is as it was.
abbrev pub ShowsRow : Option Found → FaultRow → FaultRow → ℕ → Type 0
ShowsRow (Some found) before after code = (code ≡ 0) × IsRow after found
ShowsRow None before after code = (code ≡ 9) × (after ≡ before)

-- the same of a row that was found
abbrev pub ShowsFound : Option FaultRow → FaultRow → FaultRow → ℕ → Type 0
ShowsFound (Some row) before after code = (code ≡ 0) × (after ≡ row)
ShowsFound None before after code = (code ≡ 9) × (after ≡ before)

-- the fault that is asked for, among these in the order of reports
abbrev pub fault_asked : Which → List Found → Option Found
fault_asked (which.At index) faults = nth faults index
fault_asked (which.Beside position index) faults = nth (faults_at position faults) index
fault_asked (which.From position) faults = first_fault_from position faults

-- A call that asks changes nothing. It asks for one of the faults of all that was taken in, of those that are of chosen statements.
pub record AsksFault (asked : List Found → Option Found) (before after : FaultRow) (old new : Live) (code : ℕ) : Type 0 where
  pub same : new ≡ old
  pub faults : FaultMap
  pub known : (taken : List ℕ) → Knows old.judge taken → AreFaultsOf old.judge.further taken faults
  pub shown : ShowsRow (asked (left_by old.choice (map.entries faults))) before after code

-- It counts them.
pub record CountsFaults (after : ℕ) (old new : Live) (code : ℕ) : Type 0 where
  pub same : new ≡ old
  pub answer : code ≡ 0
  pub faults : FaultMap
  pub known : (taken : List ℕ) → Knows old.judge taken → AreFaultsOf old.judge.further taken faults
  pub counted : after ≡ length (left_by old.choice (map.entries faults))

-- It weighs exactly what the judge keeps, which is bounded by what is open in the log.
pub record Weighs (after : ℕ) (old new : Live) (code : ℕ) : Type 0 where
  pub same : new ≡ old
  pub answer : code ≡ 0
  pub exact : after ≡ in_word (watchers_weigh old.judge.judging.watching)
  pub bounded : (log : List ℕ) → Follows old.judge log → after ≤ 4 * burden old.judge.judging.watching.tested (seen_in log)
