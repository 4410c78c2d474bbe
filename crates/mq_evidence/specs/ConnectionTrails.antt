-- What a second reading keeps to find the evidence of the statements that are judged by the past of a connection.
use Rattle.std.specs.Prelude.{ℕ, ◌≡◌, ◌≤◌, Bool, true, false, List, [], length, Option, Some, None, is_some, unwrap_or, option_map}
use Rattle.mq_rules.specs.declared.role.Role.{Role}
use Rattle.mq_rules.specs.declared.role.Role.TheVariants.{Client, Server}
use Rattle.mq_rules.specs.declared.role.Tested.{Tested}
use Rattle.mq_rules.specs.declared.rule.Rule.{Rule}
use Rattle.mq_rules.specs.declared.rule.Rule.TheVariants.{C03, C06, C07, C08, C10, C11, C12, C13, C14, C15, C16, C17, C20, C21, C22, C23, F01, F02, F03, F04, F05, F06, A01, A02, A03, K01, K02}
use Rattle.mq_rules.specs.declared.note.Note.{Note}
use Rattle.mq_rules.specs.declared.note.Seen.{Seen}
use Rattle.mq_rules.specs.FaultKeys.{FaultMap, fault_at}
use Rattle.mq_rules.specs.Notes.{is_open}
use Rattle.mq_rules.specs.Moments.{moment}
use Rattle.mq_rules.specs.Connections.{connection}
use Rattle.mq_rules.specs.declared.evidence.Evidence.{Evidence}
use Rattle.mq_rules.specs.Evidence.{nothing}
use Rattle.mq_evidence.specs.declared.turn.Turn.{Turn}
use Rattle.mq_evidence.specs.declared.connection_trail.ConnectionTrail.{ConnectionTrail}
use Rattle.mq_evidence.specs.declared.connection_explaining.ConnectionExplaining.{ConnectionExplaining}
use Rattle.mq_evidence.specs.Evidence.{found, reason}
use Rattle.mq_evidence.specs.Findings.{found_at}
use Rattle.mq_evidence.specs.Trailing.{IsNext}
use Rattle.mq_evidence.specs.Stretches.{Stretches}
use Rattle.mq_evidence.specs.Handshakes.{IsHandshake}
use Rattle.mq_evidence.specs.Accepted.{IsAccepted}
use Rattle.mq_evidence.specs.Hearing.{IsHearing}

-- ---- the statements

-- those that bind a client, and are explained by the past of a connection
abbrev pub is_of_client : Rule → Bool
is_of_client C03 = true
is_of_client C11 = true
is_of_client C13 = true
is_of_client C14 = true
is_of_client C15 = true
is_of_client C16 = true
is_of_client C17 = true
is_of_client C20 = true
is_of_client C23 = true
is_of_client F01 = true
is_of_client F02 = true
is_of_client F03 = true
is_of_client F04 = true
is_of_client A01 = true
is_of_client A02 = true
is_of_client A03 = true
is_of_client K01 = true
is_of_client _ = false

-- those that bind a server
abbrev pub is_of_server : Rule → Bool
is_of_server C06 = true
is_of_server C07 = true
is_of_server C08 = true
is_of_server C10 = true
is_of_server C11 = true
is_of_server C12 = true
is_of_server C14 = true
is_of_server C15 = true
is_of_server C16 = true
is_of_server C21 = true
is_of_server C22 = true
is_of_server C23 = true
is_of_server F05 = true
is_of_server F06 = true
is_of_server A02 = true
is_of_server A03 = true
is_of_server K02 = true
is_of_server _ = false

abbrev pub is_on_connection : Role → Rule → Bool
is_on_connection Client rule = is_of_client rule
is_on_connection Server rule = is_of_server rule

-- ---- what is kept

-- the stretches of the latest connection alone
abbrev pub latest_connection : List Seen → Stretches
latest_connection past = record { earlier = []; session = []; connection = connection past }

-- how an event turns them
abbrev pub connection_turn : ℕ → Note → Turn
connection_turn position n = record { position = position; begins = false; inside = false; opens = is_open n }

-- These events, the newest first, lead to what is kept.
pub record IsConnectionTrail (t : ConnectionTrail) (tested : Tested) (past : List Seen) : Type 0 where
  pub same_role : t.role ≡ tested.role
  pub handshake_is : IsHandshake t.handshake tested.role (latest_connection past)
  pub accepted_is : IsAccepted t.accepted tested.role past
  pub hearing_is : IsHearing t.hearing tested.role past

-- ---- what was found

-- The evidence that a statement has at position k, by the past of its connection.
abbrev pub connection_evidence : Tested → List Seen → ℕ → Rule → Evidence
connection_evidence tested log k rule = unwrap_or (option_map (λ m. found (reason tested.role rule) None None m) (moment log k)) nothing

-- What was found is the evidence of each of these faults that is at one of these events.
abbrev pub IsConnectionExplained : FaultMap → (ℕ → Rule → Option Evidence) → Tested → List Seen → Type 0
IsConnectionExplained wanted found tested past = (k : ℕ) (rule : Rule) → 1 ≤ k → k ≤ length past → is_on_connection tested.role rule ≡ true → is_some (fault_at wanted k rule) ≡ true
    → found k rule ≡ Some (connection_evidence tested past k rule)

-- These events lead to what is kept, and to what was found.
pub record IsConnectionExplaining (x : ConnectionExplaining) (tested : Tested) (past : List Seen) : Type 0 where
  pub trail_is : IsConnectionTrail x.trail tested past
  pub next_is : IsNext x.wanted x.next (length past)
  pub explained : IsConnectionExplained x.wanted (found_at x.findings) tested past
