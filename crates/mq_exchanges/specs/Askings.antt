-- What is kept of the causes of a session, and of their answers on the latest connection.
use Rattle.std.specs.Prelude.{ℕ, ◌≡◌, ◌<◌, ◌≤◌, ◌+◌, ◌==◌, nat_lt, Bool, false, ◌&&◌, not, cond, List, length, Option, Some, None, option_map, is_some}
use Rattle.mq_rules.specs.declared.role.Role.{Role}
use Rattle.mq_rules.specs.declared.role.Tested.{Tested}
use Rattle.mq_rules.specs.declared.fate.Fate.{Fate}
use Rattle.mq_rules.specs.declared.note.Note.{Note}
use Rattle.mq_rules.specs.declared.note.Seen.{Seen}
use Rattle.mq_rules.specs.Words.{is_some_and, is_id}
use Rattle.mq_rules.specs.Notes.{is_open}
use Rattle.mq_rules.specs.Connections.{number, begun, accepts, begins}
use Rattle.mq_rules.specs.Folds.{session_since}
use Rattle.mq_rules.specs.Exchanges.{Exchange, causes, answers}

-- the session has a cause under i; it has one without an answer on the latest connection since
abbrev pub caused : Role → Exchange → ℕ → Option Fate → List Seen → Bool
caused role x i taken past = session_since role (causes x i) (λ j. false) taken past

abbrev pub owed : Role → Exchange → ℕ → Option Fate → List Seen → Bool
owed role x i taken past = session_since role (causes x i) (λ j. answers x i j && (number j == begun past)) taken past

-- a position before the latest OPEN, if there is one
abbrev pub is_before : ℕ → Option ℕ → Bool
is_before opened stamp = is_some_and (λ s. nat_lt s opened) stamp

-- The position of the latest answer since the latest cause, after an event at a position, which is an OPEN or not: 0 with a cause, and none while no cause is in the session.
abbrev pub answered_by : Fate → Bool → Option ℕ → Option ℕ → ℕ → ℕ → Option ℕ → Option ℕ
answered_by f opens cause answer at i old =
    cond opens (cond (begins (Some f)) None old) (cond (accepts f) (cond (is_id i cause) (Some 0) (cond (is_id i answer) (option_map (λ s. at) old) old)) old)

abbrev pub answered_next : Fate → Note → Option ℕ → Option ℕ → ℕ → ℕ → Option ℕ → Option ℕ
answered_next f n cause answer at i old = answered_by f (is_open n) cause answer at i old

-- an answer, of which no cause is owed
abbrev pub is_unasked : Fate → ℕ → Option ℕ → (ℕ → Option ℕ) → Bool
is_unasked f opened answer answered = accepts f && is_some_and (λ i. not (is_before opened (answered i))) answer

-- These events lead to what is kept.
pub record IsAsked (x : Exchange) (fate : Fate) (opened : ℕ) (answered : ℕ → Option ℕ) (tested : Tested) (taken : Option Fate) (past : List Seen) : Type 0 where
  pub same_fate : taken ≡ Some fate
  pub counted : 0 < opened
  pub opened_within : opened ≤ length past + 1
  pub answered_within : (i s : ℕ) → answered i ≡ Some s → s ≤ length past
  pub caused_are : (i : ℕ) → is_some (answered i) ≡ caused tested.role x i taken past
  pub owed_are : (i : ℕ) → is_before opened (answered i) ≡ owed tested.role x i taken past
