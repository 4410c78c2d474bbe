-- What the book of an exchange keeps of what is owed on the latest connection.
use Rattle.std.specs.Prelude.{ℕ, ◌≡◌, ◌≤◌, ◌*◌, Bool, true, false, cond, List, [], length, Option, Some, None, option_map, is_some}
use Rattle.std.specs.Option.{option_or}
use Rattle.mq_log.specs.declared.place.Place3.{Place3}
use Rattle.mq_rules.specs.declared.role.Tested.{Tested}
use Rattle.mq_rules.specs.declared.fate.Fate.{Fate}
use Rattle.mq_rules.specs.declared.rule.Rule.{Rule}
use Rattle.mq_rules.specs.declared.note.Note.{Note}
use Rattle.mq_rules.specs.declared.note.Seen.{Seen}
use Rattle.mq_rules.specs.Words.{is_id, is_some_and}
use Rattle.mq_rules.specs.Notes.{is_open}
use Rattle.mq_rules.specs.Moments.{Moment, some, earliest_since}
use Rattle.mq_rules.specs.Connections.{connection, accepts, accepted, ends_binding, session}
use Rattle.mq_rules.specs.Exchanges.{Exchange, causes, answers}
use Rattle.mq_rules.specs.Rules.{binds}
use Rattle.mq_rules.specs.Occasions.{places, waiting}
use Rattle.mq_exchanges.specs.declared.ordering.Debt.{Debt}
use Rattle.mq_exchanges.specs.Orderings.{IsQueue}
use Rattle.mq_exchanges.specs.Burden.{caused_ids}

-- the first cause of i on the latest connection without an answer since
abbrev pub due_of : Exchange → ℕ → List Seen → Option Moment
due_of x i past = earliest_since (causes x i) (answers x i) (connection past)

abbrev pub place_of : Option Moment → Option Place3
place_of o = option_map (λ m. m.event.place) o

-- what is due after an event, which is an OPEN or not
abbrev pub due_by : Bool → Option ℕ → Option ℕ → Place3 → ℕ → Option Place3 → Option Place3
due_by opens cause answer at i old = option_or (cond (is_id i answer) None (cond opens None old)) (cond (is_id i cause) (Some at) None)

abbrev pub due_next : Note → Option ℕ → Option ℕ → Place3 → ℕ → Option Place3 → Option Place3
due_next n cause answer at i old = due_by (is_open n) cause answer at i old

-- These events lead to what is kept. What is due is known where the connection is accepted.
pub record IsOwed (x : Exchange) (fate : Fate) (ended : Bool) (due : ℕ → Option Place3) (tested : Tested) (taken : Option Fate) (past : List Seen) : Type 0 where
  pub same_fate : taken ≡ Some fate
  pub is_ended : ended ≡ some ends_binding (connection past)
  pub due_are : accepts fate ≡ true → (i : ℕ) → due i ≡ place_of (due_of x i past)

-- What the book keeps is right: whether its statements are judged, what is due, and the queue where there is a statement on the order. What is due has a cause in
-- the session, and the queue is at most twice as long as there are identifiers with such a cause.
pub record IsOwing (x : Exchange) (settled : Rule) (ordered : Option Rule) (binding order_binding : Bool) (fate : Fate) (ended : Bool) (due : ℕ → Option Place3) (queue : List Debt) (tested : Tested) (taken : Option Fate) (past : List Seen) : Type 0 where
  pub binds_are : binding ≡ binds settled tested
  pub order_binds_are : order_binding ≡ is_some_and (λ rule. binds rule tested) ordered
  pub owed : IsOwed x fate ended due tested taken past
  pub queued : is_some ordered ≡ true → accepts fate ≡ true → IsQueue due queue (length past)
  pub unordered : is_some ordered ≡ false → queue ≡ []
  pub due_caused : (i : ℕ) → is_some (due i) ≡ true → some (causes x i) (session tested.role taken past) ≡ true
  pub queue_within : length queue ≤ 2 * caused_ids x tested.role taken past

-- These events lead to the counts: how often a REST put the statement to the test, and how many first causes on the connection wait for one. What waits is known
-- where the statement is judged and the connection accepted.
pub record IsSettling (x : Exchange) (settled : Rule) (pending number : ℕ) (tested : Tested) (taken : Option Fate) (past : List Seen) : Type 0 where
  pub places_are : number ≡ places tested past settled
  pub waiting_are : binds settled tested ≡ true → accepted taken ≡ true → pending ≡ waiting tested settled x past
