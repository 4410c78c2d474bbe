-- Events of an undecided connection that are held back. They stand with the newest one first, on top of the events before that connection.
use Rattle.std.specs.Prelude.{ℕ, ◌≡◌, ◌+◌, Bool, false, ◌&&◌, ◌||◌, cond, List, [], ◌∷◌, ◌++◌, length, Option, Some, None, is_some, ◌<◌, ◌≤◌, true, reverse}
use Rattle.std.specs.List.{sum_by}
use Rattle.mq_rules.specs.declared.role.Tested.{Tested}
use Rattle.mq_rules.specs.declared.fate.Fate.{Fate}
use Rattle.mq_rules.specs.declared.note.Note.{Note}
use Rattle.mq_rules.specs.declared.note.Seen.{Seen}
use Rattle.mq_rules.specs.declared.packet_note.PacketFields.{PacketFields}
use Rattle.mq_rules.specs.declared.packet_note.PacketFields.TheVariants.{Subscribe, Suback, Unsubscribe, Unsuback}
use Rattle.mq_rules.specs.Notes.{is_open, received_fields, sent_fields}
use Rattle.mq_rules.specs.Moments.{Moment, note, moment, IsPlaced}
use Rattle.mq_rules.specs.Connections.{number, fate, latest_fate, connection, AreOnConnections}
use Rattle.mq_rules.specs.declared.role.Role.{Role}
use Rattle.mq_rules.specs.declared.history.History.{History}
use Rattle.mq_rules.specs.declared.rule.Rule.{Rule}
use Rattle.mq_rules.specs.Histories.{history}
use Rattle.mq_rules.specs.Steps.{turns}
use Rattle.mq_rules.specs.Under.{is_on_session, turns_with, IsInTurn, Follows}

-- the sum of a number over these moments; the number of what is there
abbrev pub total : (Moment → ℕ) → List Moment → ℕ
total number [] = 0
total number (m ∷ ms) = number m + total number ms

abbrev pub is_nothing : List Seen → Bool
is_nothing [] = true
is_nothing (e ∷ hs) = false

-- These are the events of an undecided connection from its OPEN on, after those.
abbrev pub AreHeld : Role → List Seen → List Seen → Type 0
AreHeld role [] base = Unit {0}
AreHeld role (e ∷ hs) base = (is_open e.note ≡ is_nothing hs) × (latest_fate role (e ∷ (hs ++ base)) ≡ None) × AreHeld role hs base

-- They can be handed on.
pub record CanHand (tested : Tested) (at : ℕ) (hs base : List Seen) : Type 0 where
  pub later : length (hs ++ base) < at
  pub are_held : AreHeld tested.role hs base
  pub placed : IsPlaced (hs ++ base)
  pub in_turn : IsInTurn tested.role (hs ++ base)
  pub on_connections : AreOnConnections (hs ++ base)

-- the fate that the latest connection is taken to have, once these were handed on with this fate
abbrev pub fate_after : Tested → Fate → List Seen → List Seen → Option Fate
fate_after tested f hs base = cond (is_nothing hs) (latest_fate tested.role base) (Some f)

-- with these events the pair turns out to fail, where their connection has this fate
abbrev pub turns_held : Tested → Fate → List Seen → List Seen → ℕ → Rule → Bool
turns_held tested f [] base k r = false
turns_held tested f (e ∷ hs) base k r = turns_held tested f hs base k r || turns_with tested f e (hs ++ base) k r

-- with this event a pair of a statement on sessions turns out to fail
abbrev pub turns_session : Tested → Seen → List Seen → ℕ → Rule → Bool
turns_session tested e past k r = is_on_session tested r && turns tested e past k r

-- the events before the latest connection, if that is undecided
abbrev pub settled : Role → List Seen → List Seen
settled role [] = []
settled role (e ∷ past) = cond (is_some (latest_fate role (e ∷ past))) (e ∷ past) (settled role past)

-- These events lead to what is kept: the watcher has been told those up to the undecided connection, and the others are held.
pub record Holds (agrees : Option Fate → List Seen → Type 0) (role : Role) (fate : Option Fate) (kept : History) (held : List Seen) (tested : Tested) (past : List Seen) : Type 0 where
  pub same_role : role ≡ tested.role
  pub same_history : kept ≡ history tested.role past
  pub same_fate : fate ≡ latest_fate tested.role past
  pub known : is_some (latest_fate tested.role (settled tested.role past)) ≡ true
  pub joined : past ≡ reverse held ++ settled tested.role past
  pub are_held : AreHeld tested.role (reverse held) (settled tested.role past)
  pub so_far : agrees (latest_fate tested.role (settled tested.role past)) (settled tested.role past)

-- The position is one of the events before the latest connection, if that is undecided. Those events alone show its moment, and the fate of its connection.
pub record IsSettled (tested : Tested) (past : List Seen) (k : ℕ) : Type 0 where
  pub within : k ≤ length (settled tested.role past)
  pub same_moment : moment past k ≡ moment (settled tested.role past) k
  pub same_fate : (m : Moment) → moment past k ≡ Some m → fate tested.role (number m) past ≡ fate tested.role (number m) (settled tested.role past)

-- They can be handed on, and then the event that follows them, with their connection's fate.
pub record CanPass (tested : Tested) (f : Fate) (e : Seen) (hs base : List Seen) : Type 0 where
  pub hand : CanHand tested e.place.position hs base
  pub known : is_some (latest_fate tested.role base) ≡ true
  pub follows : Follows tested e (hs ++ base)
  pub decided : latest_fate tested.role (e ∷ (hs ++ base)) ≡ Some f

-- a number of what is there, and 0 if nothing is
abbrev pub number_in : {A : Type 0} → (A → ℕ) → Option A → ℕ
number_in number None = 0
number_in number (Some a) = number a

-- how many filters the note of a SUBSCRIBE or an UNSUBSCRIBE has, and how many Reason Codes that of a SUBACK or an UNSUBACK
abbrev pub filters_of : PacketFields → ℕ
filters_of (Subscribe identifier filters wishes) = length filters
filters_of (Unsubscribe identifier filters) = length filters
filters_of _ = 0

abbrev pub codes_of : PacketFields → ℕ
codes_of (Suback identifier codes) = length codes
codes_of (Unsuback identifier codes) = length codes
codes_of _ = 0

-- how much an event counts that is held: itself, and the filters of a request that is received, or the Reason Codes of an answer to one that is sent
abbrev pub event_size : Note → ℕ
event_size n = 1 + (number_in filters_of (received_fields n) + number_in codes_of (sent_fields n))

-- how many events of the latest connection wait for its fate, with the filters and Reason Codes that they carry
unfoldable pub waiting : Role → List Seen → ℕ
waiting role past = cond (is_some (latest_fate role past)) 0 (total (λ m. event_size (note m)) (connection past))

-- events that are held: each, with its filters and Reason Codes
abbrev pub held_weigh : List Seen → ℕ
held_weigh held = sum_by (λ e. event_size e.note) held
