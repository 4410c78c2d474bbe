-- How many messages of QoS 2 a server has received and not finished, counted event by event (further statements).
use Rattle.std.specs.Prelude.{ℕ, ◌-◌, ◌==◌, nat_eq, Bool, ◌&&◌, not, cond, List, ◌∷◌, Option, Some, None}
use Rattle.std.specs.List.{filter}
use Rattle.std.specs.Set.{distinct_count}
use Rattle.mq_rules.specs.declared.note.Note.{Note}
use Rattle.mq_rules.specs.declared.note.Seen.{Seen}
use Rattle.mq_rules.specs.Words.{is_id, is_some_and}
use Rattle.mq_rules.specs.Notes.{received_exactly_once}
use Rattle.mq_rules.specs.Moments.{Moment, newest, note, some}
use Rattle.mq_rules.specs.Connections.{connection}
use Rattle.mq_rules.specs.ReceiveMaximum.{identifiers_among}

-- the latest connection of these events, with this one
abbrev pub with_event : Seen → List Seen → List Moment
with_event e past = newest e past ∷ connection past

-- how many different Packet Identifiers of PUBLISHes of QoS 2 that are received among these moments pass the test
abbrev pub different : (ℕ → Bool) → List Moment → ℕ
different test ms = distinct_count nat_eq (filter test (identifiers_among ms))

-- with the event one more is counted: it receives such a PUBLISH, whose identifier passes the test, and none of the moments before it receives one under that identifier
abbrev pub counts_one : (ℕ → Bool) → List Moment → Note → Bool
counts_one test ms n = is_some_and (λ i. test i && not (some (λ j. is_id i (received_exactly_once (note j))) ms)) (received_exactly_once n)

-- what is left of the room for messages, if there is any for one more that is counted
abbrev pub room_after : ℕ → Bool → Option ℕ
room_after room counts = cond counts (cond (room == 0) None (Some (room - 1))) (Some room)
