-- Unanswered causes on a connection, found by looking back.
use Rattle.std.specs.Prelude.{ℕ, ◌==◌, Bool, true, cond, ◌&&◌, not, List, length, Option, Some, option_map}
use Rattle.mq_rules.specs.declared.note.Note.{Note}
use Rattle.mq_rules.specs.declared.note.Seen.{Seen}
use Rattle.mq_rules.specs.Words.{is_some_and, is_id}
use Rattle.mq_rules.specs.Moments.{note, earliest_since, some, since, is_same, is_after}
use Rattle.mq_rules.specs.Connections.{connection}
use Rattle.mq_rules.specs.Exchanges.{Exchange, causes, answers}
use Rattle.mq_plain.specs.declared.exchanges.slot.Slot.{Slot}
use Rattle.mq_plain.specs.Tables.{at}

-- how many events come before the first unanswered cause under the identifier, on the latest connection of these events
abbrev pub first_index : Exchange → ℕ → List Seen → Option ℕ
first_index x i past = option_map (λ m. length m.past) (earliest_since (causes x i) (answers x i) (connection past))

-- what is known of an identifier, with an earlier event that is a cause under it, or an answer
abbrev pub asking_at : Bool → ℕ → Slot → Slot
asking_at asks index slot = cond asks (cond slot.is_answered slot (record { is_answered = slot.is_answered; first = Some index })) slot

abbrev pub answered : Bool → Slot → Slot
answered answers slot = cond answers (record { is_answered = true; first = slot.first }) slot

-- the event is a cause, and the first unanswered one under its identifier is at this index
abbrev pub is_first_in : Exchange → Slot × List Slot → ℕ → Note → Bool
is_first_in x slots index note = is_some_and (λ i. is_id index (at slots i).first) (x.cause note)

-- Another identifier has an unanswered cause before the first one under this identifier.
abbrev pub passes_over : Exchange → ℕ → List Seen → Bool
passes_over x i past = is_some_and (λ first. some (λ j. is_some_and (λ other. not (other == i) && since (is_same j) (answers x other) (connection past)) (x.cause (note j)) && is_after first j) (connection past))
    (earliest_since (causes x i) (answers x i) (connection past))
