-- What is left of the send quota, going back event by event (MQTT 5.0, section 4.9).
use Rattle.std.specs.Prelude.{ℕ, ◌+◌, ◌-◌, cond, List, is_some}
use Rattle.mq_rules.specs.declared.role.Role.{Role}
use Rattle.mq_rules.specs.declared.note.Note.{Note}
use Rattle.mq_rules.specs.declared.note.Seen.{Seen}
use Rattle.mq_rules.specs.Notes.{delivery_of, closer_of}
use Rattle.mq_rules.specs.Moments.{Moment, those}
use Rattle.mq_rules.specs.Connections.{connection}
use Rattle.mq_rules.specs.Identifiers.{counts}

-- the moments of the latest connection that count
abbrev pub counted : Role → List Seen → List Moment
counted role past = those (counts role) (connection past)

-- the room for PUBLISHes that an event leaves to the events before it: a PUBLISH takes one, and a closer gives one back
abbrev pub room_back : Note → ℕ → ℕ
room_back n room = cond (is_some (delivery_of n)) (room - 1) (cond (is_some (closer_of n)) (room + 1) room)
