-- What is kept of what is counted on a connection.
use Rattle.std.specs.Prelude.{ℕ, ◌≡◌, ◌+◌, ◌-◌, Bool, true, cond, List, is_some, option_map}
use Rattle.mq_rules.specs.declared.role.Role.{Role}
use Rattle.mq_rules.specs.declared.role.Role.TheVariants.{Client, Server}
use Rattle.mq_rules.specs.declared.note.Note.{Note}
use Rattle.mq_rules.specs.declared.note.Seen.{Seen}
use Rattle.mq_rules.specs.Notes.{is_open, delivery_of, closer_of, is_received_pingreq, is_sent_pingresp}
use Rattle.mq_rules.specs.Moments.{Moment, position, note, latest, count, those}
use Rattle.mq_rules.specs.Connections.{connection, first_connack}
use Rattle.mq_rules.specs.Identifiers.{counts}
use Rattle.mq_rules.specs.Counter.{in_flight}
use Rattle.mq_rules.specs.declared.evidence.Evidence.{Evidence}
use Rattle.mq_rules.specs.declared.evidence.Numbers.TheVariants.{Two}
use Rattle.mq_evidence.specs.declared.counters.Counters.{Counters}
use Rattle.mq_evidence.specs.Evidence.{it_with}

-- a PINGREQ that is received, and a PINGRESP that is sent
abbrev pub asks_ping : Moment → Bool
asks_ping m = is_received_pingreq (note m)

abbrev pub answers_ping : Moment → Bool
answers_ping m = is_sent_pingresp (note m)

-- E7R, by what came on the connection
abbrev pub pings_evidence : List Moment → Evidence
pings_evidence ms = it_with (latest asks_ping ms) (Two (count asks_ping ms) (count answers_ping ms))

-- whether the next event counts, where the server's CONNACK came or not
abbrev pub counted_by : Role → Bool → Bool
counted_by Client greeted = greeted
counted_by Server greeted = true

-- how many there are after an event
abbrev pub counted : Bool → Bool → ℕ → ℕ
counted passes opens old = cond passes 1 0 + cond opens 0 old

-- how many are in flight after an event
abbrev pub flown : Bool → Note → ℕ → ℕ
flown counts n old = cond (is_open n) 0 (cond counts (cond (is_some (delivery_of n)) (old + 1) (cond (is_some (closer_of n)) (old - 1) old)) old)

-- These events lead to what is kept, where the tested end has this role.
pub record IsCounters (c : Counters) (role : Role) (past : List Seen) : Type 0 where
  pub same_role : c.role ≡ role
  pub greeted_is : c.greeted ≡ is_some (first_connack role (connection past))
  pub flying : c.in_flight ≡ in_flight (those (counts role) (connection past))
  pub asked : c.pingreqs ≡ count asks_ping (connection past)
  pub asked_at : c.pingreq_at ≡ option_map position (latest asks_ping (connection past))
  pub answered : c.pingresps ≡ count answers_ping (connection past)
