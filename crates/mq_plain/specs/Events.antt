-- One event of a log as the evaluators see it: where it is, and whether it is quiet.
use Rattle.std.specs.Prelude.{◌≡◌, ℕ, Bool, true, false, ◌&&◌, ◌||◌, not, List, ◌∷◌}
use Rattle.mq_rules.specs.declared.role.Role.{Role}
use Rattle.mq_rules.specs.declared.role.Role.TheVariants.{Client, Server}
use Rattle.mq_rules.specs.declared.role.Tested.{Tested}
use Rattle.mq_rules.specs.declared.fate.Fate.{Fate}
use Rattle.mq_rules.specs.declared.rule.Rule.{Rule}
use Rattle.mq_rules.specs.declared.note.Note.{Note}
use Rattle.mq_rules.specs.declared.note.Seen.{Seen}
use Rattle.mq_rules.specs.declared.packet_note.PacketFields.{PacketFields}
use Rattle.mq_rules.specs.Words.{is_some_and}
use Rattle.mq_rules.specs.Notes.{is_rest, is_release, sent_fields, received_fields, publish_in, is_acknowledged, is_session_packet, is_pingreq}
use Rattle.mq_rules.specs.Moments.{newest, note, moments, some, IsPlaced}
use Rattle.mq_rules.specs.Connections.{is_binding}
use Rattle.mq_rules.specs.Under.{turns_with}
use Rattle.mq_plain.specs.declared.turn.Turn.{Turn}

-- The event comes after these in a log whose events are placed, and the turn says whether it is a REST that binds.
pub record ComesNext (turn : Turn) (e : Seen) (past : List Seen) : Type 0 where
  pub is_placed : IsPlaced (e ∷ past)
  pub is_resting : turn.rests ≡ is_binding turn.tested.role (newest e past)

abbrev pub is_client : Role → Bool
is_client Client = true
is_client Server = false

-- a packet that needs a session, other than a client's PUBLISH of QoS 0
abbrev pub is_spoken_of : Role → PacketFields → Bool
is_spoken_of role fields = is_session_packet fields && not (is_some_and (λ p. is_client role && not (is_acknowledged p.qos)) (publish_in fields))

-- A quiet event is neither a REST nor a RELEASE nor such a packet that the tested end sends: with it no statement on a session turns out false, since each is
-- judged at what is sent in a session, at a RELEASE or at a REST, and of PUBLISHes of QoS 0 only at a server's (MQTT 5.0, sections 4.1 and 4.3).
abbrev pub is_quiet : Role → Note → Bool
is_quiet role note = not (is_rest note) && (not (is_release note) && not (is_some_and (is_spoken_of role) (sent_fields note)))

-- A packet of which a REST may show that it has no answer, or wasn't sent again: a PINGREQ, or one that needs a session, other than a PUBLISH of QoS 0 (MQTT 5.0,
-- sections 3.12.4, 4.3 and 4.4).
abbrev pub is_asking : PacketFields → Bool
is_asking fields = is_pingreq fields || (is_session_packet fields && not (is_some_and (λ p. not (is_acknowledged p.qos)) (publish_in fields)))

-- the event is such a packet, sent or received
abbrev pub asks : Note → Bool
asks n = is_some_and is_asking (sent_fields n) || is_some_and is_asking (received_fields n)

-- some event of the log is one
abbrev pub some_asks : List Seen → Bool
some_asks log = some (λ m. asks (note m)) (moments log)

-- a PUBLISH of QoS 0
abbrev pub is_unacknowledged : PacketFields → Bool
is_unacknowledged fields = is_some_and (λ p. not (is_acknowledged p.qos)) (publish_in fields)

-- A PUBLISH of QoS 0 that a client sends, or that is received: it is quiet, asks nothing, and decides nothing.
abbrev pub is_idle : Role → Note → Bool
is_idle role n = is_some_and (λ fields. is_client role && is_unacknowledged fields) (sent_fields n) || is_some_and is_unacknowledged (received_fields n)

-- None of these statements turns out false with a quiet event, nor with a REST before which no event asks, whatever the fate of its connection.
pub record AreSilent (chosen : Rule → Bool) : Type 0 where
  pub quiet : (tested : Tested) (f : Fate) (e : Seen) (past : List Seen) (k : ℕ) (rule : Rule) → chosen rule ≡ true → is_quiet tested.role e.note ≡ true → turns_with tested f e past k rule ≡ false
  pub resting : (tested : Tested) (f : Fate) (e : Seen) (past : List Seen) (k : ℕ) (rule : Rule) → chosen rule ≡ true → is_rest e.note ≡ true → some_asks past ≡ false → turns_with tested f e past k rule ≡ false
