-- How many messages of QoS 2 a server has received and not finished, beside the Receive Maximum that it announced (MQTT 5.0, sections 3.2.2.3.3, 3.3.4 and 4.9). Only what can't depend
-- on when the server read something counts: a log may have what it received before it was read. So messages of QoS 1 don't count, since the server may have answered each before it
-- read the next. A message of QoS 2 stays until its PUBREL is received, whatever the server sends, but for a PUBREC that refuses it.
use Rattle.std.specs.Prelude.{ℕ, nat_eq, nat_lt, Bool, false, ◌&&◌, ◌||◌, List, ◌∷◌, Option, is_some, option_map, unwrap_or}
use Rattle.std.specs.List.{filter, filter_map}
use Rattle.std.specs.Set.{distinct_count}
use Rattle.mq_rules.specs.declared.role.Role.TheVariants.{Server}
use Rattle.mq_rules.specs.declared.note.Note.{Note}
use Rattle.mq_rules.specs.declared.packet_note.ConnackNote.{ConnackNote}
use Rattle.mq_rules.specs.declared.packet_note.PacketFields.{PacketFields}
use Rattle.mq_rules.specs.declared.packet_note.PacketFields.TheVariants.{Pubrec}
use Rattle.mq_rules.specs.Words.{is_some_and, is_id}
use Rattle.mq_rules.specs.Notes.{ended_in, pubrel_in, received_as, received_exactly_once, refuses, sent_as, sent_fields}
use Rattle.mq_rules.specs.Moments.{Moment, note, since}
use Rattle.mq_rules.specs.Connections.{connection}
use Rattle.mq_rules.specs.Pasts.{connack_before}

-- ---- messages that aren't finished

-- the event receives the PUBREL of the message under the identifier, or ends its exchange: a PUBCOMP, or a PUBREC of 0x80 or more, is sent
abbrev pub finishes_id : ℕ → Note → Bool
finishes_id i n = is_id i (received_as pubrel_in n) || is_id i (sent_as ended_in n)

-- among these moments a PUBLISH of QoS 2 is received under the identifier, with DUP 0 or 1, and none after it finishes that message
abbrev pub is_unfinished : List Moment → ℕ → Bool
is_unfinished ms i = since (λ m. is_id i (received_exactly_once (note m))) (λ m. finishes_id i (note m)) ms

-- the identifiers of all PUBLISHes of QoS 2 that are received among them
abbrev pub identifiers_among : List Moment → List ℕ
identifiers_among ms = filter_map (λ m. received_exactly_once (note m)) ms

-- How many different ones of these have a message that isn't finished. A PUBLISH that comes again under its identifier is the same message.
unfoldable pub unfinished : List Moment → ℕ
unfinished ms = distinct_count nat_eq (filter (is_unfinished ms) (identifiers_among ms))

-- ---- the Receive Maximum

-- that of the CONNACK, 65,535 by default (MQTT 5.0, section 3.2.2.3.3)
abbrev pub receive_maximum_in : ConnackNote → ℕ
receive_maximum_in a = unwrap_or a.receive_maximum 65535

-- A PUBLISH of QoS 2 is received after the CONNACK, and with it more messages aren't finished on its connection than the Receive Maximum that the server announced.
abbrev pub exceeds_maximum : Moment → Bool
exceeds_maximum k = is_some (received_exactly_once (note k))
    && is_some_and (λ most. nat_lt most (unfinished (k ∷ connection k.past))) (option_map receive_maximum_in (connack_before Server k))

-- ---- refusals

-- a PUBREC of 0x80 or more
abbrev pub is_refusing_pubrec : PacketFields → Bool
is_refusing_pubrec (Pubrec identifier code) = refuses code
is_refusing_pubrec _ = false

-- The server refuses a message of QoS 2. It may have done so before it read what the log has before that.
abbrev pub refuses_message : Note → Bool
refuses_message n = is_some_and is_refusing_pubrec (sent_fields n)
