-- What one event decides when looking back over events.
use Rattle.std.specs.Prelude.{ℕ, Bool, true, false, ◌&&◌, ◌||◌, not, cond, List, Option, Some, None, is_some}
use Rattle.mq_rules.specs.declared.role.Role.{Role}
use Rattle.mq_rules.specs.declared.fate.Fate.{Fate}
use Rattle.mq_rules.specs.declared.note.Note.{Note}
use Rattle.mq_rules.specs.declared.note.Seen.{Seen}
use Rattle.mq_rules.specs.Words.{is_id, is_some_and}
use Rattle.mq_rules.specs.Notes.{is_broken, sent_item, received_item, sent_fields, received_fields, disconnect_in, sent_as, received_as, subscribe_in, suback_in, unsubscribe_in, unsuback_in, received_publish, unmatched_pubrec_in}
use Rattle.mq_rules.specs.Moments.{Moment, note, is_same, since, latest, earliest_since}
use Rattle.mq_rules.specs.Connections.{connection, session}
use Rattle.mq_rules.specs.Identifiers.{opens_id, closes_id, confirms_id, is_passed_over}
use Rattle.mq_rules.specs.Exchanges.{subscribe_suback, unsubscribe_unsuback, causes, answers}
use Rattle.mq_rules.specs.Releases.{brings, releases_message, ends}

-- an event that passes the first test decides yes, and one that passes only the second decides no
abbrev pub answer_by : Bool → Bool → Option Bool
answer_by starts ends = cond starts (Some true) (cond ends (Some false) None)

-- ---- what is in use after these events (MQTT 5.0, section 2.2.1)

-- the identifier is open, if the latest connection has this fate
abbrev pub is_open_after : Role → Fate → ℕ → List Seen → Bool
is_open_after role f i past = since (opens_id i) (closes_id i) (session role (Some f) past)

-- a SUBSCRIBE, or an UNSUBSCRIBE, under it waits for its answer on the latest connection
abbrev pub awaits_suback_after : ℕ → List Seen → Bool
awaits_suback_after i past = since (λ m. is_id i (sent_as subscribe_in (note m))) (λ m. is_id i (received_as suback_in (note m))) (connection past)

abbrev pub awaits_unsuback_after : ℕ → List Seen → Bool
awaits_unsuback_after i past = since (λ m. is_id i (sent_as unsubscribe_in (note m))) (λ m. is_id i (received_as unsuback_in (note m))) (connection past)

-- its latest opener was passed over, and no PUBREC below 0x80 came since
abbrev pub may_be_discarded_after : Role → Fate → ℕ → List Seen → Bool
may_be_discarded_after role f i past =
    is_some_and (is_passed_over role (Some f) i past) (latest (opens_id i) (session role (Some f) past)) && not (since (confirms_id i) (opens_id i) (session role (Some f) past))

abbrev pub is_busy_after : Role → Fate → ℕ → List Seen → Bool
is_busy_after role f i past = (is_open_after role f i past && not (may_be_discarded_after role f i past)) || (awaits_suback_after i past || awaits_unsuback_after i past)

-- ---- REST

-- an event with this note ends binding
abbrev pub ends_binding_by : Note → Bool
ends_binding_by n = is_some_and (λ p. is_some (disconnect_in p)) (sent_fields n) || (is_some_and (λ p. is_some (disconnect_in p)) (received_fields n)
    || (is_some_and is_broken (sent_item n) || is_some_and is_broken (received_item n)))

-- ---- releases (MQTT 5.0, section 4.3.3), if the latest connection has this fate

-- a QoS 2 PUBLISH under the identifier was received, or released, and nothing has ended its exchange since
abbrev pub is_brought_after : Role → Fate → ℕ → List Seen → Bool
is_brought_after role f i past = since (brings i) (ends i) (session role (Some f) past)

abbrev pub is_released_after : Role → Fate → ℕ → List Seen → Bool
is_released_after role f i past = since (releases_message i) (ends i) (session role (Some f) past)

-- the first such PUBLISH
abbrev pub first_brought_after : Role → Fate → ℕ → List Seen → Option Moment
first_brought_after role f i past = earliest_since (brings i) (ends i) (session role (Some f) past)

-- it needs no RELEASE
abbrev pub lapses_after : Role → Fate → ℕ → List Seen → Moment → Bool
lapses_after role f i past first = is_some_and (λ p. p.has_message_expiry) (received_publish (note first))
    || not (since (is_same first) (λ m. is_id i (sent_as unmatched_pubrec_in (note m))) (session role (Some f) past))

-- ---- what waits for its answer on the latest connection (MQTT 5.0, sections 3.8.4 and 3.10.4)

-- the first unanswered SUBSCRIBE, and the first unanswered UNSUBSCRIBE, under the identifier
abbrev pub first_subscribe_after : ℕ → List Seen → Option Moment
first_subscribe_after i past = earliest_since (causes subscribe_suback i) (answers subscribe_suback i) (connection past)

abbrev pub first_unsubscribe_after : ℕ → List Seen → Option Moment
first_unsubscribe_after i past = earliest_since (causes unsubscribe_unsuback i) (answers unsubscribe_unsuback i) (connection past)
