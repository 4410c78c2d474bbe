-- What was sent of a message before it is sent again (MQTT 5.0, sections 4.3 and 4.4).
use Rattle.std.specs.Prelude.{ℕ, nat_lt, Bool, ◌&&◌, List, Some}
use Rattle.mq_rules.specs.declared.role.Role.{Role}
use Rattle.mq_rules.specs.declared.role.Role.TheVariants.{Client}
use Rattle.mq_rules.specs.declared.note.Note.{Note}
use Rattle.mq_rules.specs.declared.fate.Fate.{Fate}
use Rattle.mq_rules.specs.declared.note.Seen.{Seen}
use Rattle.mq_rules.specs.Words.{is_some_and}
use Rattle.mq_rules.specs.Notes.{resend_of}
use Rattle.mq_rules.specs.Moments.{Moment, note, moments, some, since, latest}
use Rattle.mq_rules.specs.Connections.{begun, number, fate, connection, session, voided, begins_session}
use Rattle.mq_rules.specs.Identifiers.{opens_id, closes_id, delivers, opens_exactly_once, sends_pubrel, is_open_at, latest_opener, comes_after}

-- an event of this kind happened on a void connection, anywhere in these events
abbrev pub happened_on_void : Role → (Note → Bool) → List Seen → Bool
happened_on_void role kind past = some (λ j. kind (note j) && voided (fate role (number j) past)) (moments past)

-- a session of a client began by the moment, before which a PUBLISH under the identifier was sent on its connection
abbrev pub began_with : ℕ → Moment → Bool
began_with i m = begins_session Client m && some (delivers i) (connection m.past)

-- the session began so, on an earlier connection than the latest one, which has this fate
abbrev pub is_sent_before : Fate → ℕ → List Seen → Bool
is_sent_before f i past = some (λ m. nat_lt (number m) (begun past) && began_with i m) (session Client (Some f) past)

-- a PUBLISH under the identifier was sent on the latest connection, and nothing has closed it since
abbrev pub is_delivering : ℕ → List Seen → Bool
is_delivering i past = since (delivers i) (closes_id i) (connection past)

-- the latest opener of the identifier in the session is a PUBLISH of QoS 2, if the latest connection has this fate
abbrev pub is_last_exactly_once : Role → Fate → ℕ → List Seen → Bool
is_last_exactly_once role f i past = is_some_and (opens_exactly_once i) (latest (opens_id i) (session role (Some f) past))

-- a PUBREL under the identifier was sent in the session since its latest opener
abbrev pub is_pubrel_sent : Role → Fate → ℕ → List Seen → Bool
is_pubrel_sent role f i past = since (sends_pubrel i) (opens_id i) (session role (Some f) past)

-- on the latest connection something was sent again that was open then, and whose latest opener comes after that of this identifier
abbrev pub is_overtaken : Role → Fate → ℕ → List Seen → Bool
is_overtaken role f i past = some (λ j. is_some_and (λ o. is_open_at role f o j
    && comes_after (latest_opener role f o j) (latest (opens_id i) (session role (Some f) past))) (resend_of (note j))) (connection past)
