-- Subscriptions: what a server may send to whom (B01 to B05; MQTT 5.0, sections 3.3.2.1, 3.8 to 3.11 and 4.7). Each statement says when it is put to the test
-- (`applies`), and when it is false (`breaks`), at a moment k whose connection is accepted and has the fate f.
use Rattle.std.specs.Prelude.{ℕ, ◌%◌, ◌==◌, nat_le, nat_lt, Bool, ◌&&◌, ◌||◌, not, true, false, cond, List, [], ◌∷◌, ◌++◌, length, take, codes, Option, Some, None, is_some, unwrap_or, option_map}
use Rattle.std.specs.Option.{option_and_then, option_or}
use Rattle.std.specs.Str.{bytes_eq}
use Rattle.std.specs.List.{list_any}
pub use Rattle.mq_topic.specs.Ceilings.{Standing}
use Rattle.mq_topic.specs.Matching.{matches}
use Rattle.mq_rules.specs.declared.role.Role.{Role}
use Rattle.mq_rules.specs.declared.fate.Fate.{Fate}
use Rattle.mq_rules.specs.declared.note.Note.{Note}
use Rattle.mq_rules.specs.declared.text.NotedFilter.{NotedFilter}
use Rattle.mq_rules.specs.declared.packet_note.PublishNote.{PublishNote}
use Rattle.mq_rules.specs.Words.{is_some_and, is_id, only}
use Rattle.mq_rules.specs.Notes.{is_acknowledged, sent_publish, received_subscription, sent_grant, received_unsubscription, sent_deletion, refuses, qos_number}
use Rattle.mq_rules.specs.Moments.{Moment, note, is_after, some, those, first_found}
use Rattle.mq_rules.specs.Connections.{number, of_connection, connection}
use Rattle.mq_rules.specs.Pasts.{set_alias}
use Rattle.mq_rules.specs.Identifiers.{session_before}
use Rattle.mq_rules.specs.Exchanges.{subscribe_suback, unsubscribe_unsuback, first_unanswered}

-- ---- standing filters

-- the Maximum QoS that a filter's options ask for (MQTT 5.0, section 3.8.3.1)
abbrev pub requested : NotedFilter → ℕ
requested f = f.options % 4

-- The standing filters of a SUBSCRIBE, given the Reason Codes of its SUBACK: a code of 0x80 or more refuses its filter, another one is its ceiling, and a filter
-- without a code has the QoS that it asked for.
abbrev pub granted : List NotedFilter → List ℕ → List Standing
granted [] codes = []
granted (f ∷ filters) [] = record { filter = f.filter; ceiling = requested f } ∷ granted filters []
granted (f ∷ filters) (code ∷ codes) = cond (refuses code) (granted filters codes) (record { filter = f.filter; ceiling = code } ∷ granted filters codes)

-- the Reason Codes of a SUBACK that is sent under this identifier
abbrev pub codes_under : ℕ → Note → Option (List ℕ)
codes_under i n = option_map (λ a. a.codes) (option_and_then (λ a. only (a.identifier == i) (Some a)) (sent_grant n))

-- The Reason Codes of the SUBACK of a SUBSCRIBE j, if it was sent before k: the first SUBACK under the identifier after j on j's connection.
abbrev pub codes_for : ℕ → Moment → Moment → List ℕ
codes_for i j k = unwrap_or (first_found (codes_under i) (those (λ m. is_after m j) (of_connection (number j) k.past))) []

-- the standing filters at k of the moment j, if that is a SUBSCRIBE that was received
abbrev pub standing_from : Moment → Moment → List Standing
standing_from k j = unwrap_or (option_map (λ s. granted s.filters (codes_for s.identifier j k)) (received_subscription (note j))) []

-- The standing filters at k: those of all SUBSCRIBEs received before it in its session.
abbrev pub standing_of : Moment → List Moment → List Standing
standing_of k [] = []
standing_of k (j ∷ js) = standing_from k j ++ standing_of k js

abbrev pub standing_at : Role → Fate → Moment → List Standing
standing_at role f k = standing_of k (session_before role f k)

-- ---- topics

-- the Topic Name that a PUBLISH sets for this alias
abbrev pub topic_set : ℕ → Note → Option (List ℕ)
topic_set alias n = only (is_id alias (set_alias n)) (option_map (λ p. p.topic) (sent_publish n))

-- the one that was last set for the alias, among these
abbrev pub last_set : ℕ → List Moment → Option (List ℕ)
last_set alias [] = None
last_set alias (m ∷ ms) = option_or (topic_set alias (note m)) (last_set alias ms)

-- The topic of a PUBLISH at k: its Topic Name, or if that is empty the one last set for its alias on the connection (MQTT 5.0, section 3.3.2.3.4).
abbrev pub topic_of : Moment → PublishNote → Option (List ℕ)
topic_of k p = cond (length p.topic == 0) (option_and_then (λ alias. last_set alias (connection k.past)) p.topic_alias) (Some p.topic)

-- ---- shared subscriptions (MQTT 5.0, section 4.8.2)

-- the filter begins with `$share/`
abbrev pub is_shared : NotedFilter → Bool
is_shared f = bytes_eq (take 7 f.filter) (codes "$share/")

abbrev pub asks_to_share : Moment → Bool
asks_to_share m = is_some_and (λ s. list_any is_shared s.filters) (received_subscription (note m))

-- ---- the statements

-- at k a PUBLISH with DUP 0 is sent, whose topic is known, in a session without shared subscriptions so far; and it passes the test
abbrev pub is_delivered_so : Role → Fate → Moment → (PublishNote → List ℕ → Bool) → Bool
is_delivered_so role f k test = is_some_and (λ p. not p.duplicate && (not (some asks_to_share (session_before role f k)) && is_some_and (test p) (topic_of k p))) (sent_publish (note k))

-- B01: whenever there is one, some standing filter matches its topic.
unfoldable pub applies_B01 : Role → Fate → Moment → Bool
applies_B01 role f k = is_delivered_so role f k (λ p topic. true)

unfoldable pub breaks_B01 : Role → Fate → Moment → Bool
breaks_B01 role f k = is_delivered_so role f k (λ p topic. not (list_any (λ s. matches s.filter topic) (standing_at role f k)))

-- B02: whenever there is one of QoS above 0, some standing filter that matches its topic has a ceiling of at least its QoS, unless none matches it.
unfoldable pub applies_B02 : Role → Fate → Moment → Bool
applies_B02 role f k = is_delivered_so role f k (λ p topic. is_acknowledged p.qos)

unfoldable pub breaks_B02 : Role → Fate → Moment → Bool
breaks_B02 role f k = is_delivered_so role f k (λ p topic. list_any (λ s. matches s.filter topic) (standing_at role f k)
    && not (list_any (λ s. matches s.filter topic && nat_le (qos_number p.qos) s.ceiling) (standing_at role f k)))

-- B03: whenever a SUBACK answers an unanswered SUBSCRIBE, it has as many Reason Codes as the first of these has filters.
unfoldable pub applies_B03 : Moment → Bool
applies_B03 k = is_some_and (λ a. is_some (first_unanswered subscribe_suback a.identifier k)) (sent_grant (note k))

unfoldable pub breaks_B03 : Moment → Bool
breaks_B03 k = is_some_and (λ a. is_some_and (λ j. is_some_and (λ s. not (length s.filters == length a.codes)) (received_subscription (note j)))
    (first_unanswered subscribe_suback a.identifier k)) (sent_grant (note k))

-- B04: whenever an UNSUBACK answers an unanswered UNSUBSCRIBE, it has as many Reason Codes as the first of these has filters.
unfoldable pub applies_B04 : Moment → Bool
applies_B04 k = is_some_and (λ a. is_some (first_unanswered unsubscribe_unsuback a.identifier k)) (sent_deletion (note k))

unfoldable pub breaks_B04 : Moment → Bool
breaks_B04 k = is_some_and (λ a. is_some_and (λ j. is_some_and (λ u. not (length u.filters == length a.codes)) (received_unsubscription (note j)))
    (first_unanswered unsubscribe_unsuback a.identifier k)) (sent_deletion (note k))

-- the Maximum QoS that each of these filters asks for
abbrev pub requested_each : List NotedFilter → List ℕ
requested_each [] = []
requested_each (f ∷ filters) = requested f ∷ requested_each filters

-- some Reason Code below 0x80, and the QoS that was asked for at its place, pass the test
abbrev pub some_granted : (ℕ → ℕ → Bool) → List ℕ → List ℕ → Bool
some_granted test [] codes = false
some_granted test (qos ∷ others) [] = false
some_granted test (qos ∷ others) (code ∷ codes) = (not (refuses code) && test qos code) || some_granted test others codes

-- at k a SUBACK answers an unanswered SUBSCRIBE, and grants a filter of the first of these a QoS that passes the test with what the filter asked for
abbrev pub is_granted_so : Moment → (ℕ → ℕ → Bool) → Bool
is_granted_so k test = is_some_and (λ a. is_some_and (λ j. is_some_and (λ s. some_granted test (requested_each s.filters) a.codes) (received_subscription (note j)))
    (first_unanswered subscribe_suback a.identifier k)) (sent_grant (note k))

-- B05: whenever a SUBACK answers an unanswered SUBSCRIBE, and grants a filter of the first of these, it grants no more than the Maximum QoS that the filter asks for.
unfoldable pub applies_B05 : Moment → Bool
applies_B05 k = is_granted_so k (λ qos code. true)

unfoldable pub breaks_B05 : Moment → Bool
breaks_B05 k = is_granted_so k nat_lt
