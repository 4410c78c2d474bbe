-- Packet Identifiers, resends and the send quota (S01 to S07). Each statement says when it is false at a moment k whose connection is accepted and has the fate f.
use Rattle.std.specs.Prelude.{ℕ, ◌+◌, nat_le, nat_lt, Bool, true, false, ◌&&◌, ◌||◌, not, List, ◌∷◌, Option, Some, is_some}
use Rattle.std.specs.Option.{option_or}
use Rattle.mq_rules.specs.declared.role.Role.{Role}
use Rattle.mq_rules.specs.declared.role.Role.TheVariants.{Client, Server}
use Rattle.mq_rules.specs.declared.fate.Fate.{Fate}
use Rattle.mq_rules.specs.declared.note.Note.{Note}
use Rattle.mq_rules.specs.declared.note.Seen.{Seen}
use Rattle.mq_rules.specs.Words.{is_some_and, is_id}
use Rattle.mq_rules.specs.Notes.{opener_of, resend_of, delivery_of, closer_of, sent_publish, is_exactly_once, sent_as, received_as, pubrel_in, accepting_pubrec_in, subscribe_in, suback_in, unsubscribe_in, unsuback_in, is_cutting, is_open}
use Rattle.mq_rules.specs.Moments.{Moment, position, note, moments, is_same, some, since, is_unended, those, latest, count, some_stretch, is_after}
use Rattle.mq_rules.specs.Connections.{number, connection, fate, latest_fate, resumed, voided, session, begins_session, of_connection, fate_under, first_connect, first_connack}
use Rattle.mq_rules.specs.Pasts.{peer_receive_maximum, connack_before}

-- ---- identifiers in use (MQTT 5.0, section 2.2.1)

-- Where a statement is put to the test `applies` says, and where of that it is false `breaks`, or `shows`.

-- the moment opens the identifier; closes it; sends a PUBLISH of QoS above 0 under it
abbrev pub opens_id : ℕ → Moment → Bool
opens_id i m = is_id i (opener_of (note m))

abbrev pub closes_id : ℕ → Moment → Bool
closes_id i m = is_id i (closer_of (note m))

abbrev pub delivers : ℕ → Moment → Bool
delivers i m = is_id i (delivery_of (note m))

-- what comes before k in its session, if its connection has the fate f
abbrev pub session_before : Role → Fate → Moment → List Moment
session_before role f k = session role (Some f) k.past

-- The identifier is open at k: some opener of it comes before k in its session, with no closer of it between.
abbrev pub is_open_at : Role → Fate → ℕ → Moment → Bool
is_open_at role f i k = since (opens_id i) (closes_id i) (session_before role f k)

-- its latest opener before k in the session
abbrev pub latest_opener : Role → Fate → ℕ → Moment → Option Moment
latest_opener role f i k = latest (opens_id i) (session_before role f k)

-- a SUBSCRIBE, or an UNSUBSCRIBE, sent under the identifier on k's connection, waits for its answer
abbrev pub awaits_suback : ℕ → Moment → Bool
awaits_suback i k = since (λ m. is_id i (sent_as subscribe_in (note m))) (λ m. is_id i (received_as suback_in (note m))) (connection k.past)

abbrev pub awaits_unsuback : ℕ → Moment → Bool
awaits_unsuback i k = since (λ m. is_id i (sent_as unsubscribe_in (note m))) (λ m. is_id i (received_as unsuback_in (note m))) (connection k.past)

-- ---- what may have been discarded (MQTT 5.0, sections 3.1.2.11.4, 3.2.2.3.4 and 3.2.2.3.6)

-- the moment sends a PUBREL under the identifier; a PUBLISH of QoS above 0 or a PUBREL; receives a PUBREC below 0x80 under it
abbrev pub sends_pubrel : ℕ → Moment → Bool
sends_pubrel i m = is_id i (sent_as pubrel_in (note m))

abbrev pub sends_again : ℕ → Moment → Bool
sends_again i m = delivers i m || sends_pubrel i m

abbrev pub confirms_id : ℕ → Moment → Bool
confirms_id i m = is_id i (received_as accepting_pubrec_in (note m))

-- among these moments of a connection the peer announced a Maximum Packet Size, or a Maximum QoS, which only a server may, whatever its value
abbrev pub announces_bound : Role → List Moment → Bool
announces_bound Client ms = is_some_and (λ a. is_some a.maximum_packet_size || is_some a.maximum_qos) (first_connack Client ms)
announces_bound Server ms = is_some_and (λ c. is_some c.maximum_packet_size) (first_connect Server ms)

-- This connection passes over what is open under i, by what this log has of it, if the latest connection has this fate: it is resumed, the peer announced a bound
-- there, and neither a PUBLISH of QoS above 0 nor a PUBREL was sent there under i. A message that is too large has to be discarded as if it were completed.
abbrev pub passes_over : Role → Option Fate → ℕ → List Seen → ℕ → Bool
passes_over role f i log c = resumed (fate_under role f log c) && (announces_bound role (of_connection c log) && not (some (sends_again i) (of_connection c log)))

-- an opener k of i was passed over in this log: some connection that began after it passes over i
abbrev pub is_passed_over : Role → Option Fate → ℕ → List Seen → Moment → Bool
is_passed_over role f i log k = some (λ w. is_open (note w) && (is_after w k && passes_over role f i log (number w))) (moments log)

-- What is open under i may have been discarded before k: its latest opener was passed over, and no PUBREC below 0x80 came since that opener.
abbrev pub may_be_discarded : Role → Fate → ℕ → Moment → Bool
may_be_discarded role f i k = is_some_and (is_passed_over role (Some f) i k.past) (latest_opener role f i k) && not (since (confirms_id i) (opens_id i) (session_before role f k))

-- The identifier is busy at k: it is open, and what is open can't have been discarded; or a SUBSCRIBE or UNSUBSCRIBE under it waits for its answer.
abbrev pub is_busy_at : Role → Fate → ℕ → Moment → Bool
is_busy_at role f i k = (is_open_at role f i k && not (may_be_discarded role f i k)) || (awaits_suback i k || awaits_unsuback i k)

-- the identifier that a packet takes: an opener, and a client's SUBSCRIBE or UNSUBSCRIBE
abbrev pub taken_by : Role → Note → Option ℕ
taken_by Client n = option_or (opener_of n) (option_or (sent_as subscribe_in n) (sent_as unsubscribe_in n))
taken_by Server n = opener_of n

-- the moment takes an identifier that passes the test, by an opener, a SUBSCRIBE or an UNSUBSCRIBE
abbrev pub takes_some : (ℕ → Bool) → Moment → Bool
takes_some test m = is_some_and test (opener_of (note m)) || (is_some_and test (sent_as subscribe_in (note m)) || is_some_and test (sent_as unsubscribe_in (note m)))

-- some identifier is busy at k: one that was taken before k
abbrev pub is_any_busy_at : Role → Fate → Moment → Bool
is_any_busy_at role f k = some (takes_some (λ i. is_busy_at role f i k)) (moments k.past)

-- S01 applies whenever an identifier is taken while one is busy: where none is, every identifier is free.
unfoldable pub applies_S01 : Role → Fate → Moment → Bool
applies_S01 role f k = is_some (taken_by role (note k)) && is_any_busy_at role f k

-- S01: it takes an identifier that is busy.
unfoldable pub breaks_S01 : Role → Fate → Moment → Bool
breaks_S01 role f k = is_some_and (λ i. is_busy_at role f i k) (taken_by role (note k))

-- ---- resends (MQTT 5.0, sections 4.3 and 4.4)

-- a PUBLISH under the identifier was sent on a void connection before k, anywhere in the log
abbrev pub was_sent_on_void : Role → ℕ → Moment → Bool
was_sent_on_void role i k = some (λ j. delivers i j && voided (fate role (number j) k.past)) (moments k.past)

-- A PUBLISH under the identifier was sent before the CONNACK with which the session of k began, on an earlier connection than k's. A client may send again what it has
-- before it learns that the server has no session for it; then it owes that to the new one. A server sends its CONNACK first (MQTT 5.0, sections 3.1.4 and 3.2).
abbrev pub was_sent_before_session : Role → Fate → ℕ → Moment → Bool
was_sent_before_session Client f i k = some (λ m. begins_session Client m && (nat_lt (number m) (number k) && some (delivers i) (connection m.past))) (session_before Client f k)
was_sent_before_session Server f i k = false

-- The moment is a CLOSE that cut off a PUBLISH of QoS 1 or 2, which the tested end had begun to send. It has to set DUP where it sends it again (MQTT 5.0, section
-- 3.3.1.1), which is the first one that the log has: a packet that was cut off is no event, and nobody knows its identifier.
abbrev pub cuts_publish : Moment → Bool
cuts_publish m = is_cutting (note m)

-- a PUBLISH was cut off before k, on a void connection or in k's session
abbrev pub was_cut_off : Role → Fate → Moment → Bool
was_cut_off role f k = some (λ j. cuts_publish j && voided (fate role (number j) k.past)) (moments k.past) || some cuts_publish (session_before role f k)

-- S02: a resend of what isn't open, was sent on no void connection and by no client before the session began, where no PUBLISH was cut off either.
unfoldable pub breaks_S02 : Role → Fate → Moment → Bool
breaks_S02 role f k = is_some_and (λ i. not (is_open_at role f i k || (was_sent_on_void role i k || (was_sent_before_session role f i k || was_cut_off role f k)))) (resend_of (note k))

-- S02 applies whenever a PUBLISH of QoS above 0 is sent again, unless one was cut off: nobody knows the identifier of that.
unfoldable pub applies_S02 : Role → Fate → Moment → Bool
applies_S02 role f k = is_some (resend_of (note k)) && not (was_cut_off role f k)

-- S03 applies whenever a PUBLISH of QoS above 0 is sent again.
unfoldable pub applies_S03 : Moment → Bool
applies_S03 k = is_some (resend_of (note k))

-- S03: a resend, and a PUBLISH under its identifier was sent before on the connection, with no closer between.
unfoldable pub breaks_S03 : Moment → Bool
breaks_S03 k = is_some_and (λ i. since (delivers i) (closes_id i) (connection k.past)) (resend_of (note k))

-- the moment opens the identifier by a PUBLISH of QoS 2
abbrev pub opens_exactly_once : ℕ → Moment → Bool
opens_exactly_once i m = opens_id i m && is_some_and (λ p. is_exactly_once p.qos) (sent_publish (note m))

-- S04: a resend of what is open by an opener of QoS 2, and a PUBREL of it was sent since that opener.
unfoldable pub breaks_S04 : Role → Fate → Moment → Bool
breaks_S04 role f k = is_some_and (λ i. is_open_at role f i k && (is_some_and (opens_exactly_once i) (latest_opener role f i k)
    && since (sends_pubrel i) (opens_id i) (session_before role f k))) (resend_of (note k))

-- S04 applies whenever what is open by an opener of QoS 2, and whose PUBREL was sent since, is sent again: by its PUBLISH, or by its PUBREL.
unfoldable pub applies_S04 : Role → Fate → Moment → Bool
applies_S04 role f k = is_some_and (λ i. is_open_at role f i k && (is_some_and (opens_exactly_once i) (latest_opener role f i k)
    && since (sends_pubrel i) (opens_id i) (session_before role f k))) (option_or (resend_of (note k)) (sent_as pubrel_in (note k)))

-- both moments are there, and the first comes after the second
abbrev pub comes_after : Option Moment → Option Moment → Bool
comes_after a b = is_some_and (λ m. is_some_and (λ n. nat_lt (position n) (position m)) b) a

-- S05 applies whenever what is open is sent again, after an earlier resend on the connection of what was open then.
unfoldable pub applies_S05 : Role → Fate → Moment → Bool
applies_S05 role f k = is_some_and (λ i. is_open_at role f i k) (resend_of (note k))
    && some (λ j. is_some_and (λ o. is_open_at role f o j) (resend_of (note j))) (connection k.past)

-- S05: a resend of what is open, and an earlier resend on the connection, of what was open then, had an opener after this one's.
unfoldable pub breaks_S05 : Role → Fate → Moment → Bool
breaks_S05 role f k = is_some_and (λ i. is_open_at role f i k && some (λ j. is_some_and (λ o. is_open_at role f o j
    && comes_after (latest_opener role f o j) (latest_opener role f i k)) (resend_of (note j))) (connection k.past)) (resend_of (note k))

-- ---- the send quota (MQTT 5.0, section 4.9)

-- a PUBLISH of QoS above 0 is sent; a closer of any identifier is received
abbrev pub is_delivery : Moment → Bool
is_delivery m = is_some (delivery_of (note m))

abbrev pub is_closer : Moment → Bool
is_closer m = is_some (closer_of (note m))

-- Whether a moment of the connection counts: for a client those after the CONNACK, for a server all.
abbrev pub counts : Role → Moment → Bool
counts Client m = is_some (connack_before Client m)
counts Server m = true

-- in some stretch that ends with the newest of these moments there are more PUBLISHes than closers, by more than `most`
abbrev pub passes : ℕ → List Moment → Bool
passes most ms = some_stretch (λ stretch. nat_lt (most + count is_closer stretch) (count is_delivery stretch)) ms

-- S07 applies whenever a PUBLISH of QoS above 0 takes the last of the send quota, or goes beyond it.
unfoldable pub applies_S07 : Role → Moment → Bool
applies_S07 role k = is_delivery k && (counts role k
    && some_stretch (λ stretch. nat_le (peer_receive_maximum role k + count is_closer stretch) (count is_delivery stretch)) (k ∷ those (counts role) (connection k.past)))

-- S07: a PUBLISH of QoS above 0, and in some stretch of the connection that ends with it more PUBLISHes are unacknowledged than the Receive Maximum.
unfoldable pub breaks_S07 : Role → Moment → Bool
breaks_S07 role k = is_delivery k && (counts role k && passes (peer_receive_maximum role k) (k ∷ those (counts role) (connection k.past)))

-- The send quota is used up before t: in some stretch that ends just before it at least as many PUBLISHes are unacknowledged as the Receive Maximum.
abbrev pub is_used_up : Role → Moment → Bool
is_used_up role t = some_stretch (λ stretch. nat_le (peer_receive_maximum role t + count is_closer stretch) (count is_delivery stretch)) (those (counts role) (connection t.past))

-- ---- what a resumed session owes (MQTT 5.0, section 4.4)

-- the moment sends a PUBLISH with RETAIN 1 and a QoS above 0
abbrev pub is_retained : Moment → Bool
is_retained m = is_some_and (λ p. p.retain) (sent_publish (note m))

-- The server announced on t's connection that it takes no PUBLISH with RETAIN 1: its CONNACK has Retain Available 0 (MQTT 5.0, section 3.2.2.3.5).
abbrev pub refuses_retained : Role → Moment → Bool
refuses_retained Client t = is_some_and (λ a. is_id 0 a.retain_available) (connack_before Client t)
refuses_retained Server t = false

-- An opener k that wasn't sent again by t is excused: no PUBREC below 0x80 came after it, and the quota is used up, or it was passed over, or the peer doesn't take
-- what is retained, as k's PUBLISH is.
abbrev pub is_excused : Role → ℕ → Moment → Moment → Bool
is_excused role i t k = is_unended k (confirms_id i) (session role (latest_fate role t.past) t.past)
    && ((is_used_up role t || is_passed_over role (latest_fate role t.past) i t.past k) || (refuses_retained role t && is_retained k))

-- a PUBLISH, or a PUBREL, of the identifier was sent on t's connection before t
abbrev pub was_sent_again : ℕ → Moment → Bool
was_sent_again i t = some (sends_again i) (connection t.past)

-- the identifier of a PUBLISH of QoS above 0, or of a PUBREL, that is sent: a closer answers it
abbrev pub sent_under : Note → Option ℕ
sent_under n = option_or (delivery_of n) (sent_as pubrel_in n)

-- such a packet, sent under the identifier on t's connection, waits for its closer
abbrev pub awaits_closer : ℕ → Moment → Bool
awaits_closer i t = since (λ m. is_id i (sent_under (note m))) (closes_id i) (connection t.past)

-- The tested end waits for an answer at t: something that it sent on t's connection awaits its closer. It may send what it owes one after the other.
abbrev pub is_waiting : Moment → Bool
is_waiting t = some (λ j. is_some_and (λ i. awaits_closer i t) (sent_under (note j))) (connection t.past)

-- the moment comes before t on t's connection
abbrev pub came_on : Moment → Moment → Bool
came_on t m = some (is_same m) (connection t.past)

-- the opener k of i was open when t's connection began: what came on earlier connections of the session neither closed i nor opened it anew
abbrev pub was_open : Role → ℕ → Moment → Moment → Bool
was_open role i t k = since (is_same k) (λ m. (opens_id i m || closes_id i m) && not (came_on t m)) (session role (latest_fate role t.past) t.past)

-- S06 applies, at an opener k, as a binding REST t shows, whenever t is on a later connection, which is resumed, and where the tested end doesn't wait for an answer;
-- and k was open when that began. So it does where k was completed there before t, and where it is excused.
unfoldable pub applies_S06 : Role → Moment → Moment → Bool
applies_S06 role t k = resumed (latest_fate role t.past) && (not (is_waiting t) && is_some_and (λ i. was_open role i t k && not (came_on t k)) (opener_of (note k)))

-- S06, at an opener k, as a binding REST t shows: t is on a later connection, which is resumed, and where the tested end doesn't wait for an answer; k is the latest
-- opener of its identifier before t, with no closer between; it wasn't sent again, and isn't excused.
unfoldable pub shows_S06 : Role → Moment → Moment → Bool
shows_S06 role t k = resumed (latest_fate role t.past) && (not (is_waiting t) && is_some_and (λ i.
    is_unended k (λ m. opens_id i m || closes_id i m) (session role (latest_fate role t.past) t.past)
    && (not (some (is_same k) (connection t.past)) && (not (was_sent_again i t) && not (is_excused role i t k)))) (opener_of (note k)))
