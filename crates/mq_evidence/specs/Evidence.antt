-- What a fault conflicts with: an event, or none, and at most two numbers. It is chosen so that whoever sees the fault and that event, and nothing else of the log, can say
-- what to change. Each line looks back from the fault's moment k; only what a REST shows looks at that REST.
use Rattle.std.specs.Prelude.{ℕ, ◌+◌, nat_lt, Bool, false, ◌&&◌, ◌||◌, cond, List, [], ◌∷◌, length, Option, Some, None, is_some, unwrap_or, option_map}
use Rattle.std.specs.Option.{option_and_then, option_or}
use Rattle.std.specs.List.{list_any}
use Rattle.std.specs.Str.{bytes_eq}
use Rattle.mq_topic.specs.Matching.{matches}
use Rattle.mq_packet.specs.declared.packet.PacketType.{PacketType}
use Rattle.mq_packet.specs.declared.packet.PacketType.TheVariants as types
use Rattle.mq_rules.specs.declared.role.Role.{Role}
use Rattle.mq_rules.specs.declared.role.Role.TheVariants.{Client, Server}
use Rattle.mq_rules.specs.declared.role.Tested.{Tested}
use Rattle.mq_rules.specs.declared.fate.Fate.{Fate}
use Rattle.mq_rules.specs.declared.rule.Rule.{Rule}
use Rattle.mq_rules.specs.declared.rule.Rule.TheVariants.{W01, W02, W03, W04, W05, W06, W07, W08, W09, W10, W11, W12, W13, W14, W15, W16, W17, W18, W19, W20, W21, C01, C02, C03, C04, C05, C06, C07, C08, C09, C10, C11, C12, C13, C14, C15, C16, C17, C18, C19, C20, C21, C22, C23, S01, S02, S03, S04, S05, S06, S07, E1A, E1R, E1O, E2A, E2R, E2O, E3A, E3R, E3O, E4A, E4R, E5A, E5R, E6A, E6R, E7R, L1, L2, L3, B01, B02, B03, B04, B05, B06, B07, B08, B09, P01, P02, R01, R02, F01, F02, F03, F04, F05, F06, V03, V04, V06, C24, D01, D02, D03, D05, A01, A02, A03, K01, K02}
use Rattle.mq_rules.specs.declared.note.Note.{Note}
use Rattle.mq_rules.specs.declared.note.Seen.{Seen}
use Rattle.mq_rules.specs.declared.packet_note.PacketFields.{PacketFields}
use Rattle.mq_rules.specs.declared.packet_note.PacketFields.TheVariants.{Pubrec}
use Rattle.mq_rules.specs.Words.{is_some_and, is_id, only}
use Rattle.mq_rules.specs.Notes.{is_open, sends_type, sent_packet, sent_publish, sent_disconnect, sent_grant, sent_deletion, received_subscription, received_unsubscription, received_as, sent_as, subscribe_in, unsubscribe_in, connect_of, connack_of, resend_of, released_id, success_pubcomp_in, is_received_pingreq, is_sent_pingresp, refuses, qos_number}
use Rattle.mq_rules.specs.Moments.{Moment, position, note, moments, moment, some, latest, count}
use Rattle.mq_rules.specs.Connections.{number, connection, fate, latest_fate, begins, accepts_at, session}
use Rattle.mq_rules.specs.Pasts.{is_sent_disconnect, is_sent_refusal, is_last_sent, connect_before, connack_before, peer_maximum_packet_size, peer_topic_alias_maximum, peer_maximum_qos, peer_receive_maximum, used_alias}
use Rattle.mq_rules.specs.Identifiers.{session_before, is_open_at, latest_opener, awaits_suback, awaits_unsuback, opens_id, closes_id, delivers, sends_pubrel, comes_after, taken_by}
use Rattle.mq_rules.specs.Counter.{in_flight_before}
use Rattle.mq_rules.specs.Exchanges.{Exchange, causes, answers, first_unanswered, is_other_unanswered, publish_puback, publish_pubrec, pubrec_pubrel, pubrel_pubcomp, subscribe_suback, unsubscribe_unsuback}
use Rattle.mq_rules.specs.Releases.{brings, ends, releases_message, first_brought}
use Rattle.mq_rules.specs.Subscriptions.{Standing, standing_from, standing_at, topic_of}
use Rattle.mq_rules.specs.MatchingSubscriptions.{identifier_at, is_about, subscribed_by}
use Rattle.mq_rules.specs.KeepAlive.{is_heard, keep_alive, silence, client_limit, server_limit}
use Rattle.mq_rules.specs.Statements.{fails}
use Rattle.mq_rules.specs.Faults.{decided}
use Rattle.mq_rules.specs.declared.evidence.Evidence.{Evidence}
use Rattle.mq_rules.specs.declared.evidence.Numbers.{Numbers}
use Rattle.mq_rules.specs.declared.evidence.Numbers.TheVariants.{Nothing, One, Two}
use Rattle.mq_rules.specs.Evidence.{nothing}

-- ---- words

-- this event, if there is one; with these numbers
abbrev pub it_with : Option Moment → Numbers → Evidence
it_with m n = record { because = option_map position m; numbers = n }

abbrev pub it : Option Moment → Evidence
it m = it_with m Nothing

-- the number, and both numbers, if they are there
abbrev pub one_of : Option ℕ → Numbers
one_of None = Nothing
one_of (Some a) = One a

abbrev pub two_of : Option ℕ → Option ℕ → Numbers
two_of None b = Nothing
two_of (Some a) None = Nothing
two_of (Some a) (Some b) = Two a b

-- the earliest moment that passes the test
abbrev pub earliest : (Moment → Bool) → List Moment → Option Moment
earliest test [] = None
earliest test (m ∷ ms) = option_or (earliest test ms) (cond (test m) (Some m) None)

-- the later one of two moments, each of which may be absent
abbrev pub later : Option Moment → Option Moment → Option Moment
later a b = cond (comes_after a b) a (option_or b a)

-- ---- what came on the connection of k before k

-- the client's first CONNECT, and the server's first CONNACK
abbrev pub is_connect : Role → Moment → Bool
is_connect role m = is_some (connect_of role (note m))

abbrev pub is_connack : Role → Moment → Bool
is_connack role m = is_some (connack_of role (note m))

abbrev pub connect_at : Role → Moment → Option Moment
connect_at role k = earliest (is_connect role) (connection k.past)

abbrev pub connack_at : Role → Moment → Option Moment
connack_at role k = earliest (is_connack role) (connection k.past)

-- that in which the peer announces what it takes: the server in its CONNACK, the client in its CONNECT
abbrev pub peer_at : Role → Moment → Option Moment
peer_at Client k = connack_at Client k
peer_at Server k = connect_at Server k

-- the peer announced its Topic Alias Maximum, or its Receive Maximum, and didn't leave it at the default
abbrev pub announces_alias_maximum : Role → Moment → Bool
announces_alias_maximum Client k = is_some (option_and_then (λ a. a.topic_alias_maximum) (connack_before Client k))
announces_alias_maximum Server k = is_some (option_and_then (λ c. c.topic_alias_maximum) (connect_before Server k))

abbrev pub announces_receive_maximum : Role → Moment → Bool
announces_receive_maximum Client k = is_some (option_and_then (λ a. a.receive_maximum) (connack_before Client k))
announces_receive_maximum Server k = is_some (option_and_then (λ c. c.receive_maximum) (connect_before Server k))

-- the first item of this type that was sent
abbrev pub first_sent : PacketType → Moment → Option Moment
first_sent type k = earliest (λ m. sends_type type (note m)) (connection k.past)

-- the CONNACK of the last connection before k's that was accepted
abbrev pub accepted_before : Role → Moment → Option Moment
accepted_before role k = latest (λ m. accepts_at role m && nat_lt (number m) (number k)) (moments k.past)

-- ---- what came in earlier sessions

-- All that came in sessions before the current one, if the latest connection has this fate: where a session begins anew, what was the current one until then joins them.
abbrev pub earlier_sessions : Role → Option Fate → List Seen → List (List Moment)
earlier_sessions role f [] = []
earlier_sessions role f (e ∷ past) = cond (is_open e.note)
    (cond (begins f) (session role (latest_fate role past) past ∷ earlier_sessions role (latest_fate role past) past) (earlier_sessions role (latest_fate role past) past))
    (earlier_sessions role f past)

-- in some of these sessions some moment passes the test
abbrev pub some_session : (Moment → Bool) → List (List Moment) → Bool
some_session test [] = false
some_session test (ms ∷ rest) = some test ms || some_session test rest

-- The CONNACK that began the session of k, if it came before k, and something in an earlier session passes the test: that didn't outlive its session.
abbrev pub ended_with_session : Role → Fate → (Moment → Bool) → Moment → Option Moment
ended_with_session role f test k = only (some_session test (earlier_sessions role (Some f) k.past)) (earliest (is_connack role) (session_before role f k))

-- ---- under an identifier

-- the moment sends a SUBSCRIBE, or an UNSUBSCRIBE, under the identifier
abbrev pub subscribes : ℕ → Moment → Bool
subscribes i m = is_id i (sent_as subscribe_in (note m))

abbrev pub unsubscribes : ℕ → Moment → Bool
unsubscribes i m = is_id i (sent_as unsubscribe_in (note m))

-- What holds the identifier: the PUBLISH that opened it, if it is open, and a SUBSCRIBE and an UNSUBSCRIBE that wait for their answers; of these the latest. A PUBLISH that
-- may have been discarded holds nothing, but it came on an earlier connection, and so before what waits on this one.
abbrev pub holder : Role → Fate → ℕ → Moment → Option Moment
holder role f i k = later (only (is_open_at role f i k) (latest_opener role f i k))
    (later (only (awaits_suback i k) (latest (subscribes i) (connection k.past))) (only (awaits_unsuback i k) (latest (unsubscribes i) (connection k.past))))

-- What became of a PUBLISH that is sent again: what acknowledged it in this session, if it was sent in this session; else, if it was sent in an earlier one, the CONNACK
-- that began this one.
abbrev pub end_of_sent : Role → Fate → ℕ → Moment → Option Moment
end_of_sent role f i k = cond (is_some (latest_opener role f i k)) (latest (closes_id i) (session_before role f k)) (ended_with_session role f (opens_id i) k)

-- at j, on k's connection, a PUBLISH is sent again that was open then, and had an opener after the one that this identifier has at k
abbrev pub overtakes : Role → Fate → ℕ → Moment → Moment → Bool
overtakes role f i k j = is_some_and (λ o. is_open_at role f o j && comes_after (latest_opener role f o j) (latest_opener role f i k)) (resend_of (note j))

-- the first PUBLISH that was sent again too early, before k
abbrev pub first_overtaking : Role → Fate → ℕ → Moment → Option Moment
first_overtaking role f i k = earliest (overtakes role f i k) (connection k.past)

-- where what is sent again at a moment was first sent
abbrev pub first_sent_at : Role → Fate → Moment → Option ℕ
first_sent_at role f j = option_and_then (λ o. option_map position (latest_opener role f o j)) (resend_of (note j))

-- ---- exchanges

-- the identifier of a PUBREC of 0x80 or more, which asks for no PUBREL but ends the exchange
abbrev pub refusing_pubrec_in : PacketFields → Option ℕ
refusing_pubrec_in (Pubrec identifier code) = only (refuses code) (Some identifier)
refusing_pubrec_in _ = None

abbrev pub refuses_id : ℕ → Moment → Bool
refuses_id i m = is_id i (received_as refusing_pubrec_in (note m))

-- the last answer under the identifier on k's connection, if it was asked for in the session
abbrev pub answered_at : Exchange → Role → Fate → ℕ → Moment → Option Moment
answered_at x role f i k = only (some (causes x i) (session_before role f k)) (latest (answers x i) (connection k.past))

-- What became of what an answer is sent for: the answer before, else the CONNACK that began this session, if it was asked for in an earlier one.
abbrev pub end_of_asked : Exchange → Role → Fate → ℕ → Moment → Option Moment
end_of_asked x role f i k = option_or (answered_at x role f i k) (ended_with_session role f (causes x i) k)

-- of a PUBREL also a PUBREC that refuses, if it came later than the last one
abbrev pub end_of_confirmed : Role → Fate → ℕ → Moment → Option Moment
end_of_confirmed role f i k = option_or (later (latest (refuses_id i) (session_before role f k)) (answered_at pubrec_pubrel role f i k))
    (ended_with_session role f (causes pubrec_pubrel i) k)

-- the earliest cause under another identifier than this one that waits for its answer
abbrev pub first_other : Exchange → ℕ → Moment → Option Moment
first_other x i k = earliest (is_other_unanswered x i k) (connection k.past)

-- ---- releases

-- What became of a message that is released: what ended its exchange in this session, if it was received in this session; else, if it was received in an earlier one, the
-- CONNACK that began this one.
abbrev pub end_of_received : Role → Fate → ℕ → Moment → Option Moment
end_of_received role f i k = cond (some (brings i) (session_before role f k)) (latest (ends i) (session_before role f k)) (ended_with_session role f (brings i) k)

-- ---- subscriptions

-- how many different Topic Filters there are among these
abbrev pub different : List Standing → ℕ
different [] = 0
different (s ∷ ss) = cond (list_any (λ t. bytes_eq s.filter t.filter) ss) 0 1 + different ss

-- the greatest QoS that one of these allows which match the topic
abbrev pub greatest_for : List ℕ → List Standing → Option ℕ
greatest_for topic [] = None
greatest_for topic (s ∷ ss) = cond (matches s.filter topic) (Some (cond (nat_lt s.ceiling (unwrap_or (greatest_for topic ss) 0)) (unwrap_or (greatest_for topic ss) 0) s.ceiling)) (greatest_for topic ss)

-- the last request of which a filter stands that matches the topic
abbrev pub last_matching : Role → Fate → List ℕ → Moment → Option Moment
last_matching role f topic k = latest (λ j. list_any (λ s. matches s.filter topic) (standing_from k j)) (session_before role f k)

-- a SUBSCRIBE is received at j, and a subscription that it asks for matches the topic, whatever its SUBACK says
abbrev pub asks_about : List ℕ → Moment → Bool
asks_about topic j = list_any (is_about topic) (unwrap_or (option_map (λ s. subscribed_by (identifier_at j) s.filters []) (received_subscription (note j))) [])

-- the last one in the session
abbrev pub last_asking : Role → Fate → List ℕ → Moment → Option Moment
last_asking role f topic k = latest (asks_about topic) (session_before role f k)

-- the topic of the PUBLISH that is sent at k
abbrev pub topic_at : Moment → Option (List ℕ)
topic_at k = option_and_then (topic_of k) (sent_publish (note k))

-- ---- how the evidence of a fault is found

pub data Reason : Type 0 where
  -- nothing earlier is to blame
  by_itself : Reason
  -- by what came before on the connection
  in_past : (Moment → Evidence) → Reason
  -- by what came before in the session, where the connection has this fate
  under_fate : (Fate → Moment → Evidence) → Reason
  -- by the REST that shows it, which is the first moment
  at_rest : (Moment → Moment → Evidence) → Reason

-- the identifier of what is sent at k, as a statement looks at it; and the evidence by it
abbrev pub by_id : (Note → Option ℕ) → (Fate → ℕ → Moment → Evidence) → Reason
by_id found of = under_fate (λ f k. unwrap_or (option_map (λ i. of f i k) (found (note k))) nothing)

abbrev pub by_first_sent : PacketType → Reason
by_first_sent type = in_past (λ k. it (first_sent type k))

abbrev pub by_first : (Note → Bool) → Reason
by_first test = in_past (λ k. it (earliest (λ m. test (note m)) (connection k.past)))

-- an answer that nobody asked for, and one out of order; a cause without an answer
abbrev pub by_asked : Exchange → Role → Reason
by_asked x role = by_id x.answer (λ f i k. it (end_of_asked x role f i k))

abbrev pub by_order : Exchange → Reason
by_order x = in_past (λ k. unwrap_or (option_map (λ i. it (first_other x i k)) (x.answer (note k))) nothing)

-- an answer that conflicts with the request which it answers
abbrev pub by_request : Exchange → Reason
by_request x = in_past (λ k. unwrap_or (option_map (λ i. it (first_unanswered x i k)) (x.answer (note k))) nothing)

abbrev pub by_silence : Reason
by_silence = at_rest (λ t k. it (Some t))

-- a SUBACK, or an UNSUBACK, with another number of Reason Codes than its request has filters
abbrev pub by_filters : Reason
by_filters = in_past (λ k. unwrap_or (option_map (λ a. it_with (first_unanswered subscribe_suback a.identifier k)
    (two_of (option_map (λ s. length s.filters) (option_and_then (λ j. received_subscription (note j)) (first_unanswered subscribe_suback a.identifier k))) (Some (length a.codes))))
    (sent_grant (note k))) nothing)

abbrev pub by_count : Reason
by_count = in_past (λ k. unwrap_or (option_map (λ a. it_with (first_unanswered unsubscribe_unsuback a.identifier k)
    (two_of (option_map (λ u. length u.filters) (option_and_then (λ j. received_unsubscription (note j)) (first_unanswered unsubscribe_unsuback a.identifier k))) (Some (length a.codes))))
    (sent_deletion (note k))) nothing)

-- how many bytes a packet has, and how many the peer takes; a Topic Alias, and the greatest that the peer takes; a QoS likewise
abbrev pub by_size : Role → Reason
by_size role = in_past (λ k. it_with (peer_at role k) (two_of (option_map (λ p. p.size) (sent_packet (note k))) (peer_maximum_packet_size role k)))

abbrev pub by_alias : Role → Reason
by_alias role = in_past (λ k. it_with (only (announces_alias_maximum role k) (peer_at role k))
    (two_of (option_and_then (λ p. p.topic_alias) (sent_publish (note k))) (Some (peer_topic_alias_maximum role k))))

abbrev pub by_qos : Reason
by_qos = in_past (λ k. it_with (connack_at Client k) (two_of (option_map (λ p. qos_number p.qos) (sent_publish (note k))) (Some (peer_maximum_qos Client k))))

-- how many PUBLISHes are in flight with this one, and how many the peer takes
abbrev pub by_quota : Role → Reason
by_quota role = in_past (λ k. it_with (only (announces_receive_maximum role k) (peer_at role k)) (Two (in_flight_before role k + 1) (peer_receive_maximum role k)))

-- how many PINGREQs came, and how many PINGRESPs were sent
abbrev pub by_pings : Reason
by_pings = in_past (λ k. it_with (latest (λ m. is_received_pingreq (note m)) (connection k.past))
    (Two (count (λ m. is_received_pingreq (note m)) (connection k.past)) (count (λ m. is_sent_pingresp (note m)) (connection k.past))))

-- the PUBLISH that came too early; where that was first sent, and where this one was
abbrev pub by_overtaking : Role → Reason
by_overtaking role = by_id resend_of (λ f i k. it_with (first_overtaking role f i k)
    (two_of (option_and_then (first_sent_at role f) (first_overtaking role f i k)) (option_map position (latest_opener role f i k))))

-- how many filters stand; the last request that matches, with the QoS and the greatest that was granted
abbrev pub by_standing : Role → Reason
by_standing role = under_fate (λ f k. it_with None (One (different (standing_at role f k))))

abbrev pub by_ceiling : Role → Reason
by_ceiling role = under_fate (λ f k. unwrap_or (option_map (λ topic. it_with (last_matching role f topic k)
    (two_of (option_map (λ p. qos_number p.qos) (sent_publish (note k))) (greatest_for topic (standing_at role f k)))) (topic_at k)) nothing)

-- the last SUBSCRIBE that asks for a subscription which matches the topic
abbrev pub by_matching : Role → Reason
by_matching role = under_fate (λ f k. it (option_and_then (λ topic. last_asking role f topic k) (topic_at k)))

-- the last event by which the client was heard; for how long it wasn't since, and for how long it may not be, in microseconds
abbrev pub by_hearing : (ℕ → ℕ) → Role → Reason
by_hearing limit role = in_past (λ k. it_with (latest (is_heard role) (connection k.past)) (Two (silence role k) (limit (keep_alive role k))))

-- The reason of each statement.
abbrev pub reason : Role → Rule → Reason
reason role W01 = by_itself
reason role W02 = by_itself
reason role W03 = by_itself
reason role W04 = by_itself
reason role W05 = by_itself
reason role W06 = by_itself
reason role W07 = by_itself
reason role W08 = by_itself
reason role W09 = by_itself
reason role W10 = by_itself
reason role W11 = by_itself
reason role W12 = by_itself
reason role W13 = by_itself
reason role W14 = by_itself
reason role W15 = by_itself
reason role W16 = by_itself
reason role W17 = by_itself
reason role W18 = by_itself
reason role W19 = by_itself
reason role W20 = by_itself
reason role W21 = by_itself
reason role C01 = by_itself
reason role C02 = by_itself
reason role C03 = by_first_sent types.Connect
reason role C04 = by_itself
reason role C05 = by_itself
reason role C06 = by_first_sent types.Connack
reason role C07 = in_past (λ k. it (connect_at Server k))
reason role C08 = in_past (λ k. it (accepted_before Server k))
reason role C09 = by_itself
reason role C10 = in_past (λ k. it (connect_at Server k))
reason role C11 = by_first is_sent_disconnect
reason role C12 = by_first is_sent_refusal
reason role C13 = in_past (λ k. it (connack_at Client k))
reason role C14 = by_size role
reason role C15 = by_alias role
reason role C16 = in_past (λ k. it_with None (one_of (used_alias (note k))))
reason role C17 = by_qos
reason role C18 = by_itself
reason role C19 = by_itself
reason role C20 = in_past (λ k. it_with (connect_at Client k) (one_of (option_and_then (λ d. d.session_expiry) (sent_disconnect (note k)))))
reason role C21 = in_past (λ k. it (connect_at Server k))
reason role C22 = in_past (λ k. it (connect_at Server k))
reason role C23 = by_first (is_last_sent role)
reason role S01 = by_id (taken_by role) (λ f i k. it (holder role f i k))
reason role S02 = by_id resend_of (λ f i k. it (end_of_sent role f i k))
reason role S03 = by_id resend_of (λ f i k. it (latest (delivers i) (connection k.past)))
reason role S04 = by_id resend_of (λ f i k. it (latest (sends_pubrel i) (session_before role f k)))
reason role S05 = by_overtaking role
reason role S06 = at_rest (λ t k. it (connack_at role t))
reason role S07 = by_quota role
reason role E1A = by_asked publish_puback role
reason role E1R = by_silence
reason role E1O = by_order publish_puback
reason role E2A = by_asked publish_pubrec role
reason role E2R = by_silence
reason role E2O = by_order publish_pubrec
reason role E3A = by_id pubrec_pubrel.answer (λ f i k. it (end_of_confirmed role f i k))
reason role E3R = by_silence
reason role E3O = by_order pubrec_pubrel
reason role E4A = by_asked pubrel_pubcomp role
reason role E4R = by_silence
reason role E5A = by_asked subscribe_suback role
reason role E5R = by_silence
reason role E6A = by_asked unsubscribe_unsuback role
reason role E6R = by_silence
reason role E7R = by_pings
reason role L1 = by_id released_id (λ f i k. it (end_of_received role f i k))
reason role L2 = by_id released_id (λ f i k. it (latest (releases_message i) (session_before role f k)))
reason role L3 = by_id (sent_as success_pubcomp_in) (λ f i k. it (first_brought role f i k))
reason role B01 = by_standing role
reason role B02 = by_ceiling role
reason role B03 = by_filters
reason role B04 = by_count
reason role B05 = by_request subscribe_suback
reason role B06 = by_request unsubscribe_unsuback
reason role B07 = by_request unsubscribe_unsuback
reason role B08 = by_itself
reason role B09 = by_matching role
reason role P01 = by_matching role
reason role P02 = by_matching role
reason role R01 = by_matching role
reason role R02 = by_matching role
reason role F01 = in_past (λ k. it (connack_at Client k))
reason role F02 = in_past (λ k. it (connack_at Client k))
reason role F03 = in_past (λ k. it (connack_at Client k))
reason role F04 = in_past (λ k. it (connack_at Client k))
reason role F05 = in_past (λ k. it (connect_at Server k))
reason role F06 = in_past (λ k. it (connect_at Server k))
reason role V03 = by_itself
reason role V04 = by_itself
reason role V06 = by_itself
reason role C24 = by_silence
reason role D01 = by_silence
reason role D02 = by_silence
reason role D03 = by_silence
reason role D05 = by_silence
reason role A01 = in_past (λ k. it (connect_at Client k))
reason role A02 = in_past (λ k. it (connect_at role k))
reason role A03 = in_past (λ k. it (connect_at role k))
reason role K01 = by_hearing client_limit Client
reason role K02 = by_hearing server_limit Server

-- ---- the evidence

-- k's moment is the last one here, its connection may have a fate, and the REST that shows it is the moment before
abbrev pub found : Reason → Option Fate → Option Moment → Moment → Evidence
found by_itself f t k = nothing
found (in_past of) f t k = of k
found (under_fate of) f t k = unwrap_or (option_map (λ d. of d k) f) nothing
found (at_rest of) f t k = unwrap_or (option_map (λ rest. of rest k) t) nothing

-- What the fault of a statement at position k of the log conflicts with; nothing where the statement doesn't fail.
unfoldable pub evidence : Tested → List Seen → ℕ → Rule → Evidence
evidence tested log k rule = cond (fails tested log k rule)
    (unwrap_or (option_map (λ m. found (reason tested.role rule) (fate tested.role (number m) log) (option_and_then (moment log) (decided tested log k rule)) m) (moment log k)) nothing)
    nothing
