-- Further statements on subscriptions: how a server answers who unsubscribes (B06 and B07; MQTT 5.0, sections 3.10.4 and 3.11.3). They are judged as B01 to B05 are, at a
-- moment k whose connection is accepted and has the fate f, but only if the further statements are asked for, and in a session of which all SUBSCRIBEs and UNSUBSCRIBEs
-- could be read.
use Rattle.std.specs.Prelude.{ℕ, ◌==◌, Bool, true, false, ◌&&◌, ◌||◌, not, cond, List, [], ◌∷◌, Option, Some, None, unwrap_or, option_map}
use Rattle.std.specs.Option.{option_or}
use Rattle.std.specs.Str.{bytes_eq}
use Rattle.std.specs.List.{list_any}
use Rattle.mq_rules.specs.declared.role.Role.{Role}
use Rattle.mq_rules.specs.declared.fate.Fate.{Fate}
use Rattle.mq_rules.specs.declared.note.Seen.{Seen}
use Rattle.mq_rules.specs.declared.text.NotedFilter.{NotedFilter}
use Rattle.mq_rules.specs.Words.{is_some_and, only}
use Rattle.mq_rules.specs.Notes.{is_open, received_subscription, received_unsubscription, sent_grant, sent_deletion, receives_unclear, refuses}
use Rattle.mq_rules.specs.Moments.{Moment, newest, note, is_same, some, latest, first_given}
use Rattle.mq_rules.specs.Connections.{begins, latest_fate, number, of_connection}
use Rattle.mq_rules.specs.Identifiers.{session_before}
use Rattle.mq_rules.specs.Exchanges.{subscribe_suback, unsubscribe_unsuback, first_unanswered}
use Rattle.mq_rules.specs.Subscriptions.{granted}

-- ---- what could be read

-- All moments since the OPEN of the connection with which the current session began, if the latest connection has this fate. Those of void connections are among them: what a
-- server did with the bytes of a connection that it never answered nobody can tell.
abbrev pub since_began : Role → Option Fate → List Seen → List Moment
since_began role f [] = []
since_began role f (e ∷ past) = newest e past ∷ cond (is_open e.note) (cond (begins f) [] (since_began role (latest_fate role past) past)) (since_began role f past)

-- each SUBSCRIBE and UNSUBSCRIBE since k's session began, and before k, could be read
abbrev pub is_clear_before : Role → Fate → Moment → Bool
is_clear_before role f k = not (some (λ m. receives_unclear (note m)) (since_began role (Some f) k.past))

-- ---- which filters are subscribed

-- the filter is one of these
abbrev pub has_filter : List ℕ → List NotedFilter → Bool
has_filter filter asked = list_any (λ g. bytes_eq filter g.filter) asked

-- a SUBSCRIBE or an UNSUBSCRIBE that has the filter is received
abbrev pub asks_about : List ℕ → Moment → Bool
asks_about filter m = is_some_and (λ s. has_filter filter s.filters) (received_subscription (note m)) || is_some_and (λ s. has_filter filter s.filters) (received_unsubscription (note m))

-- the last SUBSCRIBE or UNSUBSCRIBE that has the filter, before k in its session
abbrev pub last_about : Role → Fate → List ℕ → Moment → Option Moment
last_about role f filter k = latest (asks_about filter) (session_before role f k)

-- at t a SUBACK answers the SUBSCRIBE j: that is the first unanswered one under its identifier
abbrev pub answers_subscribe : Moment → Moment → Bool
answers_subscribe j t = is_some_and (λ a. is_some_and (is_same j) (first_unanswered subscribe_suback a.identifier t)) (sent_grant (note t))

-- the Reason Codes of the SUBACK that answers the SUBSCRIBE j, if it was sent before k
abbrev pub codes_answering : Moment → Moment → List ℕ
codes_answering j k = unwrap_or (first_given (λ t. only (answers_subscribe j t) (option_map (λ a. a.codes) (sent_grant (note t)))) (of_connection (number j) k.past)) []

-- the Reason Code at the last place of the filter among these that has one
abbrev pub last_code : List ℕ → List NotedFilter → List ℕ → Option ℕ
last_code filter [] codes = None
last_code filter (g ∷ asked) [] = None
last_code filter (g ∷ asked) (code ∷ codes) = option_or (last_code filter asked codes) (only (bytes_eq filter g.filter) (Some code))

-- A subscription to the filter stands at u: the last SUBSCRIBE or UNSUBSCRIBE that has it, before u in its session, is a SUBSCRIBE, and the SUBACK that answers that was sent
-- before u and grants it.
abbrev pub is_subscribed_at : Role → Fate → Moment → List ℕ → Bool
is_subscribed_at role f u filter = is_some_and (λ j. is_some_and (λ s. is_some_and (λ code. not (refuses code)) (last_code filter s.filters (codes_answering j u)))
    (received_subscription (note j))) (last_about role f filter u)

-- a SUBSCRIBE before k in its session has the filter, and no SUBACK before k refuses it
abbrev pub was_subscribed : Role → Fate → Moment → List ℕ → Bool
was_subscribed role f k filter = some (λ j. is_some_and (λ s. list_any (λ g. bytes_eq filter g.filter) (granted s.filters (codes_answering j k))) (received_subscription (note j)))
    (session_before role f k)

-- ---- what an UNSUBACK says of them

-- whether each of these filters passes the test when it is to be unsubscribed: one that comes twice does so at its first place alone
abbrev pub subscribed_each : (List ℕ → Bool) → List NotedFilter → List Bool
subscribed_each subscribed [] = []
subscribed_each subscribed (g ∷ asked) = subscribed g.filter ∷ subscribed_each (λ filter. subscribed filter && not (bytes_eq filter g.filter)) asked

-- some of these passes the test with the Reason Code at its place
abbrev pub some_coded : {A : Type 0} → (A → ℕ → Bool) → List A → List ℕ → Bool
some_coded test [] codes = false
some_coded test (a ∷ others) [] = false
some_coded test (a ∷ others) (code ∷ codes) = test a code || some_coded test others codes

-- at k an UNSUBACK answers an unanswered UNSUBSCRIBE, and its Reason Codes pass the test with the filters of the first of these, which is u
abbrev pub is_unsubscribed_so : Role → Fate → Moment → (Moment → List NotedFilter → List ℕ → Bool) → Bool
is_unsubscribed_so role f k test = is_clear_before role f k && is_some_and (λ a. is_some_and (λ u. is_some_and (λ s. test u s.filters a.codes) (received_unsubscription (note u)))
    (first_unanswered unsubscribe_unsuback a.identifier k)) (sent_deletion (note k))

-- a Reason Code that says that a subscription was deleted, 0x00, and one that says that there was none, 0x11 (MQTT 5.0, section 3.11.3)
abbrev pub is_deleted : ℕ → Bool
is_deleted code = code == 0

abbrev pub is_denied : ℕ → Bool
is_denied code = code == 17

-- A subscription to the filter stood when u was received, and nothing but u asked about it since, before k.
abbrev pub stood_until : Role → Fate → Moment → Moment → List ℕ → Bool
stood_until role f k u filter = is_subscribed_at role f u filter && is_some_and (is_same u) (last_about role f filter k)

-- B06: whenever an UNSUBACK says of a filter that its subscription was deleted or that there was none, and one stood when the UNSUBSCRIBE was received, it says that it was deleted.
unfoldable pub applies_B06 : Role → Fate → Moment → Bool
applies_B06 role f k = is_unsubscribed_so role f k (λ u asked codes. some_coded (λ stands code. stands && (is_deleted code || is_denied code)) (subscribed_each (stood_until role f k u) asked) codes)

unfoldable pub breaks_B06 : Role → Fate → Moment → Bool
breaks_B06 role f k = is_unsubscribed_so role f k (λ u asked codes. some_coded (λ stands code. stands && is_denied code) (subscribed_each (stood_until role f k u) asked) codes)

-- B07: whenever an UNSUBACK says of a filter that its subscription was deleted, or of a filter that was never subscribed that there was none, each filter that it says was deleted was subscribed.
unfoldable pub applies_B07 : Role → Fate → Moment → Bool
applies_B07 role f k = is_unsubscribed_so role f k (λ u asked codes. some_coded (λ g code. is_deleted code || (is_denied code && not (was_subscribed role f k g.filter))) asked codes)

unfoldable pub breaks_B07 : Role → Fate → Moment → Bool
breaks_B07 role f k = is_unsubscribed_so role f k (λ u asked codes. some_coded (λ g code. is_deleted code && not (was_subscribed role f k g.filter)) asked codes)
