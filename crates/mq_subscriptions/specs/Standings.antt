-- What the book of deliveries keeps: filters that stand, SUBSCRIBEs that wait for their SUBACK, topics by their Topic Alias.
use Rattle.std.specs.Prelude.{ℕ, ◌≡◌, ◌+◌, ◌==◌, nat_le, Bool, false, ◌&&◌, ◌||◌, not, cond, List, [], ◌∷◌, ◌++◌, length, Option, Some, None, is_none, is_some, unwrap_or, option_map}
use Rattle.std.specs.Option.{option_or, option_and_then}
use Rattle.std.specs.List.{list_any, sum_by}
use Rattle.std.specs.String.{string_bytes}
use Rattle.std.specs.declared.string.String.{String}
use Rattle.mq_packet.specs.declared.packet.Qos.{Qos}
use Rattle.mq_topic.specs.Matching.{matches}
use Rattle.mq_rules.specs.declared.role.Tested.{Tested}
use Rattle.mq_rules.specs.declared.fate.Fate.{Fate}
use Rattle.mq_rules.specs.declared.note.Note.{Note}
use Rattle.mq_rules.specs.declared.note.Seen.{Seen}
use Rattle.mq_rules.specs.declared.packet_note.PublishNote.{PublishNote}
use Rattle.mq_rules.specs.Words.{is_some_and, only}
use Rattle.mq_rules.specs.Notes.{is_open, is_boundary, Subscription, Grant, received_subscription, sent_grant, sent_publish, refuses, qos_number}
use Rattle.mq_rules.specs.Moments.{Moment, note, is_after, some, those, first_found}
use Rattle.mq_rules.specs.Connections.{begun, number, is_connected, of_connection, on_open, accepts, begins, session}
use Rattle.mq_rules.specs.Subscriptions.{Standing, granted, codes_under, asks_to_share, is_shared, topic_set, last_set}
use Rattle.mq_filters.specs.Standings.{allows, has_ceiling}
use Rattle.mq_fates.specs.Holding.{total}

-- ---- SUBSCRIBEs that wait

-- A SUBSCRIBE: its identifier, and its filters with the QoS that each asks for.
pub record Waits : Type 0 where
  pub identifier : ℕ
  pub filters : List Standing

abbrev pub asked : Subscription → Waits
asked s = record { identifier = s.identifier; filters = granted s.filters [] }

-- The Reason Codes of the SUBACK of a SUBSCRIBE j under i, if this log has it.
abbrev pub codes_in : List Seen → Moment → ℕ → Option (List ℕ)
codes_in past j i = first_found (codes_under i) (those (λ m. is_after m j) (of_connection (number j) past))

-- the moment is on the connection that is open after these events
abbrev pub is_on_open : List Seen → Moment → Bool
is_on_open past j = is_connected past && (begun past == number j)

-- a SUBSCRIBE waits if it is on the connection that is open, and these say no Reason Codes for its identifier
abbrev pub waits_by : Bool → (ℕ → Option (List ℕ)) → Option Subscription → Bool
waits_by here codes o = here && is_some_and (λ s. is_none (codes s.identifier)) o

abbrev pub standing_by : (ℕ → Option (List ℕ)) → Option Subscription → List Standing
standing_by codes o = unwrap_or (option_map (λ s. granted s.filters (unwrap_or (codes s.identifier) [])) o) []

-- its filters that stand whatever comes; the SUBSCRIBE, if it waits
abbrev pub settled_by : Bool → (ℕ → Option (List ℕ)) → Option Subscription → List Standing
settled_by here codes o = cond (waits_by here codes o) [] (standing_by codes o)

abbrev pub waiting_by : Bool → (ℕ → Option (List ℕ)) → Option Subscription → Option Waits
waiting_by here codes o = only (waits_by here codes o) (option_map asked o)

abbrev pub settled_from : List Seen → Moment → List Standing
settled_from past j = settled_by (is_on_open past j) (codes_in past j) (received_subscription (note j))

abbrev pub waiting_from : List Seen → Moment → Option Waits
waiting_from past j = waiting_by (is_on_open past j) (codes_in past j) (received_subscription (note j))

-- SUBSCRIBEs with these filters under an identifier; those of a map from identifiers to them; those that were taken out of it
abbrev pub under : ℕ → List (List Standing) → List Waits
under i [] = []
under i (filters ∷ others) = record { identifier = i; filters = filters } ∷ under i others

abbrev pub waits_of : List (ℕ × List (List Standing)) → List Waits
waits_of [] = []
waits_of (e ∷ es) = under e.0 e.1 ++ waits_of es

abbrev pub taken : ℕ → Option (List (List Standing)) → List Waits
taken i None = []
taken i (Some requests) = under i requests

-- how much it counts: itself, and its filters
abbrev pub waits_weight : Waits → ℕ
waits_weight w = 1 + length w.filters

abbrev pub weighed : (Waits → ℕ) → Option Waits → ℕ
weighed weigh None = 0
weighed weigh (Some w) = weigh w

-- ---- Reason Codes

abbrev pub first_code : List ℕ → Option ℕ
first_code [] = None
first_code (code ∷ codes) = Some code

abbrev pub other_codes : List ℕ → List ℕ
other_codes [] = []
other_codes (code ∷ codes) = codes

-- a filter with its Reason Code, if there is one; filters with these codes
abbrev pub with_code : Standing → Option ℕ → List Standing
with_code s None = s ∷ []
with_code s (Some code) = cond (refuses code) [] (record { filter = s.filter; ceiling = code } ∷ [])

abbrev pub with_codes : List Standing → List ℕ → List Standing
with_codes [] codes = []
with_codes (s ∷ ss) codes = with_code s (first_code codes) ++ with_codes ss (other_codes codes)

-- ---- one event more

-- the session of these events goes on with the event, whose connection has this fate
abbrev pub goes_on : Fate → Note → Bool
goes_on f n = not (is_open n && begins (Some f))

-- a SUBACK is sent under the identifier of the SUBSCRIBE
abbrev pub is_answered : Option Grant → Waits → Bool
is_answered g w = is_some_and (λ a. a.identifier == w.identifier) g

-- some filter of those that this SUBACK answers passes the test
abbrev pub grants_some : (Standing → Bool) → Option Grant → ((Waits → Bool) → Bool) → Bool
grants_some t g among = is_some_and (λ a. among (λ w. (a.identifier == w.identifier) && list_any t (with_codes w.filters a.codes))) g

-- what is settled and what waits after an event, by a test
abbrev pub settled_next : Fate → Note → (Standing → Bool) → Bool → ((Waits → Bool) → Bool) → Bool
settled_next f n t old among = cond (is_boundary n) (goes_on f n && (old || among (λ w. list_any t w.filters))) (old || grants_some t (sent_grant n) among)

abbrev pub waiting_next : Fate → Note → (Waits → Bool) → ((Waits → Bool) → Bool) → Bool
waiting_next f n t among = cond (is_boundary n) false ((accepts f && is_some_and t (option_map asked (received_subscription n))) || among (λ w. not (is_answered (sent_grant n) w) && t w))

-- the sum of a number over what waits after an event
abbrev pub sum_next : Fate → Note → (Waits → ℕ) → ((Waits → ℕ) → ℕ) → ℕ
sum_next f n weigh among =
    cond (is_boundary n) 0 (cond (accepts f) (weighed weigh (option_map asked (received_subscription n))) 0 + among (λ w. cond (is_answered (sent_grant n) w) 0 (weigh w)))

abbrev pub sharing_next : Fate → Note → Bool → Bool
sharing_next f n old = (accepts f && is_some_and (λ s. list_any is_shared s.filters) (received_subscription n)) || (goes_on f n && old)

abbrev pub topic_next : Note → ℕ → Option (List ℕ) → Option (List ℕ)
topic_next n alias old = option_or (topic_set alias n) (cond (is_boundary n) None old)

-- ---- what is kept

-- These events lead to what is kept.
pub record IsStanding (fate : Fate) (settled : List Standing) (waiting : List Waits) (sharing : Bool) (topics : ℕ → Option (List ℕ)) (tested : Tested) (taken : Option Fate) (past : List Seen) : Type 0 where
  pub same_fate : taken ≡ Some fate
  pub settled_are : (among : List ℕ → Bool) (qos : ℕ) → list_any (allows among qos) settled ≡ some (λ j. list_any (allows among qos) (settled_from past j)) (session tested.role taken past)
  pub waiting_are : (t : Waits → Bool) → list_any t waiting ≡ some (λ j. is_some_and t (waiting_from past j)) (session tested.role taken past)
  pub waiting_sums : (weigh : Waits → ℕ) → sum_by weigh waiting ≡ total (λ j. weighed weigh (waiting_from past j)) (session tested.role taken past)
  pub is_sharing : sharing ≡ some asks_to_share (session tested.role taken past)
  pub topics_are : (alias : ℕ) → topics alias ≡ last_set alias (on_open past)

-- ---- deliveries

-- some filter that is kept passes the test
abbrev pub any_kept : (Standing → Bool) → List Standing → List Waits → Bool
any_kept t settled waiting = list_any t settled || list_any (λ w. list_any t w.filters) waiting

abbrev pub topic_kept : (ℕ → Option (List ℕ)) → PublishNote → Option (List ℕ)
topic_kept topics p = cond (length p.topic == 0) (option_and_then topics p.topic_alias) (Some p.topic)

-- the topic of a PUBLISH with DUP 0, in a session without shared subscriptions
abbrev pub judged_topic : Bool → (ℕ → Option (List ℕ)) → PublishNote → Option (List ℕ)
judged_topic sharing topics p = only (not p.duplicate) (only (not sharing) (topic_kept topics p))

-- a PUBLISH is sent, and such a topic of it passes the test
abbrev pub delivers_so : Note → Bool → (ℕ → Option (List ℕ)) → (PublishNote → List ℕ → Bool) → Bool
delivers_so n sharing topics test = is_some_and (λ p. is_some_and (test p) (judged_topic sharing topics p)) (sent_publish n)

-- A PUBLISH is sent with this Topic Name, QoS and DUP flag, and without a Topic Alias.
pub record IsDelivery (n : Note) (topic : List ℕ) (qos : Qos) (duplicate : Bool) : Type 0 where
  pub publish : PublishNote
  pub is_sent : sent_publish n ≡ Some publish
  pub same_topic : publish.topic ≡ topic
  pub same_qos : publish.qos ≡ qos
  pub same_dup : publish.duplicate ≡ duplicate
  pub no_alias : publish.topic_alias ≡ None

-- its topic with DUP 0, in a session without shared subscriptions
abbrev pub named_topic : Bool → Bool → List ℕ → Option (List ℕ)
named_topic sharing duplicate topic = only (not duplicate) (only (not sharing) (only (not (length topic == 0)) (Some topic)))

-- B01 and B02, of what is kept
abbrev pub is_unasked : List Standing → List Waits → List ℕ → Bool
is_unasked settled waiting topic = not (any_kept (λ s. matches s.filter topic) settled waiting)

abbrev pub is_above : List Standing → List Waits → Qos → List ℕ → Bool
is_above settled waiting qos topic = any_kept (λ s. matches s.filter topic) settled waiting && not (any_kept (λ s. matches s.filter topic && nat_le (qos_number qos) s.ceiling) settled waiting)

-- ---- what was found for topics

-- the event may change which filters stand or wait
abbrev pub changes_filters : Note → Bool
changes_filters n = is_boundary n || (is_some (sent_grant n) || is_some (received_subscription n))

-- the QoS that is allowed for a topic
abbrev pub allows_topic : List Standing → List Waits → List ℕ → ℕ → Bool
allows_topic settled waiting topic qos = any_kept (λ s. matches s.filter topic && nat_le qos s.ceiling) settled waiting

-- the filters of a session: those that stand whatever comes, and the SUBSCRIBEs that wait; and for how many topics it is kept which may be sent
pub record SessionFilters : Type 0 where
  pub settled : List Standing
  pub waiting : List Waits
  pub found : ℕ

-- what they say: all but how many topics were looked up
abbrev pub said_by : SessionFilters → List Standing × List Waits
said_by f = (f.settled, f.waiting)

-- each topic of a map has the greatest ceiling of the filters that match it
abbrev pub Remembers : {Y : Type 0} → List Standing → List Waits → List (String Y × Option ℕ) → Type 0
Remembers settled waiting [] = Unit {0}
Remembers settled waiting (e ∷ es) = ((qos : ℕ) → has_ceiling (nat_le qos) e.1 ≡ allows_topic settled waiting (string_bytes e.0) qos) × Remembers settled waiting es
