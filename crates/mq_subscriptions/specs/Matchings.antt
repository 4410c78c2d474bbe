-- What is kept of the subscriptions of a session: for each question that a delivery asks of them the filters of those that pass it, and the SUBSCRIBEs that wait for their SUBACK
-- (MQTT 5.0, sections 3.3.4, 3.8.4 and 4.8.2).
use Rattle.std.specs.Prelude.{ℕ, ◌≡◌, nat_eq, nat_le, Bool, true, false, ◌&&◌, ◌||◌, not, cond, List, [], ◌∷◌, Option, Some, None, is_some, unwrap_or, option_map}
use Rattle.std.specs.Option.{option_and_then}
use Rattle.std.specs.List.{list_any, IsDistinct}
use Rattle.std.specs.Map.{keys_of, lookup}
use Rattle.mq_topic.specs.Matching.{matches}
use Rattle.mq_rules.specs.declared.role.Role.{Role}
use Rattle.mq_rules.specs.declared.role.Tested.{Tested}
use Rattle.mq_rules.specs.declared.fate.Fate.{Fate}
use Rattle.mq_rules.specs.declared.note.Note.{Note}
use Rattle.mq_rules.specs.declared.note.Seen.{Seen}
use Rattle.mq_rules.specs.declared.text.NotedFilter.{NotedFilter}
use Rattle.mq_rules.specs.Words.{is_some_and, only}
use Rattle.mq_rules.specs.Notes.{Subscription, Grant, is_boundary, received_subscription, received_wishes, sent_grant, refuses}
use Rattle.mq_rules.specs.Moments.{Moment, note, is_same, some, earliest_since}
use Rattle.mq_rules.specs.Connections.{accepts, accepted, on_open, session}
use Rattle.mq_rules.specs.Exchanges.{causes, answers, subscribe_suback}
use Rattle.mq_rules.specs.Subscriptions.{Standing, requested}
use Rattle.mq_rules.specs.Wishes.{shared_filter}
use Rattle.mq_rules.specs.MatchingSubscriptions.{Subscribed, subscribed_to, subscribed_by, identifier_at, is_named, any_subscription, may_be_retained, asks_in_vain}
use Rattle.mq_filters.specs.Standings.{allows}
use Rattle.mq_subscriptions.specs.Firsts.{found_first, first_next}
use Rattle.mq_subscriptions.specs.Standings.{goes_on}
use Rattle.mq_subscriptions.specs.Deletings.{codes_given, requests_under, answers_under}

-- ---- the questions

-- What each delivery asks for: all subscriptions; those without a Subscription Identifier; those for which what is sent may have RETAIN 1; shared ones that ask for retained messages.
pub data Question : Type 0 where
  any : Question
  unidentified : Question
  retained : Question
  in_vain : Question

abbrev pub answers_to : Question → Subscribed → Bool
answers_to any s = any_subscription s
answers_to unidentified s = not (is_some s.identifier)
answers_to retained s = may_be_retained s
answers_to in_vain s = asks_in_vain s

-- Which subscriptions: those that one of these questions is about; and those that have this Subscription Identifier.
pub data Kind : Type 0 where
  passing : Question → Kind
  bearing : ℕ → Kind

abbrev pub of_kind : Kind → Subscribed → Bool
of_kind (passing question) s = answers_to question s
of_kind (bearing identifier) s = is_named identifier s

-- its Topic Filter passes the test, or if it is shared the filter after the ShareName
abbrev pub has_text : (List ℕ → Bool) → Subscribed → Bool
has_text among s = among s.filter || (s.is_shared && among (shared_filter s.filter))

-- a subscription of this kind with a text that passes the test, for which something may be sent at this QoS
abbrev pub serves : Kind → (List ℕ → Bool) → ℕ → Subscribed → Bool
serves kind among qos s = of_kind kind s && (has_text among s && nat_le qos s.ceiling)

-- ---- SUBSCRIBEs that wait

-- its filters, and its Subscription Identifier, if it has one
pub record Asks : Type 0 where
  pub filters : List NotedFilter
  pub identifier : Option ℕ

abbrev pub identifier_in : Note → Option ℕ
identifier_in n = option_and_then (λ w. w.subscription_identifier) (received_wishes n)

abbrev pub asks_in : Note → Option Asks
asks_in n = option_map (λ s. record { filters = s.filters; identifier = identifier_in n }) (received_subscription n)

abbrev pub asks_of : Moment → Option Asks
asks_of m = asks_in (note m)

-- its subscriptions with these Reason Codes, and without any
abbrev pub granted_to : List ℕ → Asks → List Subscribed
granted_to codes w = subscribed_by w.identifier w.filters codes

abbrev pub as_asked : Asks → List Subscribed
as_asked w = granted_to [] w

-- some subscription of those that wait passes the test
abbrev pub some_waits : (Subscribed → Bool) → List (ℕ × Asks) → Bool
some_waits test waiting = list_any (λ e. list_any test (as_asked e.1)) waiting

-- a filter with its Reason Code, if there is one
abbrev pub subscribed_one : Option ℕ → NotedFilter → Option ℕ → List Subscribed
subscribed_one identifier g None = subscribed_to identifier g (requested g) ∷ []
subscribed_one identifier g (Some code) = cond (refuses code) [] (subscribed_to identifier g code ∷ [])

-- ---- what it is by the events

-- the first SUBSCRIBE under the identifier on the open connection that isn't answered
abbrev pub first_waiting : ℕ → List Seen → Option Moment
first_waiting i past = earliest_since (causes subscribe_suback i) (answers subscribe_suback i) (on_open past)

-- the moment is one of these
abbrev pub waits : List Seen → Moment → Bool
waits past j = is_some_and (λ s. is_some_and (is_same j) (first_waiting s.identifier past)) (received_subscription (note j))

-- the subscriptions of the SUBSCRIBE that is received at j, if one is, by what was answered in this log; those that count whatever comes
abbrev pub subscribed_in : List Seen → Moment → List Subscribed
subscribed_in past j = unwrap_or (option_map (λ s. subscribed_by (identifier_at j) s.filters (unwrap_or (codes_given past j) [])) (received_subscription (note j))) []

abbrev pub settled_from : List Seen → Moment → List Subscribed
settled_from past j = cond (waits past j) [] (subscribed_in past j)

-- ---- one event more

-- what counts whatever comes, by a test: after a SUBSCRIBE, which waits unless one under its identifier does already; after a SUBACK; and after any event
abbrev pub settled_asked : (Subscribed → Bool) → List (ℕ × Asks) → Option ℕ → Option Subscription → Bool
settled_asked test waiting identifier None = false
settled_asked test waiting identifier (Some s) = is_some (lookup (nat_eq s.identifier) waiting) && list_any test (subscribed_by identifier s.filters [])

abbrev pub settled_granted : (Subscribed → Bool) → List (ℕ × Asks) → Option Grant → Bool
settled_granted test waiting None = false
settled_granted test waiting (Some a) = is_some_and (λ w. list_any test (granted_to a.codes w)) (lookup (nat_eq a.identifier) waiting)

abbrev pub settled_next : Fate → Note → (Subscribed → Bool) → List (ℕ × Asks) → Bool → Bool
settled_next f n test waiting old = cond (is_boundary n) (goes_on f n && (old || some_waits test waiting))
    (cond (accepts f) (old || (settled_asked test waiting (identifier_in n) (received_subscription n) || settled_granted test waiting (sent_grant n))) old)

-- the first SUBSCRIBE under an identifier that waits, with a packet, and with any event
abbrev pub waiting_packet : Note → ℕ → Option Asks → Option Asks
waiting_packet n i old = first_next false (requests_under i (received_subscription n)) (answers_under i (sent_grant n)) (asks_in n) old

abbrev pub waiting_next : Fate → Note → ℕ → Option Asks → Option Asks
waiting_next f n i old = cond (is_boundary n) None (cond (accepts f) (waiting_packet n i old) old)

-- An event takes what is kept to what is kept after it.
pub record TakesIn (fate : Fate) (n : Note) (sets more : Kind → List Standing) (waiting left : List (ℕ × Asks)) : Type 0 where
  pub sets_next : (kind : Kind) (among : List ℕ → Bool) (qos : ℕ) → list_any (allows among qos) (more kind) ≡ settled_next fate n (serves kind among qos) waiting (list_any (allows among qos) (sets kind))
  pub waiting_next_is : (i : ℕ) → lookup (nat_eq i) left ≡ waiting_next fate n i (lookup (nat_eq i) waiting)
  pub distinct : is_boundary n ≡ true → goes_on fate n ≡ true → IsDistinct nat_eq (keys_of waiting)

-- ---- what is kept

-- These events lead to what is kept.
pub record AreSubscriptions (sets : Kind → List Standing) (waiting : List (ℕ × Asks)) (tested : Tested) (taken : Option Fate) (past : List Seen) : Type 0 where
  pub sets_are : (kind : Kind) (among : List ℕ → Bool) (qos : ℕ) → list_any (allows among qos) (sets kind) ≡ some (λ j. list_any (serves kind among qos) (settled_from past j)) (session tested.role taken past)
  pub waiting_are : (i : ℕ) → lookup (nat_eq i) waiting ≡ only (accepted taken) (found_first subscribe_suback asks_of i past)

-- ---- what matches a topic

-- the QoS matters for the question to all alone: for the others something may be sent at QoS 0
abbrev pub least : Question → ℕ → ℕ
least any qos = qos
least unidentified qos = 0
least retained qos = 0
least in_vain qos = 0

-- some subscription of this kind matches the topic, and something may be sent for it at this QoS
abbrev pub matches_kept : (Kind → List Standing) → List (ℕ × Asks) → Kind → List ℕ → ℕ → Bool
matches_kept sets waiting kind topic qos = list_any (λ s. matches s.filter topic && nat_le qos s.ceiling) (sets kind) || some_waits (serves kind (λ f. matches f topic) qos) waiting
