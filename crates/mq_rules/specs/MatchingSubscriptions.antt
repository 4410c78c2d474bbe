-- Further statements on what is delivered: which subscriptions match it, also shared ones, and what they ask for (B08, B09, P01, P02, R01 and R02; MQTT 5.0, sections 3.3.1.3, 3.3.4,
-- 3.8.3.1, 3.8.4 and 4.8.2). They are judged as B01 and B02 are, at a moment k whose connection is accepted and has the fate f, but only if the further statements are asked for,
-- and in a session of which all SUBSCRIBEs and UNSUBSCRIBEs could be read. A subscription counts for the rest of its session, also after it was replaced or given up: what was on
-- its way for it may still come.
use Rattle.std.specs.Prelude.{ℕ, ◌/◌, ◌%◌, ◌==◌, nat_le, nat_lt, Bool, true, ◌&&◌, ◌||◌, not, cond, List, [], ◌∷◌, length, Option, is_some, unwrap_or, option_map}
use Rattle.std.specs.Option.{option_and_then}
use Rattle.std.specs.List.{list_any}
use Rattle.mq_topic.specs.Matching.{matches}
use Rattle.mq_rules.specs.declared.role.Role.{Role}
use Rattle.mq_rules.specs.declared.fate.Fate.{Fate}
use Rattle.mq_rules.specs.declared.text.NotedFilter.{NotedFilter}
use Rattle.mq_rules.specs.declared.packet_note.PublishNote.{PublishNote}
use Rattle.mq_rules.specs.Words.{is_some_and, is_id}
use Rattle.mq_rules.specs.Notes.{is_acknowledged, sent_publish, received_subscription, received_wishes, refuses, qos_number}
use Rattle.mq_rules.specs.Moments.{Moment, note, some}
use Rattle.mq_rules.specs.Pasts.{connack_before}
use Rattle.mq_rules.specs.Identifiers.{session_before}
use Rattle.mq_rules.specs.Subscriptions.{requested, topic_of, asks_to_share}
use Rattle.mq_rules.specs.FurtherSubscriptions.{is_clear_before, codes_answering}
use Rattle.mq_rules.specs.Wishes.{is_share, shared_filter}

-- ---- subscriptions

-- A subscription: its Topic Filter, as the SUBSCRIBE has it; whether it is shared; its Subscription Options; the greatest QoS of what may be sent for it; and the Subscription Identifier
-- of its SUBSCRIBE, if that has one.
pub record Subscribed : Type 0 where
  pub filter : List ℕ
  pub is_shared : Bool
  pub options : ℕ
  pub ceiling : ℕ
  pub identifier : Option ℕ

-- what a filter of a SUBSCRIBE with this Subscription Identifier, or without one, subscribes to, if this QoS is granted
abbrev pub subscribed_to : Option ℕ → NotedFilter → ℕ → Subscribed
subscribed_to identifier g qos = record {
  filter = g.filter;
  is_shared = is_share g.filter;
  options = g.options;
  ceiling = qos;
  identifier = identifier;
}

-- The subscriptions of a SUBSCRIBE, given the Reason Codes of its SUBACK: a code of 0x80 or more refuses its filter, another one is the QoS that is granted, and a filter without a
-- code may have the QoS that it asked for.
abbrev pub subscribed_by : Option ℕ → List NotedFilter → List ℕ → List Subscribed
subscribed_by identifier [] codes = []
subscribed_by identifier (g ∷ asked) [] = subscribed_to identifier g (requested g) ∷ subscribed_by identifier asked []
subscribed_by identifier (g ∷ asked) (code ∷ codes) = cond (refuses code) (subscribed_by identifier asked codes) (subscribed_to identifier g code ∷ subscribed_by identifier asked codes)

-- the Subscription Identifier of the SUBSCRIBE that is received at this moment, if one is and has one
abbrev pub identifier_at : Moment → Option ℕ
identifier_at j = option_and_then (λ w. w.subscription_identifier) (received_wishes (note j))

-- the subscriptions of the SUBSCRIBE that is received at j, if one is, by what was answered before k
abbrev pub subscribed_from : Moment → Moment → List Subscribed
subscribed_from k j = unwrap_or (option_map (λ s. subscribed_by (identifier_at j) s.filters (codes_answering j k)) (received_subscription (note j))) []

-- The subscription matches the topic: its Topic Filter does, or if it is shared the filter after the ShareName (MQTT 5.0, sections 4.7 and 4.8.2).
abbrev pub is_about : List ℕ → Subscribed → Bool
is_about topic s = matches s.filter topic || (s.is_shared && matches (shared_filter s.filter) topic)

-- some subscription of k's session, asked for before k, matches the topic and passes the test
abbrev pub some_matching : Role → Fate → Moment → List ℕ → (Subscribed → Bool) → Bool
some_matching role f k topic test = some (λ j. list_any (λ s. is_about topic s && test s) (subscribed_from k j)) (session_before role f k)

-- ---- what a subscription asks for (MQTT 5.0, section 3.8.3.1)

-- Retain As Published is 1: what is forwarded keeps its RETAIN flag
abbrev pub is_as_published : Subscribed → Bool
is_as_published s = s.options / 8 % 2 == 1

-- Retain Handling isn't 2: retained messages may be sent at the time of the SUBSCRIBE
abbrev pub asks_for_retained : Subscribed → Bool
asks_for_retained s = not (s.options / 16 % 4 == 2)

-- What is sent for it may have RETAIN 1: it keeps that flag, or asks for retained messages. No retained message is sent for a shared one (MQTT 5.0, section 4.8.2).
abbrev pub may_be_retained : Subscribed → Bool
may_be_retained s = is_as_published s || (not s.is_shared && asks_for_retained s)

-- it is shared, and asks for the retained messages that aren't sent for it
abbrev pub asks_in_vain : Subscribed → Bool
asks_in_vain s = s.is_shared && asks_for_retained s

-- ---- what is delivered

-- At k a PUBLISH with DUP 0 is sent, whose topic is known, in a session of which all requests could be read. It passes the test with the word on the subscriptions that match its
-- topic, which says whether some of them passes a test of its own.
abbrev pub is_matched_so : Role → Fate → Moment → (PublishNote → ((Subscribed → Bool) → Bool) → Bool) → Bool
is_matched_so role f k test = is_clear_before role f k && is_some_and (λ p. not p.duplicate && is_some_and (λ topic. test p (some_matching role f k topic)) (topic_of k p)) (sent_publish (note k))

-- a shared subscription was asked for before k in its session
abbrev pub is_sharing : Role → Fate → Moment → Bool
is_sharing role f k = some asks_to_share (session_before role f k)

abbrev pub any_subscription : Subscribed → Bool
any_subscription s = true

-- B08: whenever there is one in a session with a shared subscription, some subscription matches its topic. (B01 judges the other sessions.)
unfoldable pub applies_B08 : Role → Fate → Moment → Bool
applies_B08 role f k = is_matched_so role f k (λ p matching. is_sharing role f k)

unfoldable pub breaks_B08 : Role → Fate → Moment → Bool
breaks_B08 role f k = is_matched_so role f k (λ p matching. is_sharing role f k && not (matching any_subscription))

-- B09: whenever there is one of QoS above 0 in such a session, some subscription that matches was granted at least its QoS, unless none matches. (B02 judges the others.)
unfoldable pub applies_B09 : Role → Fate → Moment → Bool
applies_B09 role f k = is_matched_so role f k (λ p matching. is_sharing role f k && is_acknowledged p.qos)

unfoldable pub breaks_B09 : Role → Fate → Moment → Bool
breaks_B09 role f k = is_matched_so role f k (λ p matching. is_sharing role f k && (matching any_subscription && not (matching (λ s. nat_le (qos_number p.qos) s.ceiling))))

-- the subscription has this Subscription Identifier
abbrev pub is_named : ℕ → Subscribed → Bool
is_named identifier s = is_id identifier s.identifier

-- P01: whenever one has Subscription Identifiers, and some subscription matches its topic, each of them is that of a subscription that matches.
unfoldable pub applies_P01 : Role → Fate → Moment → Bool
applies_P01 role f k = is_matched_so role f k (λ p matching. nat_lt 0 (length p.subscription_identifiers) && matching any_subscription)

unfoldable pub breaks_P01 : Role → Fate → Moment → Bool
breaks_P01 role f k = is_matched_so role f k (λ p matching. matching any_subscription && list_any (λ i. not (matching (is_named i))) p.subscription_identifiers)

-- The server takes Subscription Identifiers on k's connection: its CONNACK doesn't have Subscription Identifier Available 0 (MQTT 5.0, section 3.2.2.3.12).
abbrev pub takes_identifiers : Role → Moment → Bool
takes_identifiers role k = not (is_some_and (λ a. is_id 0 a.subscription_identifier_available) (connack_before role k))

-- some subscription matches, and each one that does has a Subscription Identifier
abbrev pub are_identified : ((Subscribed → Bool) → Bool) → Bool
are_identified matching = matching any_subscription && not (matching (λ s. not (is_some s.identifier)))

-- P02: whenever each subscription that matches has a Subscription Identifier, and some does match, the PUBLISH has one too.
unfoldable pub applies_P02 : Role → Fate → Moment → Bool
applies_P02 role f k = is_matched_so role f k (λ p matching. takes_identifiers role k && are_identified matching)

unfoldable pub breaks_P02 : Role → Fate → Moment → Bool
breaks_P02 role f k = is_matched_so role f k (λ p matching. (takes_identifiers role k && are_identified matching) && not p.has_subscription_identifier)

-- some subscription matches, and none that does keeps the RETAIN flag or asks for retained messages
abbrev pub are_unretained : ((Subscribed → Bool) → Bool) → Bool
are_unretained matching = matching any_subscription && not (matching may_be_retained || matching asks_in_vain)

-- R01: whenever it is so, RETAIN is 0.
unfoldable pub applies_R01 : Role → Fate → Moment → Bool
applies_R01 role f k = is_matched_so role f k (λ p matching. are_unretained matching)

unfoldable pub breaks_R01 : Role → Fate → Moment → Bool
breaks_R01 role f k = is_matched_so role f k (λ p matching. are_unretained matching && p.retain)

-- some shared subscription that asks for retained messages matches, and none that may be sent what has RETAIN 1
abbrev pub are_shared : ((Subscribed → Bool) → Bool) → Bool
are_shared matching = matching asks_in_vain && not (matching may_be_retained)

-- R02: whenever it is so, RETAIN is 0.
unfoldable pub applies_R02 : Role → Fate → Moment → Bool
applies_R02 role f k = is_matched_so role f k (λ p matching. are_shared matching)

unfoldable pub breaks_R02 : Role → Fate → Moment → Bool
breaks_R02 role f k = is_matched_so role f k (λ p matching. are_shared matching && p.retain)
