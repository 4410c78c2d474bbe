-- Which subscriptions match what is delivered, found by looking back over a session.
use Rattle.std.specs.Prelude.{ℕ, nat_le, Bool, ◌&&◌, not, cond, List, [], Option, Some, None, is_some, option_map, unwrap_or}
use Rattle.std.specs.Option.{option_and_then}
use Rattle.std.specs.List.{list_any}
use Rattle.mq_rules.specs.declared.role.Role.{Role}
use Rattle.mq_rules.specs.declared.fate.Fate.{Fate}
use Rattle.mq_rules.specs.declared.note.Note.{Note}
use Rattle.mq_rules.specs.declared.note.Seen.{Seen}
use Rattle.mq_rules.specs.declared.text.NotedFilter.{NotedFilter}
use Rattle.mq_rules.specs.declared.packet_note.PublishNote.{PublishNote}
use Rattle.mq_rules.specs.Words.{is_some_and, is_id}
use Rattle.mq_rules.specs.Notes.{qos_number, received_subscription, refuses, sent_publish}
use Rattle.mq_rules.specs.Moments.{Moment, note, some}
use Rattle.mq_rules.specs.Connections.{connection, first_connack, session}
use Rattle.mq_rules.specs.Subscriptions.{asks_to_share, requested}
use Rattle.mq_rules.specs.MatchingSubscriptions.{Subscribed, any_subscription, are_identified, are_shared, are_unretained, asks_in_vain, identifier_at, is_about, is_named, may_be_retained, subscribed_by, subscribed_to}
use Rattle.mq_plain.specs.declared.further.matching.Subscription.{Subscription}
use Rattle.mq_plain.specs.declared.further.matching.Kind.{Kind}
use Rattle.mq_plain.specs.declared.further.matching.Kind.TheVariants.{Any, Granted, Named, Unidentified, Retained, InVain}
use Rattle.mq_plain.specs.declared.further.delivering.Delivery.{Delivery}
use Rattle.mq_plain.specs.Subscribed.{codes_after}
use Rattle.mq_plain.specs.Deliveries.{topic_after}

-- ---- one subscription

abbrev pub subscription_of : Subscription → Subscribed
subscription_of s = record { filter = s.filter.now; is_shared = s.is_shared; options = s.options; ceiling = s.ceiling; identifier = s.identifier }

-- the subscriptions of each kind
abbrev pub of_kind : Kind → Subscribed → Bool
of_kind Any = any_subscription
of_kind (Granted qos) = λ s. nat_le qos s.ceiling
of_kind (Named identifier) = is_named identifier
of_kind Unidentified = λ s. not (is_some s.identifier)
of_kind Retained = may_be_retained
of_kind InVain = asks_in_vain

-- it matches the topic, and is of the kind
abbrev pub is_matched : Kind → List ℕ → Subscribed → Bool
is_matched kind topic s = is_about topic s && of_kind kind s

-- the same of what a filter of a SUBSCRIBE subscribes to, given its Reason Code if there is one
abbrev pub is_matched_with : Kind → List ℕ → Option ℕ → NotedFilter → Option ℕ → Bool
is_matched_with kind topic identifier g None = is_matched kind topic (subscribed_to identifier g (requested g))
is_matched_with kind topic identifier g (Some code) = not (refuses code) && is_matched kind topic (subscribed_to identifier g code)

-- ---- those of a session

-- the subscriptions of the SUBSCRIBE j, by what was answered in these events
abbrev pub subscribed_after : List Seen → Moment → List Subscribed
subscribed_after past j = unwrap_or (option_map (λ s. subscribed_by (identifier_at j) s.filters (codes_after j past)) (received_subscription (note j))) []

-- one of them matches the topic, and is of the kind
abbrev pub has_matching_after : Kind → List ℕ → List Seen → Moment → Bool
has_matching_after kind topic past j = list_any (is_matched kind topic) (subscribed_after past j)

-- after these events some subscription of the session matches the topic and passes the test, if the latest connection has this fate
abbrev pub some_matching_after : Role → Fate → List Seen → List ℕ → (Subscribed → Bool) → Bool
some_matching_after role f past topic test = some (λ j. list_any (λ s. is_about topic s && test s) (subscribed_after past j)) (session role (Some f) past)

-- ---- what is delivered

-- A PUBLISH with DUP 0 that is sent, and its topic.
pub record Delivered : Type 0 where
  pub publish : PublishNote
  pub topic : List ℕ

abbrev pub delivered_of : Delivery → Delivered
delivered_of d = record { publish = d.publish.now; topic = d.topic.now }

abbrev pub delivered_on : PublishNote → List ℕ → Delivered
delivered_on p topic = record { publish = p; topic = topic }

-- a PUBLISH after these events, if its DUP is 0 and its topic known
abbrev pub delivered_by : List Seen → PublishNote → Option Delivered
delivered_by past p = cond p.duplicate None (option_map (delivered_on p) (topic_after past p))

-- what is delivered with an event after these
abbrev pub delivered_after : Note → List Seen → Option Delivered
delivered_after n past = option_and_then (delivered_by past) (sent_publish n)

-- ---- the statements, on a PUBLISH after these events, and on the word that says whether some subscription that matches its topic passes a test

-- a shared subscription was asked for
abbrev pub is_sharing_after : Role → Fate → List Seen → Bool
is_sharing_after role f past = some asks_to_share (session role (Some f) past)

-- the server takes Subscription Identifiers on the latest connection
abbrev pub takes_identifiers_after : Role → List Seen → Bool
takes_identifiers_after role past = not (is_some_and (λ a. is_id 0 a.subscription_identifier_available) (first_connack role (connection past)))

abbrev pub is_fault_B08 : Role → Fate → List Seen → PublishNote → ((Subscribed → Bool) → Bool) → Bool
is_fault_B08 role f past p matching = is_sharing_after role f past && not (matching any_subscription)

abbrev pub is_fault_B09 : Role → Fate → List Seen → PublishNote → ((Subscribed → Bool) → Bool) → Bool
is_fault_B09 role f past p matching = is_sharing_after role f past && (matching any_subscription && not (matching (λ s. nat_le (qos_number p.qos) s.ceiling)))

abbrev pub is_fault_P01 : Role → Fate → List Seen → PublishNote → ((Subscribed → Bool) → Bool) → Bool
is_fault_P01 role f past p matching = matching any_subscription && list_any (λ i. not (matching (is_named i))) p.subscription_identifiers

abbrev pub is_fault_P02 : Role → Fate → List Seen → PublishNote → ((Subscribed → Bool) → Bool) → Bool
is_fault_P02 role f past p matching = (takes_identifiers_after role past && are_identified matching) && not p.has_subscription_identifier

abbrev pub is_fault_R01 : Role → Fate → List Seen → PublishNote → ((Subscribed → Bool) → Bool) → Bool
is_fault_R01 role f past p matching = are_unretained matching && p.retain

abbrev pub is_fault_R02 : Role → Fate → List Seen → PublishNote → ((Subscribed → Bool) → Bool) → Bool
is_fault_R02 role f past p matching = are_shared matching && p.retain
