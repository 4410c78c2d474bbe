-- What is said of a delivery by the subscriptions that match its topic: which of B08, B09, P01, P02, R01 and R02 it breaks, and which of them it puts to the test. And what is kept for that
-- beside the subscriptions.
use Rattle.std.specs.Prelude.{ℕ, ◌≡◌, nat_eq, nat_le, nat_lt, Bool, false, ◌&&◌, ◌||◌, not, cond, List, length, Option, None, is_some, option_map, unwrap_or}
use Rattle.std.specs.Option.{option_or}
use Rattle.std.specs.List.{list_any, IsDistinct}
use Rattle.std.specs.Map.{keys_of}
use Rattle.mq_log.specs.declared.place.Place3.{Place3}
use Rattle.mq_rules.specs.declared.role.Role.TheVariants.{Server}
use Rattle.mq_rules.specs.declared.role.Tested.{Tested}
use Rattle.mq_rules.specs.declared.fate.Fate.{Fate}
use Rattle.mq_rules.specs.declared.rule.Rule.{Rule}
use Rattle.mq_rules.specs.declared.rule.Rule.TheVariants.{B08, B09, P01, P02, R01, R02}
use Rattle.mq_rules.specs.declared.note.Note.{Note}
use Rattle.mq_rules.specs.declared.note.Seen.{Seen}
use Rattle.mq_rules.specs.declared.packet_note.PublishNote.{PublishNote}
use Rattle.mq_rules.specs.declared.packet_note.ConnackNote.{ConnackNote}
use Rattle.mq_rules.specs.Words.{is_some_and, is_id}
use Rattle.mq_rules.specs.Notes.{is_acknowledged, is_boundary, qos_number, receives_unclear, sent_connack, sent_publish}
use Rattle.mq_rules.specs.Moments.{note, some}
use Rattle.mq_rules.specs.Connections.{accepts, first_connack, on_open, session}
use Rattle.mq_rules.specs.Subscriptions.{asks_to_share, last_set}
use Rattle.mq_rules.specs.MatchingSubscriptions.{Subscribed, any_subscription, is_named, may_be_retained, asks_in_vain}
use Rattle.mq_rules.specs.FurtherSubscriptions.{since_began}
use Rattle.mq_rules.specs.Rules.{same_rule}
use Rattle.mq_rules.specs.FaultKeys.{FaultMap}
use Rattle.mq_rules.specs.Growing.{Gains}
use Rattle.mq_fates.specs.Judgements.{judged_by}
use Rattle.mq_filters.specs.Standings.{has_ceiling}
use Rattle.mq_subscriptions.specs.declared.subscribed.Matched.{Matched}
use Rattle.mq_subscriptions.specs.declared.subscribed.Subscriptions.{Subscriptions}
use Rattle.mq_subscriptions.specs.declared.matching.verdicts.Verdicts.{Verdicts}
use Rattle.mq_subscriptions.specs.Matchings.{bearing, matches_kept}
use Rattle.mq_subscriptions.specs.Subscribings.{set_of, AreMatched, AnswersAll}
use Rattle.mq_subscriptions.specs.Standings.{goes_on, sharing_next, topic_kept, topic_next}
use Rattle.mq_subscriptions.specs.Deletings.{unclear_next}

-- ---- what is asked of the subscriptions that match a topic

-- Whether there is one; one that was granted at least this QoS; one whose SUBSCRIBE has no Subscription Identifier; one that may be sent what has RETAIN 1; and a shared one that asks
-- for retained messages.
pub record Sought : Type 0 where
  pub any : Bool
  pub within : ℕ → Bool
  pub unidentified : Bool
  pub retained : Bool
  pub in_vain : Bool

-- by the word that says whether some subscription that matches passes a test; and as it was found
abbrev pub sought_of : ((Subscribed → Bool) → Bool) → Sought
sought_of matching = record {
  any = matching any_subscription;
  within = λ qos. matching (λ s. nat_le qos s.ceiling);
  unidentified = matching (λ s. not (is_some s.identifier));
  retained = matching may_be_retained;
  in_vain = matching asks_in_vain;
}

abbrev pub sought_by : Matched → Sought
sought_by m = record { any = is_some m.ceiling; within = λ qos. has_ceiling (nat_le qos) m.ceiling; unidentified = m.unidentified; retained = m.retained; in_vain = m.in_vain }

-- What is said of the subscriptions that are kept answers all that is asked of those that match a topic.
pub record Answered (s : Subscriptions) (matching : List ℕ → (Subscribed → Bool) → Bool) : Type 0 where
  pub each : (topic : List ℕ) (m : Matched) → AreMatched s topic m → AnswersAll m (matching topic)
  pub named_is : (topic : List ℕ) (i : ℕ) → IsDistinct nat_eq (keys_of s.waiting.entries) → matching topic (is_named i) ≡ matches_kept (set_of s.settled) s.waiting.entries (bearing i) topic 0

-- one of these Subscription Identifiers isn't that of a subscription that matches
abbrev pub lacks : ((Subscribed → Bool) → Bool) → List ℕ → Bool
lacks matching identifiers = list_any (λ i. not (matching (is_named i))) identifiers

-- ---- what is said of a delivery, given whether the session has a shared subscription, and whether the server takes Subscription Identifiers

-- each that matches has a Subscription Identifier; none may be sent what has RETAIN 1, of which none or some is shared and asks for retained messages
abbrev pub are_identified : Sought → Bool
are_identified s = s.any && not s.unidentified

abbrev pub are_plain : Sought → Bool
are_plain s = s.any && not (s.retained || s.in_vain)

abbrev pub are_in_vain : Sought → Bool
are_in_vain s = s.in_vain && not s.retained

-- what it breaks, where one of its Subscription Identifiers isn't that of a subscription that matches, or each is
abbrev pub breaks_by : Bool → Bool → PublishNote → Sought → Bool → Verdicts
breaks_by sharing takes p s unnamed = record {
  matched = sharing && not s.any;
  granted = sharing && (s.any && not (s.within (qos_number p.qos)));
  named = s.any && unnamed;
  identified = (takes && are_identified s) && not p.has_subscription_identifier;
  unretained = are_plain s && p.retain;
  unshared = are_in_vain s && p.retain;
}

-- what it puts to the test
abbrev pub tests_by : Bool → Bool → PublishNote → Sought → Verdicts
tests_by sharing takes p s = record {
  matched = sharing;
  granted = sharing && is_acknowledged p.qos;
  named = nat_lt 0 (length p.subscription_identifiers) && s.any;
  identified = takes && are_identified s;
  unretained = are_plain s;
  unshared = are_in_vain s;
}

abbrev pub verdicts : Bool → Bool → Bool → PublishNote → Sought → Bool → Verdicts
verdicts wide sharing takes p s unnamed = cond wide (tests_by sharing takes p s) (breaks_by sharing takes p s unnamed)

-- by the word that says whether some subscription that matches passes a test
abbrev pub said_of : Bool → Bool → Bool → PublishNote → ((Subscribed → Bool) → Bool) → Verdicts
said_of wide sharing takes p matching = verdicts wide sharing takes p (sought_of matching) (lacks matching p.subscription_identifiers)

-- none
abbrev pub nothing : Verdicts
nothing = record { matched = false; granted = false; named = false; identified = false; unretained = false; unshared = false }

-- of a PUBLISH with DUP 0 and a topic that is known; of an event where they are judged, on a connection that is accepted and in a session of which all requests could be read
abbrev pub of_publish : (PublishNote → List ℕ → Verdicts) → (ℕ → Option (List ℕ)) → PublishNote → Verdicts
of_publish say topics p = cond p.duplicate nothing (unwrap_or (option_map (say p) (topic_kept topics p)) nothing)

abbrev pub of_note : (PublishNote → List ℕ → Verdicts) → (ℕ → Option (List ℕ)) → Note → Verdicts
of_note say topics n = unwrap_or (option_map (of_publish say topics) (sent_publish n)) nothing

abbrev pub of_event : Bool → Fate → Bool → (PublishNote → List ℕ → Verdicts) → (ℕ → Option (List ℕ)) → Note → Verdicts
of_event bound f unclear say topics n = cond bound (cond (accepts f) (cond unclear nothing (of_note say topics n)) nothing) nothing

-- The faults that an event is to add are those of the statements that it breaks.
pub record Blames (turns : ℕ → Rule → Bool) (broken : Verdicts) (place : Place3) (at : ℕ) (tested : Tested) (log : List Seen) : Type 0 where
  pub of_B08 : (m : FaultMap) → Gains (λ k r. same_rule r B08 && turns k r) tested log at m (judged_by broken.matched B08 place at m)
  pub of_B09 : (m : FaultMap) → Gains (λ k r. same_rule r B09 && turns k r) tested log at m (judged_by broken.granted B09 place at m)
  pub of_P01 : (m : FaultMap) → Gains (λ k r. same_rule r P01 && turns k r) tested log at m (judged_by broken.named P01 place at m)
  pub of_P02 : (m : FaultMap) → Gains (λ k r. same_rule r P02 && turns k r) tested log at m (judged_by broken.identified P02 place at m)
  pub of_R01 : (m : FaultMap) → Gains (λ k r. same_rule r R01 && turns k r) tested log at m (judged_by broken.unretained R01 place at m)
  pub of_R02 : (m : FaultMap) → Gains (λ k r. same_rule r R02 && turns k r) tested log at m (judged_by broken.unshared R02 place at m)

-- ---- what is kept beside the subscriptions

-- the CONNACK says that the server takes no Subscription Identifiers (MQTT 5.0, section 3.2.2.3.12)
abbrev pub refuses_identifiers : ConnackNote → Bool
refuses_identifiers a = is_id 0 a.subscription_identifier_available

-- what the first CONNACK of a connection says of that, with an event more
abbrev pub refusing_next : Note → Option Bool → Option Bool
refusing_next n old = option_or (cond (is_boundary n) None old) (option_map refuses_identifiers (sent_connack n))

-- it takes them, unless the first CONNACK says that it doesn't
abbrev pub takes_by : Option Bool → Bool
takes_by refusing = not (is_some_and (λ b. b) refusing)

-- An event takes what is kept to what is kept after it.
pub record TakesBeside (fate : Fate) (n : Note) (sharing shares unclear next : Bool) (refusing refuses : Option Bool) (topics known : ℕ → Option (List ℕ)) : Type 0 where
  pub sharing_is : shares ≡ sharing_next fate n sharing
  pub unclear_is : next ≡ unclear_next fate n unclear
  pub refusing_is : refuses ≡ refusing_next n refusing
  pub topics_are : (alias : ℕ) → known alias ≡ topic_next n alias (topics alias)

-- These events lead to what is kept: whether a shared subscription was asked for in the session, whether bytes of it may have been a request that nobody can read, what the first CONNACK
-- of the open connection says of Subscription Identifiers, and the topics by their Topic Alias there.
pub record IsBeside (sharing unclear : Bool) (refusing : Option Bool) (topics : ℕ → Option (List ℕ)) (tested : Tested) (taken : Option Fate) (past : List Seen) : Type 0 where
  pub sharing_is : sharing ≡ some asks_to_share (session tested.role taken past)
  pub unclear_is : unclear ≡ some (λ m. receives_unclear (note m)) (since_began tested.role taken past)
  pub refusing_is : refusing ≡ option_map refuses_identifiers (first_connack Server (on_open past))
  pub topics_are : (alias : ℕ) → topics alias ≡ last_set alias (on_open past)
