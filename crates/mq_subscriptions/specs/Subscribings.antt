-- The subscriptions of a session, as the code keeps them.
use Rattle.std.specs.Prelude.{ℕ, ◌≡◌, ◌≤◌, nat_eq, nat_le, Bool, true, not, List, [], ◌∷◌, length, Option, is_some, unwrap_or}
use Rattle.std.specs.List.{list_any, IsDistinct}
use Rattle.std.specs.Set.{distinct_count}
use Rattle.std.specs.Str.{bytes_eq}
use Rattle.std.specs.Map.{keys_of}
use Rattle.indexmap.specs.IndexMap.{get}
use Rattle.mq_rules.specs.declared.role.Tested.{Tested}
use Rattle.mq_rules.specs.declared.fate.Fate.{Fate}
use Rattle.mq_rules.specs.declared.note.Note.{Note}
use Rattle.mq_rules.specs.declared.note.Seen.{Seen}
use Rattle.mq_rules.specs.Subscriptions.{Standing}
use Rattle.mq_rules.specs.MatchingSubscriptions.{Subscribed, any_subscription, may_be_retained, asks_in_vain}
use Rattle.mq_filters.specs.Standings.{has_ceiling}
use Rattle.mq_subscriptions.specs.declared.subscribed.Settled.{Settled}
use Rattle.mq_subscriptions.specs.declared.subscribed.Subscriptions.{Subscriptions}
use Rattle.mq_subscriptions.specs.declared.subscribed.Matched.{Matched}
use Rattle.mq_subscriptions.specs.Matchings.{Question, any, unidentified, retained, in_vain, Kind, passing, bearing, TakesIn, AreSubscriptions, least, matches_kept}

-- the filters of each kind
abbrev pub set_for : Settled → Question → List Standing
set_for s any = s.any
set_for s unidentified = s.unidentified
set_for s retained = s.retained
set_for s in_vain = s.in_vain

abbrev pub set_of : Settled → Kind → List Standing
set_of s (passing question) = set_for s question
set_of s (bearing identifier) = unwrap_or (get nat_eq s.identified identifier) []

-- an event leads from what is kept to what is kept after it; these events lead to what is kept
abbrev pub TakesInEvent : Fate → Note → Subscriptions → Subscriptions → Type 0
TakesInEvent fate n old new = TakesIn fate n (set_of old.settled) (set_of new.settled) old.waiting.entries new.waiting.entries

abbrev pub AreKept : Subscriptions → Tested → Option Fate → List Seen → Type 0
AreKept s tested taken past = AreSubscriptions (set_of s.settled) s.waiting.entries tested taken past

-- what is said of those that match and that this question is about
abbrev pub says : Matched → Question → ℕ → Bool
says m any qos = has_ceiling (nat_le qos) m.ceiling
says m unidentified qos = m.unidentified
says m retained qos = m.retained
says m in_vain qos = m.in_vain

-- What is said of the subscriptions that match a topic is so of those that are kept.
pub record AreMatched (s : Subscriptions) (topic : List ℕ) (m : Matched) : Type 0 where
  pub says_so : (question : Question) (qos : ℕ) → says m question qos ≡ matches_kept (set_of s.settled) s.waiting.entries (passing question) topic (least question qos)
  pub distinct : IsDistinct nat_eq (keys_of s.waiting.entries)

-- It answers what each delivery asks of the subscriptions that match, of which this word says whether some passes a test.
pub record AnswersAll (m : Matched) (matching : (Subscribed → Bool) → Bool) : Type 0 where
  pub any_is : matching any_subscription ≡ is_some m.ceiling
  pub ceiling_is : (qos : ℕ) → matching (λ s. nat_le qos s.ceiling) ≡ has_ceiling (nat_le qos) m.ceiling
  pub unidentified_is : matching (λ s. not (is_some s.identifier)) ≡ m.unidentified
  pub retained_is : matching may_be_retained ≡ m.retained
  pub in_vain_is : matching asks_in_vain ≡ m.in_vain

-- ---- how many filters there are

-- no more than the different ones among filters that have each of them
abbrev pub IsCounted : List Standing → Type 0
IsCounted set = (filters : List (List ℕ)) → ((f : List ℕ) → list_any (λ s. bytes_eq f s.filter) set ≡ true → list_any (bytes_eq f) filters ≡ true) → length set ≤ distinct_count bytes_eq filters

abbrev pub AreCounted : List (ℕ × List Standing) → Type 0
AreCounted [] = Unit {0}
AreCounted (e ∷ es) = IsCounted e.1 × AreCounted es
