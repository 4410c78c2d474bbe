-- The last SUBSCRIBE that asks for a topic, with one event more, and as evidence.
use Rattle.std.proofs.Common.{◌≡◌, ℕ, nat_le, Bool, true, false, cond, ◌&&◌, ◌||◌, List, [], ◌∷◌, Option, Some, None, refl, ap, sym, ◌∙◌}
use Rattle.std.specs.Prelude.{option_map, unwrap_or}
use Rattle.std.specs.Option.{option_and_then}
use Rattle.std.specs.List.{list_any}
use Rattle.mq_topic.specs.Matching.{matches}
use Rattle.mq_rules.specs.declared.role.Role.{Role}
use Rattle.mq_rules.specs.declared.fate.Fate.{Fate}
use Rattle.mq_rules.specs.declared.note.Note.{Note}
use Rattle.mq_rules.specs.declared.text.NotedFilter.{NotedFilter}
use Rattle.mq_rules.specs.declared.packet_note.PublishNote.{PublishNote}
use Rattle.mq_rules.specs.Words.{is_some_and}
use Rattle.mq_rules.specs.Notes.{Subscription, sent_publish, received_subscription}
use Rattle.mq_rules.specs.Moments.{Moment, position, note, some, latest, IsDescending}
use Rattle.mq_rules.specs.Subscriptions.{topic_of}
use Rattle.mq_rules.specs.MatchingSubscriptions.{identifier_at, is_about, subscribed_by}
use Rattle.mq_rules.specs.Evidence.{nothing}
use Rattle.mq_rules.proofs.Exports.{or_false}
use Rattle.mq_filters.specs.Standings.{has_ceiling}
use Rattle.mq_evidence.specs.Evidence.{it, found, by_matching, last_asking, asks_about}
use Rattle.mq_evidence.specs.Matching.{is_among, asks_for}
use Rattle.mq_evidence.specs.Stretches.{longer}
use Rattle.mq_evidence.proofs.CeilingLaws.{latest-has, same-ceiling, some-alike}

-- what was asked for, with one event more
pub requests-kept : (test : List ℕ → Bool) (first : ℕ) (begins inside : Bool) (at : ℕ) (n : Note) (m : Moment) (ms : List Moment) (old begun new : Bool) → position m ≡ at → note m ≡ n
    → old ≡ some (λ j. asks_for test (note j) && nat_le first (position j)) ms → begun ≡ cond begins false old → new ≡ (begun || (inside && (asks_for test n && nat_le first at)))
    → new ≡ some (λ j. asks_for test (note j) && nat_le first (position j)) (longer begins inside m ms)
requests-kept test first begins inside at n m ms old begun new placed same before started grown =
    grown
    ∙ ap (λ b. b || (inside && (asks_for test n && nat_le first at))) (started ∙ ap (cond begins false) before)
    ∙ ap (λ x. cond begins false (some kept ms) || (inside && (asks_for test x && nat_le first at))) (sym same)
    ∙ ap (λ p. cond begins false (some kept ms) || (inside && (asks_for test (note m) && nat_le first p))) (sym placed)
    ∙ go begins inside
  where
    kept : Moment → Bool
    kept j = asks_for test (note j) && nat_le first (position j)

    turned : (a b : Bool) → (a || b) ≡ (b || a)
    turned true true = refl
    turned true false = refl
    turned false b = sym (or_false b)

    go : (b i : Bool) → (cond b false (some kept ms) || (i && kept m)) ≡ some kept (longer b i m ms)
    go true true = sym (or_false (kept m))
    go true false = refl
    go false true = turned (some kept ms) (kept m)
    go false false = or_false (some kept ms)

-- a subscription that a SUBSCRIBE asks for matches the topic if one of its filters does, or one after its ShareName
asked-about : (topic : List ℕ) (identifier : Option ℕ) (gs : List NotedFilter) → list_any (is_about topic) (subscribed_by identifier gs []) ≡ list_any (λ g. is_among (λ filter. matches filter topic) g.filter) gs
asked-about topic identifier [] = refl
asked-about topic identifier (g ∷ gs) = ap (λ b. is_among (λ filter. matches filter topic) g.filter || b) (asked-about topic identifier gs)

about-asked : (topic : List ℕ) (j : Moment) → asks_about topic j ≡ asks_for (λ filter. matches filter topic) (note j)
about-asked topic j = go (received_subscription (note j))
  where
    go : (o : Option Subscription) → list_any (is_about topic) (unwrap_or (option_map (λ s. subscribed_by (identifier_at j) s.filters []) o) []) ≡ is_some_and (λ s. list_any (λ g. is_among (λ filter. matches filter topic) g.filter) s.filters) o
    go None = refl
    go (Some s) = asked-about topic (identifier_at j) s.filters

-- what is as late as just the SUBSCRIBEs that ask for such a subscription is the last of them
pub last-asked : (topic : List ℕ) (ms : List Moment) (o : Option ℕ) → IsDescending ms → ((q : ℕ) → has_ceiling (nat_le q) o ≡ some (λ j. asks_for (λ filter. matches filter topic) (note j) && nat_le q (position j)) ms)
    → o ≡ option_map position (latest (asks_about topic) ms)
last-asked topic ms o d h = same-ceiling o (option_map position (latest (asks_about topic) ms)) (λ q.
    h q
    ∙ some-alike (λ j. asks_for (λ filter. matches filter topic) (note j) && nat_le q (position j)) (λ j. asks_about topic j && nat_le q (position j)) ms (λ j. ap (λ b. b && nat_le q (position j)) (sym (about-asked topic j)))
    ∙ sym (latest-has (asks_about topic) q ms d))

-- ---- what a PUBLISH conflicts with

-- where none is sent
pub matching-none : (role : Role) (f : Fate) (k : Moment) → sent_publish (note k) ≡ None → found (by_matching role) (Some f) None k ≡ nothing
matching-none role f k none = ap (λ o. it (option_and_then (λ topic. last_asking role f topic k) (option_and_then (topic_of k) o))) none

-- where one is
pub matching-is : (role : Role) (f : Fate) (k : Moment) (p : PublishNote) → sent_publish (note k) ≡ Some p → found (by_matching role) (Some f) None k ≡ it (option_and_then (λ topic. last_asking role f topic k) (topic_of k p))
matching-is role f k p sent = ap (λ o. it (option_and_then (λ topic. last_asking role f topic k) (option_and_then (topic_of k) o))) sent
