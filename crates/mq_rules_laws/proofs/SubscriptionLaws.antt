-- Wherever a statement on subscriptions is false, it is put to the test (B01 to B07).
use Rattle.std.proofs.Common.{◌≡◌, ℕ, ◌==◌, nat_le, nat_lt, arith, Bool, true, false, ◌&&◌, ◌||◌, not, List, [], ◌∷◌, length, is_some, refl}
use Rattle.std.specs.List.{list_any}
use Rattle.std.proofs.lemmas.Bool.{le-leb}
use Rattle.mq_packet.specs.declared.packet.Qos.{Qos}
use Rattle.mq_packet.specs.declared.packet.Qos.TheVariants as quality
use Rattle.mq_topic.specs.Matching.{matches}
use Rattle.mq_rules.specs.declared.role.Role.{Role}
use Rattle.mq_rules.specs.declared.fate.Fate.{Fate}
use Rattle.mq_rules.specs.declared.packet_note.PublishNote.{PublishNote}
use Rattle.mq_rules.specs.declared.text.NotedFilter.{NotedFilter}
use Rattle.mq_rules.specs.Words.{is_some_and}
use Rattle.mq_rules.specs.Notes.{refuses, sent_publish, is_acknowledged, qos_number, sent_grant, sent_deletion, received_subscription, received_unsubscription}
use Rattle.mq_rules.specs.Moments.{Moment, note, some}
use Rattle.mq_rules.specs.Identifiers.{session_before}
use Rattle.mq_rules.specs.Exchanges.{subscribe_suback, unsubscribe_unsuback, first_unanswered}
use Rattle.mq_rules.specs.Subscriptions.{Standing, standing_at, topic_of, asks_to_share, is_delivered_so, breaks_B01, breaks_B02, breaks_B03, breaks_B04, breaks_B05, applies_B01, applies_B02, applies_B03, applies_B04, applies_B05, requested_each, some_granted}
use Rattle.mq_rules.specs.FurtherSubscriptions.{is_clear_before, stood_until, subscribed_each, some_coded, is_unsubscribed_so, is_deleted, is_denied, was_subscribed, breaks_B06, breaks_B07, applies_B06, applies_B07}
use Rattle.mq_rules.proofs.Exports.{and_true, both_true, or_left, or_right}
use Rattle.mq_rules_laws.proofs.WiderLaws.{is_there, wider-there}

-- a PUBLISH that passes another test
wider-delivered : (role : Role) (f : Fate) (k : Moment) (a b : PublishNote → List ℕ → Bool) → ((p : PublishNote) (topic : List ℕ) → a p topic ≡ true → b p topic ≡ true)
    → is_delivered_so role f k a ≡ true → is_delivered_so role f k b ≡ true
wider-delivered role f k a b each h = wider-there (passing a) (passing b) new (sent_publish (note k)) h
  where
    known : Bool
    known = not (some asks_to_share (session_before role f k))

    passing : (PublishNote → List ℕ → Bool) → PublishNote → Bool
    passing test p = not p.duplicate && (known && is_some_and (test p) (topic_of k p))

    new : (p : PublishNote) → passing a p ≡ true → passing b p ≡ true
    new p h =
        let q = both_true (not p.duplicate) (known && is_some_and (a p) (topic_of k p)) h in
        let r = both_true known (is_some_and (a p) (topic_of k p)) q.1 in
        and_true (not p.duplicate) (known && is_some_and (b p) (topic_of k p)) q.0 (and_true known (is_some_and (b p) (topic_of k p)) r.0 (wider-there (a p) (b p) (each p) (topic_of k p) r.1))

pub B01-applies : (role : Role) (f : Fate) (k : Moment) → breaks_B01 role f k ≡ true → applies_B01 role f k ≡ true
unfolding breaks_B01 applies_B01
B01-applies role f k h = wider-delivered role f k (λ p topic. not (list_any (λ s. matches s.filter topic) (standing_at role f k))) (λ p topic. true) (λ p topic t. refl) h

-- at QoS 0 no ceiling is too low
some-at-zero : (topic : List ℕ) (ss : List Standing) → (list_any (λ s. matches s.filter topic) ss && not (list_any (λ s. matches s.filter topic && nat_le 0 s.ceiling) ss)) ≡ true → ⊥
some-at-zero topic [] h = absurd (cc)
some-at-zero topic (s ∷ ss) h = go (matches s.filter topic) h (some-at-zero topic ss)
  where
    go : (b : Bool) → ((b || list_any (λ s. matches s.filter topic) ss) && not ((b && nat_le 0 s.ceiling) || list_any (λ s. matches s.filter topic && nat_le 0 s.ceiling) ss)) ≡ true
        → ((list_any (λ s. matches s.filter topic) ss && not (list_any (λ s. matches s.filter topic && nat_le 0 s.ceiling) ss)) ≡ true → ⊥) → ⊥
    go true h rest = absurd (let zero : nat_le 0 s.ceiling ≡ true = le-leb 0 s.ceiling (omega arith) in cc)
    go false h rest = rest h

pub B02-applies : (role : Role) (f : Fate) (k : Moment) → breaks_B02 role f k ≡ true → applies_B02 role f k ≡ true
unfolding breaks_B02 applies_B02
B02-applies role f k h = wider-delivered role f k (λ p topic. too_high p.qos topic) (λ p topic. is_acknowledged p.qos) (λ p topic t. above p.qos topic t) h
  where
    too_high : Qos → List ℕ → Bool
    too_high q topic = list_any (λ s. matches s.filter topic) (standing_at role f k) && not (list_any (λ s. matches s.filter topic && nat_le (qos_number q) s.ceiling) (standing_at role f k))

    above : (q : Qos) (topic : List ℕ) → too_high q topic ≡ true → is_acknowledged q ≡ true
    above quality.AtMostOnce topic h = absurd (some-at-zero topic (standing_at role f k) h)
    above quality.AtLeastOnce topic h = refl
    above quality.ExactlyOnce topic h = refl

pub B03-applies : (k : Moment) → breaks_B03 k ≡ true → applies_B03 k ≡ true
unfolding breaks_B03 applies_B03
B03-applies k h = wider-there (λ a. is_some_and (λ j. is_some_and (λ s. not (length s.filters == length a.codes)) (received_subscription (note j))) (first_unanswered subscribe_suback a.identifier k))
    (λ a. is_some (first_unanswered subscribe_suback a.identifier k))
    (λ a. is_there (λ j. is_some_and (λ s. not (length s.filters == length a.codes)) (received_subscription (note j))) (first_unanswered subscribe_suback a.identifier k)) (sent_grant (note k)) h

pub B04-applies : (k : Moment) → breaks_B04 k ≡ true → applies_B04 k ≡ true
unfolding breaks_B04 applies_B04
B04-applies k h = wider-there (λ a. is_some_and (λ j. is_some_and (λ u. not (length u.filters == length a.codes)) (received_unsubscription (note j))) (first_unanswered unsubscribe_unsuback a.identifier k))
    (λ a. is_some (first_unanswered unsubscribe_unsuback a.identifier k))
    (λ a. is_there (λ j. is_some_and (λ u. not (length u.filters == length a.codes)) (received_unsubscription (note j))) (first_unanswered unsubscribe_unsuback a.identifier k)) (sent_deletion (note k)) h

-- what is granted so that it passes a test is granted
wider-granted : (test : ℕ → ℕ → Bool) (asked codes : List ℕ) → some_granted test asked codes ≡ true → some_granted (λ qos code. true) asked codes ≡ true
wider-granted test [] codes h = absurd (cc)
wider-granted test (qos ∷ others) [] h = absurd (cc)
wider-granted test (qos ∷ others) (code ∷ codes) h = go (not (refuses code)) (test qos code) (wider-granted test others codes) h
  where
    go : (b t : Bool) → (some_granted test others codes ≡ true → some_granted (λ qos code. true) others codes ≡ true) → ((b && t) || some_granted test others codes) ≡ true → ((b && true) || some_granted (λ qos code. true) others codes) ≡ true
    go true t rest h = refl
    go false t rest h = rest h

pub B05-applies : (k : Moment) → breaks_B05 k ≡ true → applies_B05 k ≡ true
unfolding breaks_B05 applies_B05
B05-applies k h = wider-there (λ a. is_some_and (granted_so nat_lt a.codes) (first_unanswered subscribe_suback a.identifier k)) (λ a. is_some_and (granted_so (λ qos code. true) a.codes) (first_unanswered subscribe_suback a.identifier k))
    (λ a. wider-there (granted_so nat_lt a.codes) (granted_so (λ qos code. true) a.codes)
    (λ j. wider-there (λ s. some_granted nat_lt (requested_each s.filters) a.codes) (λ s. some_granted (λ qos code. true) (requested_each s.filters) a.codes)
    (λ s. wider-granted nat_lt (requested_each s.filters) a.codes) (received_subscription (note j))) (first_unanswered subscribe_suback a.identifier k)) (sent_grant (note k)) h
  where
    granted_so : (ℕ → ℕ → Bool) → List ℕ → Moment → Bool
    granted_so test codes j = is_some_and (λ s. some_granted test (requested_each s.filters) codes) (received_subscription (note j))

-- some Reason Code that passes a test with what stands at its place passes a wider one
wider-coded : {A : Type 0} (test wide : A → ℕ → Bool) → ((a : A) (code : ℕ) → test a code ≡ true → wide a code ≡ true) → (asked : List A) (codes : List ℕ) → some_coded test asked codes ≡ true → some_coded wide asked codes ≡ true
wider-coded test wide implies [] codes h = absurd (cc)
wider-coded test wide implies (a ∷ others) [] h = absurd (cc)
wider-coded test wide implies (a ∷ others) (code ∷ codes) h = go (test a code) (implies a code) (wider-coded test wide implies others codes) h
  where
    go : (b : Bool) → (b ≡ true → wide a code ≡ true) → (some_coded test others codes ≡ true → some_coded wide others codes ≡ true) → (b || some_coded test others codes) ≡ true → (wide a code || some_coded wide others codes) ≡ true
    go true here rest h = or_left (wide a code) (some_coded wide others codes) (here refl)
    go false here rest h = or_right (wide a code) (some_coded wide others codes) (rest h)

-- an UNSUBACK whose Reason Codes pass a test passes a wider one
wider-unsubscribed : (role : Role) (f : Fate) (k : Moment) (test wide : Moment → List NotedFilter → List ℕ → Bool)
    → ((u : Moment) (asked : List NotedFilter) (codes : List ℕ) → test u asked codes ≡ true → wide u asked codes ≡ true) → is_unsubscribed_so role f k test ≡ true → is_unsubscribed_so role f k wide ≡ true
wider-unsubscribed role f k test wide implies h =
    let p = both_true (is_clear_before role f k) (is_some_and (λ a. is_some_and (asked_so test a.codes) (first_unanswered unsubscribe_unsuback a.identifier k)) (sent_deletion (note k))) h in
    and_true (is_clear_before role f k) (is_some_and (λ a. is_some_and (asked_so wide a.codes) (first_unanswered unsubscribe_unsuback a.identifier k)) (sent_deletion (note k))) p.0
    (wider-there (λ a. is_some_and (asked_so test a.codes) (first_unanswered unsubscribe_unsuback a.identifier k)) (λ a. is_some_and (asked_so wide a.codes) (first_unanswered unsubscribe_unsuback a.identifier k))
    (λ a. wider-there (asked_so test a.codes) (asked_so wide a.codes)
    (λ u. wider-there (λ s. test u s.filters a.codes) (λ s. wide u s.filters a.codes) (λ s. implies u s.filters a.codes) (received_unsubscription (note u)))
    (first_unanswered unsubscribe_unsuback a.identifier k)) (sent_deletion (note k)) p.1)
  where
    asked_so : (Moment → List NotedFilter → List ℕ → Bool) → List ℕ → Moment → Bool
    asked_so test codes u = is_some_and (λ s. test u s.filters codes) (received_unsubscription (note u))

pub B06-applies : (role : Role) (f : Fate) (k : Moment) → breaks_B06 role f k ≡ true → applies_B06 role f k ≡ true
unfolding breaks_B06 applies_B06
B06-applies role f k h = wider-unsubscribed role f k (λ u asked codes. some_coded denied_so (subscribed_each (stood_until role f k u) asked) codes) (λ u asked codes. some_coded told_so (subscribed_each (stood_until role f k u) asked) codes)
    (λ u asked codes. wider-coded denied_so told_so told (subscribed_each (stood_until role f k u) asked) codes) h
  where
    denied_so : Bool → ℕ → Bool
    denied_so stands code = stands && is_denied code

    told_so : Bool → ℕ → Bool
    told_so stands code = stands && (is_deleted code || is_denied code)

    told : (stands : Bool) (code : ℕ) → denied_so stands code ≡ true → told_so stands code ≡ true
    told stands code h =
        let p = both_true stands (is_denied code) h in
        and_true stands (is_deleted code || is_denied code) p.0 (or_right (is_deleted code) (is_denied code) p.1)

pub B07-applies : (role : Role) (f : Fate) (k : Moment) → breaks_B07 role f k ≡ true → applies_B07 role f k ≡ true
unfolding breaks_B07 applies_B07
B07-applies role f k h = wider-unsubscribed role f k (λ u asked codes. some_coded deleted_so asked codes) (λ u asked codes. some_coded told_so asked codes) (λ u asked codes. wider-coded deleted_so told_so told asked codes) h
  where
    deleted_so : NotedFilter → ℕ → Bool
    deleted_so g code = is_deleted code && not (was_subscribed role f k g.filter)

    told_so : NotedFilter → ℕ → Bool
    told_so g code = is_deleted code || (is_denied code && not (was_subscribed role f k g.filter))

    told : (g : NotedFilter) (code : ℕ) → deleted_so g code ≡ true → told_so g code ≡ true
    told g code h =
        or_left (is_deleted code) (is_denied code && not (was_subscribed role f k g.filter)) (both_true (is_deleted code) (not (was_subscribed role f k g.filter)) h).0
