-- Wherever a statement on the subscriptions that match what is delivered is false, it is put to the test (B08, B09, P01, P02, R01 and R02).
use Rattle.std.proofs.Common.{◌≡◌, ℕ, ◌<◌, nat_le, nat_lt, arith, Bool, true, false, ◌&&◌, ◌||◌, not, List, [], ◌∷◌, length, refl}
use Rattle.std.specs.List.{list_any}
use Rattle.std.proofs.lemmas.Bool.{le-leb, lt-ltb}
use Rattle.mq_packet.specs.declared.packet.Qos.{Qos}
use Rattle.mq_packet.specs.declared.packet.Qos.TheVariants as quality
use Rattle.mq_rules.specs.declared.role.Role.{Role}
use Rattle.mq_rules.specs.declared.fate.Fate.{Fate}
use Rattle.mq_rules.specs.declared.packet_note.PublishNote.{PublishNote}
use Rattle.mq_rules.specs.Words.{is_some_and}
use Rattle.mq_rules.specs.Notes.{sent_publish, is_acknowledged, qos_number}
use Rattle.mq_rules.specs.Moments.{Moment, note}
use Rattle.mq_rules.specs.Identifiers.{session_before}
use Rattle.mq_rules.specs.Subscriptions.{topic_of}
use Rattle.mq_rules.specs.FurtherSubscriptions.{is_clear_before}
use Rattle.mq_rules.specs.MatchingSubscriptions.{Subscribed, subscribed_from, is_about, some_matching, is_matched_so, is_sharing, any_subscription, is_named, takes_identifiers, are_identified, are_unretained, are_shared, breaks_B08, breaks_B09, breaks_P01, breaks_P02, breaks_R01, breaks_R02, applies_B08, applies_B09, applies_P01, applies_P02, applies_R01, applies_R02}
use Rattle.mq_rules.proofs.Exports.{and_true, both_true, or_left, or_right}
use Rattle.mq_rules_laws.proofs.WiderLaws.{first_true, wider-some, wider-there}

-- a PUBLISH that passes another test with the subscriptions that match it
wider-matched : (role : Role) (f : Fate) (k : Moment) (a b : PublishNote → ((Subscribed → Bool) → Bool) → Bool)
    → ((p : PublishNote) (topic : List ℕ) → a p (some_matching role f k topic) ≡ true → b p (some_matching role f k topic) ≡ true) → is_matched_so role f k a ≡ true → is_matched_so role f k b ≡ true
wider-matched role f k a b each h =
    let q = both_true (is_clear_before role f k) (is_some_and (passing a) (sent_publish (note k))) h in
    and_true (is_clear_before role f k) (is_some_and (passing b) (sent_publish (note k))) q.0 (wider-there (passing a) (passing b) new (sent_publish (note k)) q.1)
  where
    about : (PublishNote → ((Subscribed → Bool) → Bool) → Bool) → PublishNote → List ℕ → Bool
    about test p topic = test p (some_matching role f k topic)

    passing : (PublishNote → ((Subscribed → Bool) → Bool) → Bool) → PublishNote → Bool
    passing test p = not p.duplicate && is_some_and (about test p) (topic_of k p)

    new : (p : PublishNote) → passing a p ≡ true → passing b p ≡ true
    new p t =
        let r = both_true (not p.duplicate) (is_some_and (about a p) (topic_of k p)) t in
        and_true (not p.duplicate) (is_some_and (about b p) (topic_of k p)) r.0 (wider-there (about a p) (about b p) (each p) (topic_of k p) r.1)

pub B08-applies : (role : Role) (f : Fate) (k : Moment) → breaks_B08 role f k ≡ true → applies_B08 role f k ≡ true
unfolding breaks_B08 applies_B08
B08-applies role f k h = wider-matched role f k (λ p matching. is_sharing role f k && not (matching any_subscription)) (λ p matching. is_sharing role f k)
    (λ p topic. first_true (is_sharing role f k) (not (some_matching role f k topic any_subscription))) h

-- some value in a list that passes another test
wider-any : {A : Type 0} (a b : A → Bool) → ((x : A) → a x ≡ true → b x ≡ true) → (xs : List A) → list_any a xs ≡ true → list_any b xs ≡ true
wider-any a b each [] h = absurd (cc)
wider-any a b each (x ∷ xs) h = go (a x) (each x) (wider-any a b each xs) h
  where
    go : (t : Bool) → (t ≡ true → b x ≡ true) → (list_any a xs ≡ true → list_any b xs ≡ true) → (t || list_any a xs) ≡ true → (b x || list_any b xs) ≡ true
    go true here rest h = or_left (b x) (list_any b xs) (here refl)
    go false here rest h = or_right (b x) (list_any b xs) (rest h)

-- some subscription that matches has a ceiling of at least 0
some-at-zero : (role : Role) (f : Fate) (k : Moment) (topic : List ℕ) → some_matching role f k topic any_subscription ≡ true → some_matching role f k topic (λ s. nat_le 0 s.ceiling) ≡ true
some-at-zero role f k topic h = wider-some (λ j. list_any (λ s. is_about topic s && true) (subscribed_from k j)) (λ j. list_any (λ s. is_about topic s && nat_le 0 s.ceiling) (subscribed_from k j))
    (λ j. wider-any (λ s. is_about topic s && true) (λ s. is_about topic s && nat_le 0 s.ceiling) above (subscribed_from k j)) (session_before role f k) h
  where
    above : (s : Subscribed) → (is_about topic s && true) ≡ true → (is_about topic s && nat_le 0 s.ceiling) ≡ true
    above s t = and_true (is_about topic s) (nat_le 0 s.ceiling) (both_true (is_about topic s) true t).0 (le-leb 0 s.ceiling (omega arith))

pub B09-applies : (role : Role) (f : Fate) (k : Moment) → breaks_B09 role f k ≡ true → applies_B09 role f k ≡ true
unfolding breaks_B09 applies_B09
B09-applies role f k h = wider-matched role f k (λ p matching. is_sharing role f k && too_high p.qos matching) (λ p matching. is_sharing role f k && is_acknowledged p.qos) acknowledged h
  where
    too_high : Qos → ((Subscribed → Bool) → Bool) → Bool
    too_high q matching = matching any_subscription && not (matching (λ s. nat_le (qos_number q) s.ceiling))

    above : (q : Qos) (topic : List ℕ) → too_high q (some_matching role f k topic) ≡ true → is_acknowledged q ≡ true
    above quality.AtMostOnce topic t = absurd (
        let p = both_true (some_matching role f k topic any_subscription) (not (some_matching role f k topic (λ s. nat_le 0 s.ceiling))) t in
        let low = p.1 in
        let zero = some-at-zero role f k topic p.0 in
        cc)
    above quality.AtLeastOnce topic t = refl
    above quality.ExactlyOnce topic t = refl

    acknowledged : (p : PublishNote) (topic : List ℕ) → (is_sharing role f k && too_high p.qos (some_matching role f k topic)) ≡ true → (is_sharing role f k && is_acknowledged p.qos) ≡ true
    acknowledged p topic t =
        let q = both_true (is_sharing role f k) (too_high p.qos (some_matching role f k topic)) t in
        and_true (is_sharing role f k) (is_acknowledged p.qos) q.0 (above p.qos topic q.1)

pub P01-applies : (role : Role) (f : Fate) (k : Moment) → breaks_P01 role f k ≡ true → applies_P01 role f k ≡ true
unfolding breaks_P01 applies_P01
P01-applies role f k h = wider-matched role f k (λ p matching. matching any_subscription && has_foreign matching p.subscription_identifiers) (λ p matching. nat_lt 0 (length p.subscription_identifiers) && matching any_subscription) named h
  where
    has_foreign : ((Subscribed → Bool) → Bool) → List ℕ → Bool
    has_foreign matching ids = list_any (λ i. not (matching (is_named i))) ids

    some-of : (test : ℕ → Bool) (ids : List ℕ) → list_any test ids ≡ true → nat_lt 0 (length ids) ≡ true
    some-of test [] t = absurd (cc)
    some-of test (i ∷ ids) t =
        let one : 0 < length (i ∷ ids) = omega arith in
        lt-ltb 0 (length (i ∷ ids)) one

    named : (p : PublishNote) (topic : List ℕ) → (some_matching role f k topic any_subscription && has_foreign (some_matching role f k topic) p.subscription_identifiers) ≡ true → (nat_lt 0 (length p.subscription_identifiers) && some_matching role f k topic any_subscription) ≡ true
    named p topic t =
        let q = both_true (some_matching role f k topic any_subscription) (has_foreign (some_matching role f k topic) p.subscription_identifiers) t in
        and_true (nat_lt 0 (length p.subscription_identifiers)) (some_matching role f k topic any_subscription) (some-of (λ i. not (some_matching role f k topic (is_named i))) p.subscription_identifiers q.1) q.0

pub P02-applies : (role : Role) (f : Fate) (k : Moment) → breaks_P02 role f k ≡ true → applies_P02 role f k ≡ true
unfolding breaks_P02 applies_P02
P02-applies role f k h = wider-matched role f k (λ p matching. (takes_identifiers role k && are_identified matching) && not p.has_subscription_identifier) (λ p matching. takes_identifiers role k && are_identified matching)
    (λ p topic. first_true (takes_identifiers role k && are_identified (some_matching role f k topic)) (not p.has_subscription_identifier)) h

pub R01-applies : (role : Role) (f : Fate) (k : Moment) → breaks_R01 role f k ≡ true → applies_R01 role f k ≡ true
unfolding breaks_R01 applies_R01
R01-applies role f k h = wider-matched role f k (λ p matching. are_unretained matching && p.retain) (λ p matching. are_unretained matching)
    (λ p topic. first_true (are_unretained (some_matching role f k topic)) p.retain) h

pub R02-applies : (role : Role) (f : Fate) (k : Moment) → breaks_R02 role f k ≡ true → applies_R02 role f k ≡ true
unfolding breaks_R02 applies_R02
R02-applies role f k h = wider-matched role f k (λ p matching. are_shared matching && p.retain) (λ p matching. are_shared matching)
    (λ p topic. first_true (are_shared (some_matching role f k topic)) p.retain) h
