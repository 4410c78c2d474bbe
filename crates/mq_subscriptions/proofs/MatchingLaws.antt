-- The subscriptions of a session, with one event more, and what a delivery asks of them.
use Rattle.std.proofs.Common.{◌≡◌, ℕ, ◌+◌, ◌≤◌, ◌==◌, arith, nat_eq, nat_le, Bool, true, false, cond, ◌&&◌, ◌||◌, not, List, [], ◌∷◌, length, Option, Some, None, refl, ap, sym, ◌∙◌, subst, ◌⊎◌, inl, inr}
use Rattle.std.specs.Prelude.{is_some, unwrap_or, option_map}
use Rattle.std.specs.Option.{option_or, option_and_then}
use Rattle.std.specs.List.{list_any, sum_by, IsDistinct, AllByRecursion}
use Rattle.std.specs.Map.{keys_of, lookup}
use Rattle.std.proofs.lemmas.Bool.{eq-eqb, eqb-true, le-leb}
use Rattle.indexmap.specs.IndexMap.{get}
use Rattle.mq_topic.specs.Matching.{matches}
use Rattle.mq_rules.specs.declared.role.Role.{Role}
use Rattle.mq_rules.specs.declared.role.Tested.{Tested}
use Rattle.mq_rules.specs.declared.fate.Fate.{Fate}
use Rattle.mq_rules.specs.declared.note.Note.{Note}
use Rattle.mq_rules.specs.declared.note.Seen.{Seen}
use Rattle.mq_rules.specs.declared.text.NotedFilter.{NotedFilter}
use Rattle.mq_rules.specs.Words.{is_some_and, is_id, only}
use Rattle.mq_rules.specs.Notes.{Subscription, Grant, is_open, is_boundary, is_release, refuses, subscription_in, received_subscription, sent_grant}
use Rattle.mq_rules.specs.Moments.{Moment, newest, note, moments, position, is_same, some, earliest_since, Among, IsEarliestSince}
use Rattle.mq_rules.specs.Connections.{begun, number, is_connected, connection, on_open, latest_fate, fate as fate_of, fate_under, IsLoose, IsInSession, accepts, accepted, begins, session, IsOnConnection}
use Rattle.mq_rules.specs.Exchanges.{causes, answers, first_unanswered, subscribe_suback}
use Rattle.mq_rules.specs.Subscriptions.{Standing, requested}
use Rattle.mq_rules.specs.Under.{fate_before}
use Rattle.mq_rules.specs.Wishes.{is_share, shared_filter}
use Rattle.mq_rules.specs.MatchingSubscriptions.{Subscribed, subscribed_to, subscribed_by, identifier_at, subscribed_from, is_about, some_matching, any_subscription, is_named, may_be_retained, asks_in_vain}
use Rattle.mq_rules.specs.FurtherSubscriptions.{answers_subscribe}
use Rattle.mq_rules.proofs.Exports.{among-some, among-within, and_false, and_true, begun-same, both_true, differ, not_true, on_open-connected, option_or-none, or_false, or_left, or_parts, or_right, same_test, session-members, some-among}
use Rattle.mq_filters.specs.Standings.{allows, has_ceiling}
use Rattle.mq_subscriptions.specs.declared.subscribed.Settled.{Settled}
use Rattle.mq_subscriptions.specs.declared.subscribed.Subscriptions.{Subscriptions}
use Rattle.mq_subscriptions.specs.declared.subscribed.Matched.{Matched}
use Rattle.mq_subscriptions.specs.Burden.{at_least_one}
use Rattle.mq_subscriptions.specs.Countings.{names, subscription_count, grant_count, subscribes_so}
use Rattle.mq_subscriptions.specs.Firsts.{found_first, first_next}
use Rattle.mq_subscriptions.specs.Standings.{goes_on, first_code, other_codes}
use Rattle.mq_subscriptions.specs.Deletings.{codes_given, requests_under, answers_under}
use Rattle.mq_subscriptions.specs.Matchings.{Question, any, unidentified, retained, in_vain, answers_to, Kind, passing, bearing, of_kind, has_text, serves, Asks, identifier_in, asks_of, granted_to, as_asked, some_waits, subscribed_one, first_waiting, waits, subscribed_in, settled_from, settled_asked, settled_granted, settled_next, waiting_packet, waiting_next, TakesIn, AreSubscriptions, least, matches_kept}
use Rattle.mq_subscriptions.specs.Subscribings.{set_of, says, TakesInEvent, AreKept, AreMatched, AnswersAll}
use Rattle.mq_subscriptions.proofs.FirstLaws.{found-next}
use Rattle.mq_subscriptions.proofs.StandingLaws.{boundary-none, boundary-parts, session-some, some-alike, some-either, some-none, unsubscribed}
use Rattle.mq_subscriptions.proofs.DeletionLaws.{boundary-alone, connection-session, first-step, grants-alone, names-answers, names-requests, release-causes, request-of, subscribes-alone}
use Rattle.mq_subscriptions.proofs.AnsweredLaws.{connection-inside, first-stands, given-newest, given-next, given-same, given-unanswered, same-moment}

-- ---- the subscriptions of a SUBSCRIBE, filter by filter

pub one_more : (t : Subscribed → Bool) (identifier : Option ℕ) (g : NotedFilter) (gs : List NotedFilter) (codes : List ℕ)
    → list_any t (subscribed_by identifier (g ∷ gs) codes) ≡ (list_any t (subscribed_one identifier g (first_code codes)) || list_any t (subscribed_by identifier gs (other_codes codes)))
one_more t identifier g gs [] = ap (λ b. b || list_any t (subscribed_by identifier gs [])) (sym (or_false (t (subscribed_to identifier g (requested g)))))
one_more t identifier g gs (code ∷ codes) = go (refuses code)
  where
    go : (b : Bool) → list_any t (cond b (subscribed_by identifier gs codes) (subscribed_to identifier g code ∷ subscribed_by identifier gs codes))
        ≡ (list_any t (cond b [] (subscribed_to identifier g code ∷ [])) || list_any t (subscribed_by identifier gs codes))
    go true = refl
    go false = ap (λ b. b || list_any t (subscribed_by identifier gs codes)) (sym (or_false (t (subscribed_to identifier g code))))

-- ---- what waits, with one event more

and-some : (o : Option Moment) → option_and_then (λ m. Some m) o ≡ o
and-some None = refl
and-some (Some m) = refl

first-next-is : (i : ℕ) (e : Seen) (past : List Seen) → IsOnConnection e past
    → first_waiting i (e ∷ past) ≡ first_next (is_boundary e.note) (requests_under i (received_subscription e.note)) (answers_under i (sent_grant e.note)) (Some (newest e past)) (first_waiting i past)
first-next-is i e past on =
    sym (and-some (first_waiting i (e ∷ past)))
    ∙ found-next subscribe_suback (λ m. Some m) (λ n i h. subscribes_so.causes_are n i ∙ ap (λ o. names i (option_map subscription_count (option_and_then subscription_in o))) h) (λ m i h. (m, refl)) i e past on
    ∙ ap (λ b. first_next (is_boundary e.note) b (is_id i (subscribe_suback.answer e.note)) (Some (newest e past)) (found_first subscribe_suback (λ m. Some m) i past)) (subscribes_so.causes_are e.note i ∙ names-requests i (received_subscription e.note))
    ∙ ap (λ b. first_next (is_boundary e.note) (requests_under i (received_subscription e.note)) b (Some (newest e past)) (found_first subscribe_suback (λ m. Some m) i past)) (subscribes_so.answers_are e.note i ∙ names-answers i (sent_grant e.note))
    ∙ ap (first_next (is_boundary e.note) (requests_under i (received_subscription e.note)) (answers_under i (sent_grant e.note)) (Some (newest e past))) (and-some (first_waiting i past))

-- of an earlier moment
waits-next : (e : Seen) (past : List Seen) → IsOnConnection e past → (j : Moment) → position j ≤ length past
    → waits (e ∷ past) j ≡ is_some_and (λ s. not (answers_under s.identifier (sent_grant e.note)) && (not (is_boundary e.note) && is_some_and (is_same j) (first_waiting s.identifier past))) (received_subscription (note j))
waits-next e past on j within = go (received_subscription (note j))
  where
    later : is_same j (newest e past) ≡ false
    later = differ (position j) (position (newest e past)) (λ same. absurd (omega (arith, within, same)))

    last : (c : Bool) → is_some_and (is_same j) (cond c (Some (newest e past)) None) ≡ false
    last true = later
    last false = refl

    put : (a b c : Bool) (o : Option Moment) → is_some_and (is_same j) (option_or (cond a None (cond b None o)) (cond c (Some (newest e past)) None)) ≡ (not a && (not b && is_some_and (is_same j) o))
    put true b c o = last c
    put false true c o = last c
    put false false c None = last c
    put false false c (Some m) = refl

    go : (o : Option Subscription) → is_some_and (λ s. is_some_and (is_same j) (first_waiting s.identifier (e ∷ past))) o
        ≡ is_some_and (λ s. not (answers_under s.identifier (sent_grant e.note)) && (not (is_boundary e.note) && is_some_and (is_same j) (first_waiting s.identifier past))) o
    go None = refl
    go (Some s) = ap (is_some_and (is_same j)) (first-next-is s.identifier e past on) ∙ put (answers_under s.identifier (sent_grant e.note)) (is_boundary e.note) (requests_under s.identifier (received_subscription e.note)) (first_waiting s.identifier past)

-- ---- moments that wait

-- The moment is the first SUBSCRIBE under its identifier on the open connection that isn't answered.
record IsFirst (past : List Seen) (j : Moment) : Type 0 where
  asked : Subscription
  request : received_subscription (note j) ≡ Some asked
  first : first_waiting asked.identifier past ≡ Some j
  connected : is_connected past ≡ true

-- what waits first is on the open connection
first-there : (i : ℕ) (past : List Seen) (m : Moment) → first_waiting i past ≡ Some m → (is_connected past ≡ true) × (earliest_since (causes subscribe_suback i) (answers subscribe_suback i) (connection past) ≡ Some m)
first-there i past m h = go (is_connected past) refl h
  where
    go : (b : Bool) → is_connected past ≡ b → earliest_since (causes subscribe_suback i) (answers subscribe_suback i) (cond b (connection past) []) ≡ Some m
        → (is_connected past ≡ true) × (earliest_since (causes subscribe_suback i) (answers subscribe_suback i) (connection past) ≡ Some m)
    go true connected h = (connected, h)
    go false connected h = absurd (cc)

first-inside : (i : ℕ) (past : List Seen) (m : Moment) → first_waiting i past ≡ Some m → Among m (moments past) × (number m ≡ begun past)
first-inside i past m h = connection-inside past m (first-stands i (newest m.event past) m (first-there i past m h).1).there

-- it is a SUBSCRIBE under the identifier
first-asked : (i : ℕ) (past : List Seen) (m : Moment) → first_waiting i past ≡ Some m → (s : Subscription) × (received_subscription (note m) ≡ Some s) × (i ≡ s.identifier)
first-asked i past m h =
    let passes = (first-stands i (newest m.event past) m (first-there i past m h).1).passes in
    let r = request-of i (note m) passes in
    let named : (i == r.0.identifier) ≡ true = sym (ap (λ o. names i (option_map subscription_count o)) r.1) ∙ sym (subscribes_so.causes_are (note m) i) ∙ passes in
    (r.0, r.1, eqb-true i r.0.identifier named)

waits-first : (past : List Seen) (j : Moment) → Among j (moments past) → waits past j ≡ true → IsFirst past j
waits-first past j there h = go (received_subscription (note j)) refl h
  where
    within : (s : Subscription) → received_subscription (note j) ≡ Some s → (o : Option Moment) → first_waiting s.identifier past ≡ o → is_some_and (is_same j) o ≡ true → IsFirst past j
    within s p None q h = absurd (cc)
    within s p (Some m) q h =
        let same : m ≡ j = same-moment past m j (first-inside s.identifier past m q).0 there (sym (eqb-true (position j) (position m) h)) in
        record { asked = s; request = p; first = q ∙ ap Some same; connected = (first-there s.identifier past m q).0 }

    go : (o : Option Subscription) → received_subscription (note j) ≡ o → is_some_and (λ s. is_some_and (is_same j) (first_waiting s.identifier past)) o ≡ true → IsFirst past j
    go None p h = absurd (cc)
    go (Some s) p h = within s p (first_waiting s.identifier past) refl h

first-waits : (i : ℕ) (past : List Seen) (m : Moment) → first_waiting i past ≡ Some m → waits past m ≡ true
first-waits i past m h =
    let a = first-asked i past m h in
    ap (is_some_and (λ s. is_some_and (is_same m) (first_waiting s.identifier past))) a.1
    ∙ ap (is_some_and (is_same m)) (ap (λ n. first_waiting n past) (sym a.2) ∙ h)
    ∙ eq-eqb (position m) (position m) refl

-- no Reason Codes came for it
waits-uncoded : (past : List Seen) (j : Moment) → IsFirst past j → codes_given past j ≡ None
waits-uncoded past j w = given-unanswered w.asked.identifier j.event past j (first-there w.asked.identifier past j w.first).1

-- one of the session is on a connection that is accepted
waits-accepted : (role : Role) (taken : Option Fate) (past : List Seen) (j : Moment) → Among j (session role taken past) → IsFirst past j → accepted taken ≡ true
waits-accepted role taken past j a w = go (session-members role taken past j a).1.belongs
  where
    own : number j ≡ begun past
    own = (first-inside w.asked.identifier past j w.first).1

    its : fate_under role taken past (number j) ≡ taken
    its = ap (λ b. cond b taken (fate_of role (number j) past)) (eq-eqb (number j) (begun past) own)

    go : (accepted (fate_under role taken past (number j)) ≡ true) ⊎ IsLoose (fate_under role taken past) j → accepted taken ≡ true
    go (inl is) = ap accepted (sym its) ∙ is
    go (inr loose) =
        let none : received_subscription (note j) ≡ None = unsubscribed (note j) loose.is_released in
        let request = w.request in
        absurd (let bad : None ≡ Some w.asked = sym none ∙ request in cc)

-- what waits first on an accepted connection is in its session
first-session : (role : Role) (taken : Option Fate) (i : ℕ) (past : List Seen) (m : Moment) → accepted taken ≡ true → first_waiting i past ≡ Some m → Among m (session role taken past)
first-session role None i past m acc h = absurd (cc)
first-session role (Some f) i past m acc h = connection-session role f acc past m (first-stands i (newest m.event past) m (first-there i past m h).1).there

-- ---- what waits, of the session and as it is kept

-- what is kept of a SUBSCRIBE
abbrev kept_of : Moment → Subscription → Asks
kept_of j s = record { filters = s.filters; identifier = identifier_at j }

-- the moment waits, and what is kept of it passes the test
abbrev waits_so : (ℕ → Asks → Bool) → List Seen → Moment → Bool
waits_so test past j = waits past j && is_some_and (λ s. test s.identifier (kept_of j s)) (received_subscription (note j))

-- something passes the test that is kept under its identifier
record Keeps (test : ℕ → Asks → Bool) (waiting : List (ℕ × Asks)) : Type 0 where
  identifier : ℕ
  asks : Asks
  found : lookup (nat_eq identifier) waiting ≡ Some asks
  passes : test identifier asks ≡ true

module _ (role : Role) (taken : Option Fate) (past : List Seen) (waiting : List (ℕ × Asks)) (are : (i : ℕ) → lookup (nat_eq i) waiting ≡ only (accepted taken) (found_first subscribe_suback asks_of i past)) where
  waits-kept : (test : ℕ → Asks → Bool) → some (waits_so test past) (session role taken past) ≡ true → Keeps test waiting
  waits-kept test h =
      let m = some-among (waits_so test past) (session role taken past) h in
      let j : Moment = m.0 in
      let parts = both_true (waits past j) (is_some_and (λ s. test s.identifier (kept_of j s)) (received_subscription (note j))) m.2 in
      let w : IsFirst past j = waits-first past j (session-members role taken past j m.1).0 parts.0 in
      let found : lookup (nat_eq w.asked.identifier) waiting ≡ Some (kept_of j w.asked) =
      are w.asked.identifier
      ∙ ap (λ b. only b (found_first subscribe_suback asks_of w.asked.identifier past)) (waits-accepted role taken past j m.1 w)
      ∙ ap (option_and_then asks_of) w.first
      ∙ ap (option_map (kept_of j)) w.request in
      record { identifier = w.asked.identifier; asks = kept_of j w.asked; found = found; passes = sym (ap (is_some_and (λ s. test s.identifier (kept_of j s))) w.request) ∙ parts.1 }

  kept-waits : (test : ℕ → Asks → Bool) → Keeps test waiting → some (waits_so test past) (session role taken past) ≡ true
  kept-waits test k = by (accepted taken) refl (first_waiting k.identifier past) refl (sym (are k.identifier) ∙ k.found)
    where
      at : accepted taken ≡ true → (m : Moment) → first_waiting k.identifier past ≡ Some m → asks_of m ≡ Some k.asks → some (waits_so test past) (session role taken past) ≡ true
      at acc m first is =
          let a = first-asked k.identifier past m first in
          let same : kept_of m a.0 ≡ k.asks = some_is (kept_of m a.0) k.asks (sym (ap (option_map (kept_of m)) a.1) ∙ is) in
          let passes : is_some_and (λ s. test s.identifier (kept_of m s)) (received_subscription (note m)) ≡ true =
          ap (is_some_and (λ s. test s.identifier (kept_of m s))) a.1 ∙ ap (λ i. test i (kept_of m a.0)) (sym a.2) ∙ ap (test k.identifier) same ∙ k.passes in
          among-some (waits_so test past) (session role taken past) m (first-session role taken k.identifier past m acc first)
          (and_true (waits past m) (is_some_and (λ s. test s.identifier (kept_of m s)) (received_subscription (note m))) (first-waits k.identifier past m first) passes)
        where
          some_is : (a b : Asks) → Some a ≡ Some b → a ≡ b
          some_is a b h = cc

      by : (b : Bool) → accepted taken ≡ b → (o : Option Moment) → first_waiting k.identifier past ≡ o → only b (option_and_then asks_of o) ≡ Some k.asks → some (waits_so test past) (session role taken past) ≡ true
      by true acc None first h = absurd (cc)
      by true acc (Some m) first h = at acc m first h
      by false acc o first h = absurd (cc)

  -- what is kept under one identifier
  some-under : (i : ℕ) (test : Asks → Bool) → some (waits_so (λ n w. (i == n) && test w) past) (session role taken past) ≡ is_some_and test (lookup (nat_eq i) waiting)
  some-under i test =
      same_test (some (waits_so (λ n w. (i == n) && test w) past) (session role taken past)) (is_some_and test (lookup (nat_eq i) waiting)) there
      (λ h. back (lookup (nat_eq i) waiting) refl h)
    where
      there : some (waits_so (λ n w. (i == n) && test w) past) (session role taken past) ≡ true → is_some_and test (lookup (nat_eq i) waiting) ≡ true
      there h =
          let k = waits-kept (λ n w. (i == n) && test w) h in
          let parts = both_true (i == k.identifier) (test k.asks) k.passes in
          ap (λ n. is_some_and test (lookup (nat_eq n) waiting)) (eqb-true i k.identifier parts.0) ∙ ap (is_some_and test) k.found ∙ parts.1

      back : (o : Option Asks) → lookup (nat_eq i) waiting ≡ o → is_some_and test o ≡ true → some (waits_so (λ n w. (i == n) && test w) past) (session role taken past) ≡ true
      back None p h = absurd (cc)
      back (Some w) p h = kept-waits (λ n w. (i == n) && test w) (record { identifier = i; asks = w; found = p; passes = and_true (i == i) (test w) (eq-eqb i i refl) h })

  -- what is kept under any
  some-kept : (test : Asks → Bool) → IsDistinct nat_eq (keys_of waiting) → some (waits_so (λ n w. test w) past) (session role taken past) ≡ list_any (λ e. test e.1) waiting
  unfolding IsDistinct
  some-kept test distinct =
      same_test (some (waits_so (λ n w. test w) past) (session role taken past)) (list_any (λ e. test e.1) waiting)
      (λ h. let k = waits-kept (λ n w. test w) h in found-any k.identifier k.asks waiting k.found k.passes)
      (λ h. kept-waits (λ n w. test w) (any-found waiting distinct h))
    where
      found-any : (i : ℕ) (w : Asks) (es : List (ℕ × Asks)) → lookup (nat_eq i) es ≡ Some w → test w ≡ true → list_any (λ e. test e.1) es ≡ true
      found-any i w [] h passes = absurd (cc)
      found-any i w (e ∷ es) h passes = go (nat_eq i e.0) h (λ rest. found-any i w es rest passes)
        where
          some_is : (a b : Asks) → Some a ≡ Some b → a ≡ b
          some_is a b h = cc

          go : (b : Bool) → cond b (Some e.1) (lookup (nat_eq i) es) ≡ Some w → (lookup (nat_eq i) es ≡ Some w → list_any (λ e. test e.1) es ≡ true) → (test e.1 || list_any (λ e. test e.1) es) ≡ true
          go true h rest = or_left (test e.1) (list_any (λ e. test e.1) es) (ap test (some_is e.1 w h) ∙ passes)
          go false h rest = or_right (test e.1) (list_any (λ e. test e.1) es) (rest h)

      apart : (k : ℕ) (es : List (ℕ × Asks)) → AllByRecursion (λ y. nat_eq k y ≡ false) (keys_of es) → (i : ℕ) (w : Asks) → lookup (nat_eq i) es ≡ Some w → nat_eq i k ≡ false
      apart k [] all i w h = absurd (cc)
      apart k (e ∷ es) all i w h = go (nat_eq i e.0) refl h (λ rest. apart k es all.1 i w rest)
        where
          go : (b : Bool) → nat_eq i e.0 ≡ b → cond b (Some e.1) (lookup (nat_eq i) es) ≡ Some w → (lookup (nat_eq i) es ≡ Some w → nat_eq i k ≡ false) → nat_eq i k ≡ false
          go true is h rest = not_true (nat_eq i k) (λ same.
              let other : nat_eq k e.0 ≡ false = all.0 in
              let back : nat_eq k e.0 ≡ true = ap (λ n. nat_eq n e.0) (sym (eqb-true i k same)) ∙ is in
              absurd (let bad : true ≡ false = sym back ∙ other in cc))
          go false is h rest = rest h

      any-found : (es : List (ℕ × Asks)) → IsDistinct nat_eq (keys_of es) → list_any (λ e. test e.1) es ≡ true → Keeps (λ n w. test w) es
      any-found [] distinct h = absurd (cc)
      any-found (e ∷ es) distinct h = go (or_parts (test e.1) (list_any (λ e. test e.1) es) h) (any-found es distinct.1)
        where
          go : (test e.1 ≡ true) ⊎ (list_any (λ e. test e.1) es ≡ true) → (list_any (λ e. test e.1) es ≡ true → Keeps (λ n w. test w) es) → Keeps (λ n w. test w) (e ∷ es)
          go (inl is) rest = record { identifier = e.0; asks = e.1; found = ap (λ b. cond b (Some e.1) (lookup (nat_eq e.0) es)) (eq-eqb e.0 e.0 refl); passes = is }
          go (inr is) rest =
              let k = rest is in
              record { identifier = k.identifier; asks = k.asks; found = ap (λ b. cond b (Some e.1) (lookup (nat_eq k.identifier) es)) (apart e.0 es distinct.0 k.identifier k.asks k.found) ∙ k.found; passes = k.passes }

-- ---- what counts, of one moment

-- the subscriptions of a SUBSCRIBE, with these Reason Codes
abbrev subscribed_so : Moment → List ℕ → Subscription → List Subscribed
subscribed_so j codes s = subscribed_by (identifier_at j) s.filters codes

-- what counts whatever comes, and what waits
parts : (t : Subscribed → Bool) (past : List Seen) (j : Moment) → Among j (moments past) → list_any t (subscribed_in past j) ≡ (list_any t (settled_from past j) || waits_so (λ n w. list_any t (as_asked w)) past j)
parts t past j there = go (waits past j) refl
  where
    whole : is_some_and (λ s. list_any t (subscribed_so j [] s)) (received_subscription (note j)) ≡ list_any t (unwrap_or (option_map (λ s. subscribed_so j [] s) (received_subscription (note j))) [])
    whole = by (received_subscription (note j))
      where
        by : (o : Option Subscription) → is_some_and (λ s. list_any t (subscribed_so j [] s)) o ≡ list_any t (unwrap_or (option_map (λ s. subscribed_so j [] s) o) [])
        by None = refl
        by (Some s) = refl

    go : (b : Bool) → waits past j ≡ b → list_any t (subscribed_in past j) ≡ (list_any t (cond b [] (subscribed_in past j)) || (b && is_some_and (λ s. list_any t (subscribed_so j [] s)) (received_subscription (note j))))
    go true w =
        ap (λ c. list_any t (unwrap_or (option_map (λ s. subscribed_so j (unwrap_or c []) s) (received_subscription (note j))) [])) (waits-uncoded past j (waits-first past j there w)) ∙ sym whole
    go false w = sym (or_false (list_any t (subscribed_in past j)))

-- what a SUBACK settles of it
abbrev granted_so : List Seen → (Subscribed → Bool) → Option Grant → Moment → Bool
granted_so past t None j = false
granted_so past t (Some a) j = waits_so (λ n w. (a.identifier == n) && list_any t (granted_to a.codes w)) past j

module _ (e : Seen) (past : List Seen) (on : IsOnConnection e past) where
  -- where no connection begins or ends
  module _ (inner : is_boundary e.note ≡ false) (j : Moment) (there : Among j (moments past)) where
    within : position j ≤ length past
    within = among-within j past there

    -- of a SUBACK
    coded : (a : Grant) → sent_grant e.note ≡ Some a → (s : Subscription) → received_subscription (note j) ≡ Some s → codes_given (e ∷ past) j ≡ cond (waits past j && (a.identifier == s.identifier)) (Some a.codes) (codes_given past j)
    coded a sent s request =
        given-next e past j
        ∙ ap (λ o. option_or (codes_given past j) (cond (begun (e ∷ past) == number j) (only (is_some_and (λ a. is_some_and (is_same j) (first_unanswered subscribe_suback a.identifier (newest e past))) o) (option_map (λ (a : Grant). a.codes) o)) None)) sent
        ∙ ap (λ o. option_or (codes_given past j) (cond (begun (e ∷ past) == number j) (only (is_some_and (is_same j) o) (Some a.codes)) None)) (sym here)
        ∙ go (is_some_and (is_same j) (first_waiting a.identifier past)) refl
      where
        here : first_waiting a.identifier past ≡ first_unanswered subscribe_suback a.identifier (newest e past)
        here = ap (earliest_since (causes subscribe_suback a.identifier) (answers subscribe_suback a.identifier)) (on_open-connected past (on (grants-alone e.note a sent).3))

        never : (b : Bool) → cond {A = Option (List ℕ)} b None None ≡ None
        never true = refl
        never false = refl

        -- it waits under the SUBACK's identifier, or not
        alike : (b : Bool) → is_some_and (is_same j) (first_waiting a.identifier past) ≡ b → (waits past j && (a.identifier == s.identifier)) ≡ b
        alike b h = by (a.identifier == s.identifier) refl
          where
            by : (x : Bool) → (a.identifier == s.identifier) ≡ x → (waits past j && x) ≡ b
            by true is =
                let waits_is : waits past j ≡ b = ap (is_some_and (λ s. is_some_and (is_same j) (first_waiting s.identifier past))) request ∙ ap (λ n. is_some_and (is_same j) (first_waiting n past)) (sym (eqb-true a.identifier s.identifier is)) ∙ h in
                ap (λ w. w && true) waits_is ∙ kept b
              where
                kept : (b : Bool) → (b && true) ≡ b
                kept true = refl
                kept false = refl
            by false is = and_false (waits past j) ∙ sym (none b refl)
              where
                none : (c : Bool) → b ≡ c → b ≡ false
                none false p = p
                none true p = absurd (other (first_waiting a.identifier past) refl (h ∙ p))
                  where
                    other : (o : Option Moment) → first_waiting a.identifier past ≡ o → is_some_and (is_same j) o ≡ true → ⊥
                    other None q i = absurd (cc)
                    other (Some m) q i =
                        let f = first-asked a.identifier past m q in
                        let same : j ≡ m = same-moment past j m there (first-inside a.identifier past m q).0 (eqb-true (position j) (position m) i) in
                        let both : Some s ≡ Some f.0 = sym request ∙ ap (λ (n : Moment). received_subscription (note n)) same ∙ f.1 in
                        let equal : s.identifier ≡ f.0.identifier = number_is s f.0 both in
                        let named : (a.identifier == s.identifier) ≡ true = eq-eqb a.identifier s.identifier (f.2 ∙ sym equal) in
                        absurd (let bad : true ≡ false = sym named ∙ is in cc)
                      where
                        number_is : (x y : Subscription) → Some x ≡ Some y → x.identifier ≡ y.identifier
                        number_is x y h = ap (λ (z : Subscription). z.identifier) (let same : x ≡ y = cc in same)

        go : (b : Bool) → is_some_and (is_same j) (first_waiting a.identifier past) ≡ b
            → option_or (codes_given past j) (cond (begun (e ∷ past) == number j) (only b (Some a.codes)) None) ≡ cond (waits past j && (a.identifier == s.identifier)) (Some a.codes) (codes_given past j)
        go true h =
            let both = both_true (waits past j) (a.identifier == s.identifier) (alike true h) in
            let w = waits-first past j there both.0 in
            let own : (begun (e ∷ past) == number j) ≡ true = eq-eqb (begun (e ∷ past)) (number j) (begun-same e past (boundary-parts e.note inner).0 ∙ sym (first-inside w.asked.identifier past j w.first).1) in
            ap (λ b. option_or (codes_given past j) (cond b (Some a.codes) None)) own
            ∙ ap (λ o. option_or o (Some a.codes)) (waits-uncoded past j w)
            ∙ sym (ap (λ b. cond b (Some a.codes) (codes_given past j)) (alike true h))
        go false h =
            ap (option_or (codes_given past j)) (never (begun (e ∷ past) == number j)) ∙ option_or-none (codes_given past j)
            ∙ sym (ap (λ b. cond b (Some a.codes) (codes_given past j)) (alike false h))

    settled-packet : (t : Subscribed → Bool) → list_any t (settled_from (e ∷ past) j) ≡ (list_any t (settled_from past j) || granted_so past t (sent_grant e.note) j)
    settled-packet t = by (received_subscription (note j)) refl (sent_grant e.note) refl
      where
        -- what it is by whether it waits, before and after, and its Reason Codes
        known : Bool → Option (List ℕ) → Option Subscription → Bool
        known w codes o = list_any t (cond w [] (unwrap_or (option_map (subscribed_so j (unwrap_or codes [])) o) []))

        waits_on : (s : Subscription) (g : Option Grant) → received_subscription (note j) ≡ Some s → sent_grant e.note ≡ g → waits (e ∷ past) j ≡ (not (answers_under s.identifier g) && waits past j)
        waits_on s g p q =
            waits-next e past on j within
            ∙ ap (is_some_and (λ s. not (answers_under s.identifier (sent_grant e.note)) && (not (is_boundary e.note) && is_some_and (is_same j) (first_waiting s.identifier past)))) p
            ∙ ap (λ g. not (answers_under s.identifier g) && (not (is_boundary e.note) && is_some_and (is_same j) (first_waiting s.identifier past))) q
            ∙ ap (λ b. not (answers_under s.identifier g) && (not b && is_some_and (is_same j) (first_waiting s.identifier past))) inner
            ∙ ap (λ b. not (answers_under s.identifier g) && b) (sym (ap (is_some_and (λ s. is_some_and (is_same j) (first_waiting s.identifier past))) p))

        step : (a : Grant) (s : Subscription) (x y w : Bool) → y ≡ x → (c : Option (List ℕ))
            → known (not y && w) (cond (w && x) (Some a.codes) c) (Some s) ≡ (known w c (Some s) || (w && (x && list_any t (subscribed_so j a.codes s))))
        step a s true y true same c = ap (λ y. known (not y && true) (Some a.codes) (Some s)) same
        step a s true y false same c = ap (λ y. known (not y && false) c (Some s)) same ∙ sym (or_false (known false c (Some s)))
        step a s false y true same c = ap (λ y. known (not y && true) c (Some s)) same
        step a s false y false same c = ap (λ y. known (not y && false) c (Some s)) same ∙ sym (or_false (known false c (Some s)))

        by : (o : Option Subscription) → received_subscription (note j) ≡ o → (g : Option Grant) → sent_grant e.note ≡ g → list_any t (settled_from (e ∷ past) j) ≡ (list_any t (settled_from past j) || granted_so past t g j)
        by None p None q = ap (known (waits (e ∷ past) j) (codes_given (e ∷ past) j)) p ∙ nothing (waits (e ∷ past) j) ∙ sym (or_false (list_any t (settled_from past j)) ∙ ap (known (waits past j) (codes_given past j)) p ∙ nothing (waits past j))
          where
            nothing : (b : Bool) → list_any t (cond b [] []) ≡ false
            nothing true = refl
            nothing false = refl
        by None p (Some a) q =
            ap (known (waits (e ∷ past) j) (codes_given (e ∷ past) j)) p ∙ nothing (waits (e ∷ past) j)
            ∙ sym (ap (λ o. known (waits past j) (codes_given past j) o || (waits past j && is_some_and (λ s. (a.identifier == s.identifier) && list_any t (subscribed_so j a.codes s)) o)) p
            ∙ ap (λ b. b || (waits past j && false)) (nothing (waits past j)) ∙ and_false (waits past j))
          where
            nothing : (b : Bool) → list_any t (cond b [] []) ≡ false
            nothing true = refl
            nothing false = refl
        by (Some s) p None q =
            ap (λ b. known b (codes_given (e ∷ past) j) (received_subscription (note j))) (waits_on s None p q)
            ∙ ap (λ c. known (waits past j) c (received_subscription (note j))) (given-same e past j q)
            ∙ sym (or_false (list_any t (settled_from past j)))
        by (Some s) p (Some a) q =
            ap (known (waits (e ∷ past) j) (codes_given (e ∷ past) j)) p
            ∙ ap (λ b. known b (codes_given (e ∷ past) j) (Some s)) (waits_on s (Some a) p q)
            ∙ ap (λ c. known (not (s.identifier == a.identifier) && waits past j) c (Some s)) (coded a q s p)
            ∙ step a s (a.identifier == s.identifier) (s.identifier == a.identifier) (waits past j) (turned s.identifier a.identifier) (codes_given past j)
            ∙ sym (ap (λ o. known (waits past j) (codes_given past j) o || (waits past j && is_some_and (λ s. (a.identifier == s.identifier) && list_any t (subscribed_so j a.codes s)) o)) p)
          where
            turned : (m n : ℕ) → (m == n) ≡ (n == m)
            turned m n = same_test (m == n) (n == m) (λ h. eq-eqb n m (sym (eqb-true m n h))) (λ h. eq-eqb m n (sym (eqb-true n m h)))

  -- where one begins or ends, nothing waits any more
  settled-boundary : (t : Subscribed → Bool) → is_boundary e.note ≡ true → (j : Moment) → Among j (moments past) → list_any t (settled_from (e ∷ past) j) ≡ (list_any t (settled_from past j) || waits_so (λ n w. list_any t (as_asked w)) past j)
  settled-boundary t outer j there =
      ap (λ b. list_any t (cond b [] (subscribed_in (e ∷ past) j))) gone
      ∙ ap (λ c. list_any t (unwrap_or (option_map (subscribed_so j (unwrap_or c [])) (received_subscription (note j))) [])) (given-same e past j (boundary-none e.note outer).1)
      ∙ parts t past j there
    where
      never : (a b : Bool) → (not a && (not true && b)) ≡ false
      never true b = refl
      never false b = refl

      gone : waits (e ∷ past) j ≡ false
      gone =
          waits-next e past on j (among-within j past there)
          ∙ ap (λ b. is_some_and (λ s. not (answers_under s.identifier (sent_grant e.note)) && (not b && is_some_and (is_same j) (first_waiting s.identifier past))) (received_subscription (note j))) outer
          ∙ by (received_subscription (note j))
        where
          by : (o : Option Subscription) → is_some_and (λ s. not (answers_under s.identifier (sent_grant e.note)) && (not true && is_some_and (is_same j) (first_waiting s.identifier past))) o ≡ false
          by None = refl
          by (Some s) = never (answers_under s.identifier (sent_grant e.note)) (is_some_and (is_same j) (first_waiting s.identifier past))

  -- the event itself counts if it is a SUBSCRIBE under whose identifier one waits
  settled-newest : (t : Subscribed → Bool) → list_any t (settled_from (e ∷ past) (newest e past))
      ≡ is_some_and (λ s. is_some (first_waiting s.identifier past) && list_any t (subscribed_by (identifier_in e.note) s.filters [])) (received_subscription e.note)
  settled-newest t = by (received_subscription e.note) refl
    where
      known : Bool → Option (List ℕ) → Option Subscription → Bool
      known w codes o = list_any t (cond w [] (unwrap_or (option_map (subscribed_so (newest e past) (unwrap_or codes [])) o) []))

      nothing : (b : Bool) → list_any t (cond b [] []) ≡ false
      nothing true = refl
      nothing false = refl

      by : (o : Option Subscription) → received_subscription e.note ≡ o
          → list_any t (settled_from (e ∷ past) (newest e past)) ≡ is_some_and (λ s. is_some (first_waiting s.identifier past) && list_any t (subscribed_by (identifier_in e.note) s.filters [])) o
      by None p = ap (known (waits (e ∷ past) (newest e past)) (codes_given (e ∷ past) (newest e past))) p ∙ nothing (waits (e ∷ past) (newest e past))
      by (Some s) p =
          ap (known (waits (e ∷ past) (newest e past)) (codes_given (e ∷ past) (newest e past))) p
          ∙ ap (λ c. known (waits (e ∷ past) (newest e past)) c (Some s)) (given-newest e past)
          ∙ ap (λ b. known b None (Some s)) waits_is
          ∙ go (first_waiting s.identifier past)
        where
          alone : (received_subscription e.note ≡ Some s) × (sent_grant e.note ≡ None) × (is_boundary e.note ≡ false)
          alone = let a = subscribes-alone e.note s p in (p, a.1, a.2)

          first : first_waiting s.identifier (e ∷ past) ≡ option_or (first_waiting s.identifier past) (Some (newest e past))
          first =
              first-next-is s.identifier e past on
              ∙ ap (λ b. first_next b (requests_under s.identifier (received_subscription e.note)) (answers_under s.identifier (sent_grant e.note)) (Some (newest e past)) (first_waiting s.identifier past)) alone.2
              ∙ ap (λ g. first_next false (requests_under s.identifier (received_subscription e.note)) (answers_under s.identifier g) (Some (newest e past)) (first_waiting s.identifier past)) alone.1
              ∙ ap (λ o. first_next false (requests_under s.identifier o) false (Some (newest e past)) (first_waiting s.identifier past)) p
              ∙ ap (λ b. first_next false b false (Some (newest e past)) (first_waiting s.identifier past)) (eq-eqb s.identifier s.identifier refl)

          fresh : (o : Option Moment) → first_waiting s.identifier past ≡ o → is_some_and (is_same (newest e past)) (option_or o (Some (newest e past))) ≡ not (is_some o)
          fresh None q = eq-eqb (position (newest e past)) (position (newest e past)) refl
          fresh (Some m) q =
              let before = among-within m past (first-inside s.identifier past m q).0 in
              differ (position (newest e past)) (position m) (λ same. absurd (omega (arith, before, same)))

          waits_is : waits (e ∷ past) (newest e past) ≡ not (is_some (first_waiting s.identifier past))
          waits_is =
              ap (is_some_and (λ s. is_some_and (is_same (newest e past)) (first_waiting s.identifier (e ∷ past)))) p
              ∙ ap (is_some_and (is_same (newest e past))) first
              ∙ fresh (first_waiting s.identifier past) refl

          go : (o : Option Moment) → known (not (is_some o)) None (Some s) ≡ (is_some o && list_any t (subscribed_by (identifier_in e.note) s.filters []))
          go None = refl
          go (Some m) = refl

-- ---- a session with one event more

module _ (tested : Tested) (fate : Fate) (e : Seen) (past : List Seen) (on : IsOnConnection e past) where
  abbrev before_it : Option Fate
  before_it = fate_before tested fate e past

  abbrev before : List Moment
  before = session tested.role before_it past

  in_log : (j : Moment) → Among j before → Among j (moments past)
  in_log j a = (session-members tested.role before_it past j a).0

  same_fate : is_boundary e.note ≡ false → before_it ≡ Some fate
  same_fate h = ap (λ b. cond b (latest_fate tested.role past) (Some fate)) (boundary-parts e.note h).0

  inner_goes : is_boundary e.note ≡ false → goes_on fate e.note ≡ true
  inner_goes h = ap (λ b. not (b && begins (Some fate))) (boundary-parts e.note h).0

  module _ (waiting : List (ℕ × Asks)) (are : (i : ℕ) → lookup (nat_eq i) waiting ≡ only (accepted before_it) (found_first subscribe_suback asks_of i past)) where
    -- what a SUBACK settles
    some-granted : (t : Subscribed → Bool) (g : Option Grant) → some (granted_so past t g) before ≡ settled_granted t waiting g
    some-granted t None = some-none before
    some-granted t (Some a) = some-under tested.role before_it past waiting are a.identifier (λ w. list_any t (granted_to a.codes w))

    -- what is kept on a connection with this fate
    known : is_boundary e.note ≡ false → (i : ℕ) → lookup (nat_eq i) waiting ≡ only (accepts fate) (option_and_then asks_of (first_waiting i past))
    known inner i = are i ∙ ap (λ o. only (accepted o) (option_and_then asks_of (first_waiting i past))) (same_fate inner)

    found-some : (i : ℕ) → is_some (option_and_then asks_of (first_waiting i past)) ≡ is_some (first_waiting i past)
    found-some i = go (first_waiting i past) refl
      where
        go : (o : Option Moment) → first_waiting i past ≡ o → is_some (option_and_then asks_of o) ≡ is_some o
        go None p = refl
        go (Some m) p = ap (λ o. is_some (option_map (kept_of m) o)) (first-asked i past m p).1

    sets-is : (t : Subscribed → Bool) → (is_boundary e.note ≡ true → goes_on fate e.note ≡ true → IsDistinct nat_eq (keys_of waiting))
        → some (λ j. list_any t (settled_from (e ∷ past) j)) (session tested.role (Some fate) (e ∷ past)) ≡ settled_next fate e.note t waiting (some (λ j. list_any t (settled_from past j)) before)
    sets-is t distinct =
        session-some tested fate (λ j. list_any t (settled_from (e ∷ past) j)) e past (λ r. settled-newest e past on t ∙ ap asked_by (unsubscribed e.note r))
        ∙ ap (λ b. (accepts fate && b) || (goes_on fate e.note && later)) (settled-newest e past on t)
        ∙ go (is_boundary e.note) refl
      where
        asked_by : Option Subscription → Bool
        asked_by o = is_some_and (λ s. is_some (first_waiting s.identifier past) && list_any t (subscribed_by (identifier_in e.note) s.filters [])) o

        later : Bool
        later = some (λ j. list_any t (settled_from (e ∷ past) j)) before

        old : Bool
        old = some (λ j. list_any t (settled_from past j)) before

        asked : Bool
        asked = settled_asked t waiting (identifier_in e.note) (received_subscription e.note)

        granted : Bool
        granted = settled_granted t waiting (sent_grant e.note)

        outside : is_boundary e.note ≡ true → goes_on fate e.note ≡ true → later ≡ (old || some_waits t waiting)
        outside h k =
            some-alike (λ j. list_any t (settled_from (e ∷ past) j)) (λ j. list_any t (settled_from past j) || waits_so (λ n w. list_any t (as_asked w)) past j) before (λ j a. settled-boundary e past on t h j (in_log j a))
            ∙ some-either (λ j. list_any t (settled_from past j)) (waits_so (λ n w. list_any t (as_asked w)) past) before
            ∙ ap (λ b. old || b) (some-kept tested.role before_it past waiting are (λ w. list_any t (as_asked w)) (distinct h k))

        within : is_boundary e.note ≡ false → later ≡ (old || granted)
        within h =
            some-alike (λ j. list_any t (settled_from (e ∷ past) j)) (λ j. list_any t (settled_from past j) || granted_so past t (sent_grant e.note) j) before (λ j a. settled-packet e past on h j (in_log j a) t)
            ∙ some-either (λ j. list_any t (settled_from past j)) (granted_so past t (sent_grant e.note)) before
            ∙ ap (λ b. old || b) (some-granted t (sent_grant e.note))

        asked-is : is_boundary e.note ≡ false → accepts fate ≡ true → (o : Option Subscription) → asked_by o ≡ settled_asked t waiting (identifier_in e.note) o
        asked-is h acc None = refl
        asked-is h acc (Some s) =
            ap (λ b. b && list_any t (subscribed_by (identifier_in e.note) s.filters []))
            (sym (ap is_some (known h s.identifier ∙ ap (λ b. only b (option_and_then asks_of (first_waiting s.identifier past))) acc) ∙ found-some s.identifier))

        granted-none : is_boundary e.note ≡ false → accepts fate ≡ false → (g : Option Grant) → settled_granted t waiting g ≡ false
        granted-none h acc None = refl
        granted-none h acc (Some a) = ap (is_some_and (λ w. list_any t (granted_to a.codes w))) (known h a.identifier ∙ ap (λ b. only b (option_and_then asks_of (first_waiting a.identifier past))) acc)

        moved : (a o g : Bool) → (a || (o || g)) ≡ (o || (a || g))
        moved true true g = refl
        moved true false g = refl
        moved false true g = refl
        moved false false g = refl

        go : (b : Bool) → is_boundary e.note ≡ b → ((accepts fate && asked_by (received_subscription e.note)) || (goes_on fate e.note && later))
            ≡ cond b (goes_on fate e.note && (old || some_waits t waiting)) (cond (accepts fate) (old || (asked || granted)) old)
        go true h =
            ap (λ o. (accepts fate && asked_by o) || (goes_on fate e.note && later)) (boundary-none e.note h).0
            ∙ ap (λ b. b || (goes_on fate e.note && later)) (and_false (accepts fate))
            ∙ by (goes_on fate e.note) refl
          where
            by : (b : Bool) → goes_on fate e.note ≡ b → (b && later) ≡ (b && (old || some_waits t waiting))
            by true k = outside h k
            by false k = refl
        go false h =
            ap (λ b. (accepts fate && asked_by (received_subscription e.note)) || (b && later)) (inner_goes h)
            ∙ ap (λ b. (accepts fate && asked_by (received_subscription e.note)) || b) (within h)
            ∙ by (accepts fate) refl
          where
            by : (b : Bool) → accepts fate ≡ b → ((b && asked_by (received_subscription e.note)) || (old || granted)) ≡ cond b (old || (asked || granted)) old
            by true acc = ap (λ b. b || (old || granted)) (asked-is h acc (received_subscription e.note)) ∙ moved asked old granted
            by false acc = ap (λ b. old || b) (granted-none h acc (sent_grant e.note)) ∙ or_false old

    waiting-is : (i : ℕ) → waiting_next fate e.note i (lookup (nat_eq i) waiting) ≡ only (accepts fate) (found_first subscribe_suback asks_of i (e ∷ past))
    waiting-is i =
        by (is_boundary e.note) refl
        ∙ first-step (accepts fate) (is_boundary e.note) (requests_under i (received_subscription e.note)) (answers_under i (sent_grant e.note)) (asks_of (newest e past)) (found_first subscribe_suback asks_of i past)
        (λ h. ap (requests_under i) (boundary-none e.note h).0)
        ∙ ap (only (accepts fate)) (sym (
        found-next subscribe_suback asks_of (λ n i h. subscribes_so.causes_are n i ∙ ap (λ o. names i (option_map subscription_count (option_and_then subscription_in o))) h)
        (λ m i h. let s = request-of i (note m) h in (kept_of m s.0, ap (option_map (kept_of m)) s.1)) i e past on
        ∙ ap (λ b. first_next (is_boundary e.note) b (is_id i (subscribe_suback.answer e.note)) (asks_of (newest e past)) (found_first subscribe_suback asks_of i past)) (subscribes_so.causes_are e.note i ∙ names-requests i (received_subscription e.note))
        ∙ ap (λ b. first_next (is_boundary e.note) (requests_under i (received_subscription e.note)) b (asks_of (newest e past)) (found_first subscribe_suback asks_of i past)) (subscribes_so.answers_are e.note i ∙ names-answers i (sent_grant e.note))))
      where
        by : (b : Bool) → is_boundary e.note ≡ b
            → cond b None (cond (accepts fate) (waiting_packet e.note i (lookup (nat_eq i) waiting)) (lookup (nat_eq i) waiting))
            ≡ cond b None (cond (accepts fate) (waiting_packet e.note i (only (accepts fate) (found_first subscribe_suback asks_of i past))) (only (accepts fate) (found_first subscribe_suback asks_of i past)))
        by true h = refl
        by false h = ap (λ o. cond (accepts fate) (waiting_packet e.note i o) o) (known h i)

-- what is kept, with one event more
pub subscriptions-next : (tested : Tested) (fate : Fate) (e : Seen) (past : List Seen) → IsOnConnection e past → (s t : Subscriptions) → TakesInEvent fate e.note s t
    → AreKept s tested (fate_before tested fate e past) past → AreKept t tested (Some fate) (e ∷ past)
subscriptions-next tested fate e past on s t takes kept = record {
  sets_are = λ kind among qos.
      takes.sets_next kind among qos
      ∙ ap (settled_next fate e.note (serves kind among qos) s.waiting.entries) (kept.sets_are kind among qos)
      ∙ sym (sets-is tested fate e past on s.waiting.entries kept.waiting_are (serves kind among qos) takes.distinct);
  waiting_are = λ i. takes.waiting_next_is i ∙ waiting-is tested fate e past on s.waiting.entries kept.waiting_are i;
}

-- ---- what matches a topic

matched-kept : (tested : Tested) (fate : Fate) (k : Moment) (s : Subscriptions) (topic : List ℕ) → AreKept s tested (Some fate) k.past → IsDistinct nat_eq (keys_of s.waiting.entries)
    → (kind : Kind) (qos : ℕ) (test : Subscribed → Bool) → ((x : Subscribed) → (is_about topic x && test x) ≡ serves kind (λ f. matches f topic) qos x)
    → some_matching tested.role fate k topic test ≡ matches_kept (set_of s.settled) s.waiting.entries kind topic qos
matched-kept tested fate k s topic kept distinct kind qos test same =
    (λ i. some (λ j. list_any (λ x. same x i) (subscribed_from k j)) ms)
    ∙ some-alike (λ j. list_any t (subscribed_in k.past j)) (λ j. list_any t (settled_from k.past j) || waits_so (λ n w. list_any t (as_asked w)) k.past j) ms
    (λ j a. parts t k.past j (session-members tested.role (Some fate) k.past j a).0)
    ∙ some-either (λ j. list_any t (settled_from k.past j)) (waits_so (λ n w. list_any t (as_asked w)) k.past) ms
    ∙ ap (λ b. b || some (waits_so (λ n w. list_any t (as_asked w)) k.past) ms) (sym (kept.sets_are kind (λ f. matches f topic) qos))
    ∙ ap (λ b. list_any (allows (λ f. matches f topic) qos) (set_of s.settled kind) || b) (some-kept tested.role (Some fate) k.past s.waiting.entries kept.waiting_are (λ w. list_any t (as_asked w)) distinct)
  where
    ms : List Moment
    ms = session tested.role (Some fate) k.past

    t : Subscribed → Bool
    t = serves kind (λ f. matches f topic) qos

least_is : (c : ℕ) → nat_le 0 c ≡ true
least_is c = le-leb 0 c (omega arith)

turned : (a b : Bool) (c : ℕ) → (a && b) ≡ (b && (a && nat_le 0 c))
turned a b c = go a b ∙ ap (λ d. b && (a && d)) (sym (least_is c))
  where
    go : (a b : Bool) → (a && b) ≡ (b && (a && true))
    go true true = refl
    go true false = refl
    go false true = refl
    go false false = refl

-- those that have a Subscription Identifier
pub named-kept : (tested : Tested) (fate : Fate) (k : Moment) (s : Subscriptions) (topic : List ℕ) (i : ℕ) → AreKept s tested (Some fate) k.past → IsDistinct nat_eq (keys_of s.waiting.entries)
    → some_matching tested.role fate k topic (is_named i) ≡ matches_kept (set_of s.settled) s.waiting.entries (bearing i) topic 0
named-kept tested fate k s topic i kept distinct = matched-kept tested fate k s topic kept distinct (bearing i) 0 (is_named i) (λ x. turned (is_about topic x) (is_named i x) x.ceiling)

-- what is said of those that match a topic answers the questions to them
pub matched-answers : (tested : Tested) (fate : Fate) (k : Moment) (s : Subscriptions) (topic : List ℕ) (m : Matched) → AreKept s tested (Some fate) k.past → AreMatched s topic m
    → AnswersAll m (some_matching tested.role fate k topic)
matched-answers tested fate k s topic m kept said = record {
  any_is = is (passing any) 0 any_subscription (λ x. whole (is_about topic x) x.ceiling) ∙ sym (said.says_so any 0) ∙ there m.ceiling;
  ceiling_is = λ qos. is (passing any) qos (λ x. nat_le qos x.ceiling) (λ x. refl) ∙ sym (said.says_so any qos);
  unidentified_is = is (passing unidentified) 0 (λ x. not (is_some x.identifier)) (λ x. turned (is_about topic x) (not (is_some x.identifier)) x.ceiling) ∙ sym (said.says_so unidentified 0);
  retained_is = is (passing retained) 0 may_be_retained (λ x. turned (is_about topic x) (may_be_retained x) x.ceiling) ∙ sym (said.says_so retained 0);
  in_vain_is = is (passing in_vain) 0 asks_in_vain (λ x. turned (is_about topic x) (asks_in_vain x) x.ceiling) ∙ sym (said.says_so in_vain 0);
}
  where
    is : (kind : Kind) (qos : ℕ) (test : Subscribed → Bool) → ((x : Subscribed) → (is_about topic x && test x) ≡ serves kind (λ f. matches f topic) qos x)
        → some_matching tested.role fate k topic test ≡ matches_kept (set_of s.settled) s.waiting.entries kind topic qos
    is = matched-kept tested fate k s topic kept said.distinct

    whole : (a : Bool) (c : ℕ) → (a && true) ≡ (true && (a && nat_le 0 c))
    whole a c = ap (λ b. a && b) (sym (least_is c))

    there : (o : Option ℕ) → has_ceiling (nat_le 0) o ≡ is_some o
    there None = refl
    there (Some c) = least_is c

-- ---- what is kept of one filter

-- a Subscription Identifier is missing where there is none
turned-not : (a b : Bool) → a ≡ not b → b ≡ not a
turned-not true true h = absurd (cc)
turned-not true false h = refl
turned-not false true h = refl
turned-not false false h = absurd (cc)

-- the sets with one subscription more
pub added : (old new : Kind → List Standing) (g : NotedFilter) (text : List ℕ) (identifier : Option ℕ) (lacking keeps vain : Bool) (qos : ℕ) (among : List ℕ → Bool) (most : ℕ) → text ≡ g.filter
    → is_some identifier ≡ not lacking → keeps ≡ may_be_retained (subscribed_to identifier g qos) → vain ≡ asks_in_vain (subscribed_to identifier g qos)
    → list_any (allows among most) (new (passing any)) ≡ (list_any (allows among most) (old (passing any)) || (true && ((among text || (is_share text && among (shared_filter text))) && nat_le most qos)))
    → list_any (allows among most) (new (passing unidentified)) ≡ (list_any (allows among most) (old (passing unidentified)) || (lacking && ((among text || (is_share text && among (shared_filter text))) && nat_le most qos)))
    → list_any (allows among most) (new (passing retained)) ≡ (list_any (allows among most) (old (passing retained)) || (keeps && ((among text || (is_share text && among (shared_filter text))) && nat_le most qos)))
    → list_any (allows among most) (new (passing in_vain)) ≡ (list_any (allows among most) (old (passing in_vain)) || (vain && ((among text || (is_share text && among (shared_filter text))) && nat_le most qos)))
    → ((i : ℕ) → list_any (allows among most) (new (bearing i)) ≡ (list_any (allows among most) (old (bearing i)) || (is_id i identifier && ((among text || (is_share text && among (shared_filter text))) && nat_le most qos))))
    → (kind : Kind) → list_any (allows among most) (new kind) ≡ (list_any (allows among most) (old kind) || list_any (serves kind among most) (subscribed_to identifier g qos ∷ []))
added old new g text identifier lacking keeps vain qos among most is l k v one two three four five kind =
    go kind ∙ ap (λ b. list_any (allows among most) (old kind) || b) (sym (or_false (serves kind among most (subscribed_to identifier g qos))))
  where
    has : List ℕ → Bool
    has t = (among t || (is_share t && among (shared_filter t))) && nat_le most qos

    before : Kind → Bool
    before kind = list_any (allows among most) (old kind)

    go : (kind : Kind) → list_any (allows among most) (new kind) ≡ (before kind || serves kind among most (subscribed_to identifier g qos))
    go (passing any) = one ∙ ap (λ t. before (passing any) || has t) is
    go (passing unidentified) = two ∙ ap (λ t. before (passing unidentified) || (lacking && has t)) is ∙ ap (λ b. before (passing unidentified) || (b && has g.filter)) (turned-not (is_some identifier) lacking l)
    go (passing retained) = three ∙ ap (λ t. before (passing retained) || (keeps && has t)) is ∙ ap (λ b. before (passing retained) || (b && has g.filter)) k
    go (passing in_vain) = four ∙ ap (λ t. before (passing in_vain) || (vain && has t)) is ∙ ap (λ b. before (passing in_vain) || (b && has g.filter)) v
    go (bearing i) = five i ∙ ap (λ t. before (bearing i) || (is_id i identifier && has t)) is

-- what is said of those that match, with one that does; and with one that doesn't
pub said-more : (old new : Matched) (g : NotedFilter) (text topic : List ℕ) (identifier : Option ℕ) (lacking keeps vain about : Bool) → text ≡ g.filter
    → about ≡ (matches text topic || (is_share text && matches (shared_filter text) topic)) → about ≡ true
    → is_some identifier ≡ not lacking → keeps ≡ may_be_retained (subscribed_to identifier g (requested g)) → vain ≡ asks_in_vain (subscribed_to identifier g (requested g))
    → ((qos : ℕ) → has_ceiling (nat_le qos) new.ceiling ≡ (has_ceiling (nat_le qos) old.ceiling || has_ceiling (nat_le qos) (Some (requested g))))
    → new.unidentified ≡ (old.unidentified || lacking) → new.retained ≡ (old.retained || keeps) → new.in_vain ≡ (old.in_vain || vain)
    → (question : Question) (qos : ℕ) → says new question qos ≡ (says old question qos || serves (passing question) (λ f. matches f topic) (least question qos) (subscribed_to identifier g (requested g)))
said-more old new g text topic identifier lacking keeps vain about is so found l k v one two three four = go
  where
    s : Subscribed
    s = subscribed_to identifier g (requested g)

    matches_it : is_about topic s ≡ true
    matches_it = ap (λ t. matches t topic || (is_share t && matches (shared_filter t) topic)) (sym is) ∙ sym so ∙ found

    -- where it matches, only the question is left
    left : (b : Bool) → b ≡ (b && (is_about topic s && nat_le 0 (requested g)))
    left b = sym (ap (λ c. b && (c && nat_le 0 (requested g))) matches_it ∙ ap (λ c. b && c) (least_is (requested g)) ∙ whole b)
      where
        whole : (b : Bool) → (b && true) ≡ b
        whole true = refl
        whole false = refl

    go : (question : Question) (qos : ℕ) → says new question qos ≡ (says old question qos || serves (passing question) (λ f. matches f topic) (least question qos) s)
    go any qos = one qos ∙ ap (λ c. has_ceiling (nat_le qos) old.ceiling || (c && nat_le qos (requested g))) (sym matches_it)
    go unidentified qos = two ∙ ap (λ b. old.unidentified || b) (turned-not (is_some identifier) lacking l ∙ left (not (is_some identifier)))
    go retained qos = three ∙ ap (λ b. old.retained || b) (k ∙ left (may_be_retained s))
    go in_vain qos = four ∙ ap (λ b. old.in_vain || b) (v ∙ left (asks_in_vain s))

pub said-same : (m : Matched) (g : NotedFilter) (text topic : List ℕ) (identifier : Option ℕ) (about : Bool) → text ≡ g.filter → about ≡ (matches text topic || (is_share text && matches (shared_filter text) topic)) → about ≡ false
    → (question : Question) (qos : ℕ) → says m question qos ≡ (says m question qos || serves (passing question) (λ f. matches f topic) (least question qos) (subscribed_to identifier g (requested g)))
said-same m g text topic identifier about is so none question qos =
    sym (ap (λ b. says m question qos || (answers_to question s && (b && nat_le (least question qos) (requested g)))) (ap (λ t. matches t topic || (is_share t && matches (shared_filter t) topic)) (sym is) ∙ sym so ∙ none)
    ∙ ap (λ b. says m question qos || b) (and_false (answers_to question s))
    ∙ or_false (says m question qos))
  where
    s : Subscribed
    s = subscribed_to identifier g (requested g)

-- ---- what waits, by its Subscription Identifier

-- a filter of a SUBSCRIBE with this identifier serves a topic if it matches it
abbrev pub is_about_filter : List ℕ → NotedFilter → Bool
is_about_filter topic g = matches g.filter topic || (is_share g.filter && matches (shared_filter g.filter) topic)

pub asked_named : (i : ℕ) (topic : List ℕ) (identifier : Option ℕ) (gs : List NotedFilter) → list_any (serves (bearing i) (λ f. matches f topic) 0) (subscribed_by identifier gs []) ≡ (is_id i identifier && list_any (is_about_filter topic) gs)
asked_named i topic identifier [] = sym (and_false (is_id i identifier))
asked_named i topic identifier (g ∷ gs) =
    ap (λ b. (is_id i identifier && (is_about_filter topic g && b)) || list_any (serves (bearing i) (λ f. matches f topic) 0) (subscribed_by identifier gs [])) (least_is (requested g))
    ∙ ap (λ b. (is_id i identifier && (is_about_filter topic g && true)) || b) (asked_named i topic identifier gs)
    ∙ both (is_id i identifier) (is_about_filter topic g) (list_any (is_about_filter topic) gs)
  where
    both : (a b c : Bool) → ((a && (b && true)) || (a && c)) ≡ (a && (b || c))
    both true true c = refl
    both true false c = refl
    both false b c = refl

-- ---- at the beginning

pub none_stands : (s : Settled) → s.any ≡ [] → s.unidentified ≡ [] → s.retained ≡ [] → s.in_vain ≡ [] → ((i : ℕ) → get nat_eq s.identified i ≡ None) → (kind : Kind) → set_of s kind ≡ []
none_stands s a b c d none (passing any) = a
none_stands s a b c d none (passing unidentified) = b
none_stands s a b c d none (passing retained) = c
none_stands s a b c d none (passing in_vain) = d
none_stands s a b c d none (bearing i) = ap (λ o. unwrap_or o []) (none i)

pub none-weighs : (s : Settled) (waiting : List (ℕ × Asks)) → ((kind : Kind) → set_of s kind ≡ []) → s.identified.entries ≡ [] → waiting ≡ []
    → (length s.any + length s.unidentified) + (length s.retained + length s.in_vain) + sum_by (λ e. length e.1) s.identified.entries + sum_by (λ e. at_least_one (length e.1.filters)) waiting ≡ 0
none-weighs s waiting h empty none =
    let one : length s.any ≡ 0 = ap length (h (passing any)) in
    let two : length s.unidentified ≡ 0 = ap length (h (passing unidentified)) in
    let three : length s.retained ≡ 0 = ap length (h (passing retained)) in
    let four : length s.in_vain ≡ 0 = ap length (h (passing in_vain)) in
    let five : sum_by (λ (e : ℕ × List Standing). length e.1) s.identified.entries ≡ 0 = ap (sum_by (λ (e : ℕ × List Standing). length e.1)) empty in
    let rest : sum_by (λ (e : ℕ × Asks). at_least_one (length e.1.filters)) waiting ≡ 0 = ap (sum_by (λ (e : ℕ × Asks). at_least_one (length e.1.filters))) none in
    omega (arith, one, two, three, four, five, rest)

pub none-kept : (sets : Kind → List Standing) (waiting : List (ℕ × Asks)) (tested : Tested) (taken : Option Fate) → ((kind : Kind) → sets kind ≡ []) → waiting ≡ [] → AreSubscriptions sets waiting tested taken []
none-kept sets waiting tested taken h none = record {
  sets_are = λ kind among qos. ap (list_any (allows among qos)) (h kind);
  waiting_are = λ i. ap (lookup (nat_eq i)) none ∙ never (accepted taken);
}
  where
    never : (b : Bool) → None ≡ only {A = Asks} b None
    never true = refl
    never false = refl
