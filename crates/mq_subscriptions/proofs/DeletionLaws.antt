-- What the book of deletions keeps, with one event more.
use Rattle.std.proofs.Common.{◌≡◌, ℕ, ◌+◌, ◌-◌, ◌==◌, arith, Bool, true, false, cond, ◌&&◌, ◌||◌, not, List, [], ◌∷◌, length, Option, Some, None, refl, ap, sym, ◌∙◌, subst, ◌⊎◌, inl, inr}
use Rattle.std.specs.Prelude.{option_map, unwrap_or}
use Rattle.std.specs.Option.{option_or, option_and_then}
use Rattle.std.proofs.lemmas.Bool.{eq-eqb, eqb-true}
use Rattle.mq_rules.specs.declared.role.Role.{Role}
use Rattle.mq_rules.specs.declared.role.Tested.{Tested}
use Rattle.mq_rules.specs.declared.fate.Fate.{Fate}
use Rattle.mq_rules.specs.declared.note.Note.{Note}
use Rattle.mq_rules.specs.declared.note.Note.TheVariants as notes
use Rattle.mq_rules.specs.declared.note.ItemNote.TheVariants as items
use Rattle.mq_rules.specs.declared.note.Seen.{Seen}
use Rattle.mq_rules.specs.declared.packet_note.PacketFields.{PacketFields}
use Rattle.mq_rules.specs.declared.packet_note.PacketFields.TheVariants.{Subscribe, Unsubscribe}
use Rattle.mq_rules.specs.declared.text.NotedFilter.{NotedFilter}
use Rattle.mq_rules.specs.Words.{is_some_and, is_id, only}
use Rattle.mq_rules.specs.Notes.{Subscription, Grant, is_open, is_boundary, is_release, refuses, subscription_in, unsubscription_in, received_subscription, received_unsubscription, sent_grant, sent_deletion, receives_unclear}
use Rattle.mq_rules.specs.Moments.{Moment, newest, note, moments, position, is_same, some, latest, earliest_since, Among, IsDescending, IsEarliestSince}
use Rattle.mq_rules.specs.Connections.{begun, number, connection, latest_fate, fate as fate_of, fate_under, IsLoose, IsInSession, accepts, accepted, begins, voided, any_accepted, has_session, with_first, session, needs_connection, IsOnConnection}
use Rattle.mq_rules.specs.Exchanges.{causes, answers, first_unanswered, subscribe_suback, unsubscribe_unsuback}
use Rattle.mq_rules.specs.FurtherSubscriptions.{has_filter, asks_about, last_code, subscribed_each, since_began}
use Rattle.mq_rules.specs.Under.{fate_before}
use Rattle.mq_rules.proofs.Exports.{and_false, begun-same, connection-newest, differ, not_true, on_open-connected, option_or-none, or_false, session-descend, session-members}
use Rattle.mq_fates.specs.Holding.{total}
use Rattle.mq_subscriptions.specs.declared.requested.FilterState.{FilterState}
use Rattle.mq_subscriptions.specs.Countings.{names, subscription_count, grant_count, subscribes_so, unsubscribes_so}
use Rattle.mq_subscriptions.specs.Firsts.{found_first, first_next}
use Rattle.mq_subscriptions.specs.Standings.{goes_on}
use Rattle.mq_subscriptions.specs.Deletings.{Subscribes, Removes, no_request, named, refused, coded_each, is_granted, codes_given, granted_by, places_by, granted_at, places_at, state_of, state_in, subscribes_of, removes_of, requests_under, answers_under, state_coded, state_answered, state_asked, packet_next, state_next, waiting_packet, waiting_next, removing_packet, removing_next, unclear_next, TakesIn, AreDeletions}
use Rattle.mq_subscriptions.proofs.FirstLaws.{found-next}
use Rattle.mq_subscriptions.proofs.StandingLaws.{boundary-parts, session-total, total-alike}
use Rattle.mq_subscriptions.proofs.RequestedLaws.{asked-all, coded-each, coded_all, none-named, nothing-named, none-stands, all-named, stands-refused, uncoded}
use Rattle.mq_subscriptions.proofs.AnsweredLaws.{connection-inside, first-stands, given-next, given-same, given-newest, given-unanswered, same-moment}

-- ---- which packet an event has

-- what a SUBSCRIBE isn't
pub subscribes-alone : (n : Note) (s : Subscription) → received_subscription n ≡ Some s → (received_unsubscription n ≡ None) × (sent_grant n ≡ None) × (is_boundary n ≡ false) × (needs_connection n ≡ true)
subscribes-alone (notes.Recv (items.Packet p)) s h = (go p.fields h, refl, refl, refl)
  where
    go : (fields : PacketFields) → subscription_in fields ≡ Some s → unsubscription_in fields ≡ None
    go (Subscribe i fs ws) h = refl
    go (Unsubscribe i fs) h = absurd (cc)
    go _ h = absurd (cc)
subscribes-alone _ s h = absurd (cc)

unsubscribes-alone : (n : Note) (s : Subscription) → received_unsubscription n ≡ Some s → (received_subscription n ≡ None) × (sent_grant n ≡ None) × (is_boundary n ≡ false) × (needs_connection n ≡ true)
unsubscribes-alone (notes.Recv (items.Packet p)) s h = (go p.fields h, refl, refl, refl)
  where
    go : (fields : PacketFields) → unsubscription_in fields ≡ Some s → subscription_in fields ≡ None
    go (Unsubscribe i fs) h = refl
    go (Subscribe i fs ws) h = absurd (cc)
    go _ h = absurd (cc)
unsubscribes-alone _ s h = absurd (cc)

pub grants-alone : (n : Note) (a : Grant) → sent_grant n ≡ Some a → (received_subscription n ≡ None) × (received_unsubscription n ≡ None) × (is_boundary n ≡ false) × (needs_connection n ≡ true)
grants-alone (notes.Sent item) a h = (refl, refl, refl, refl)
grants-alone _ a h = absurd (cc)

pub boundary-alone : (n : Note) → is_boundary n ≡ true → (received_subscription n ≡ None) × (received_unsubscription n ≡ None) × (sent_grant n ≡ None)
boundary-alone notes.Open h = (refl, refl, refl)
boundary-alone (notes.Close cuts part) h = (refl, refl, refl)
boundary-alone _ h = absurd (cc)

pub release-alone : (n : Note) → is_release n ≡ true → (received_subscription n ≡ None) × (received_unsubscription n ≡ None)
release-alone (notes.Release identifier) h = (refl, refl)
release-alone _ h = absurd (cc)

pub release-causes : (n : Note) → is_release n ≡ true → subscribe_suback.cause n ≡ None
release-causes (notes.Release identifier) h = refl
release-causes _ h = absurd (cc)

-- a cause is a SUBSCRIBE that is received under the identifier
pub request-of : (i : ℕ) (n : Note) → is_id i (subscribe_suback.cause n) ≡ true → (s : Subscription) × (received_subscription n ≡ Some s)
request-of i n h = go (received_subscription n) refl (sym (subscribes_so.causes_are n i) ∙ h)
  where
    go : (o : Option Subscription) → received_subscription n ≡ o → names i (option_map subscription_count o) ≡ true → (s : Subscription) × (received_subscription n ≡ Some s)
    go None p h = absurd (cc)
    go (Some s) p h = (s, p)

pub removal-of : (i : ℕ) (n : Note) → is_id i (unsubscribe_unsuback.cause n) ≡ true → (s : Subscription) × (received_unsubscription n ≡ Some s)
removal-of i n h = go (received_unsubscription n) refl (sym (unsubscribes_so.causes_are n i) ∙ h)
  where
    go : (o : Option Subscription) → received_unsubscription n ≡ o → names i (option_map subscription_count o) ≡ true → (s : Subscription) × (received_unsubscription n ≡ Some s)
    go None p h = absurd (cc)
    go (Some s) p h = (s, p)

-- ---- moments of a session

-- the latest that passes a test that no RELEASE passes, over the session with one event more
session-latest : (tested : Tested) (f : Fate) (p : Moment → Bool) (e : Seen) (past : List Seen) → (is_release e.note ≡ true → p (newest e past) ≡ false)
    → latest p (session tested.role (Some f) (e ∷ past)) ≡ cond (accepts f && p (newest e past)) (Some (newest e past)) (only (goes_on f e.note) (latest p (session tested.role (fate_before tested f e past) past)))
session-latest tested f p e past idle =
    first (has_session tested.role (Some f) e past) (is_open e.note) (begins (Some f))
    ∙ ap (λ b. cond b (Some (newest e past)) (only (goes_on f e.note) (latest p (session tested.role (fate_before tested f e past) past)))) (inside (accepts f) (is_release e.note) (voided (Some f) && any_accepted tested.role (Some f) past) idle)
  where
    inside : (a r v : Bool) → (r ≡ true → p (newest e past) ≡ false) → ((a || (r && v)) && p (newest e past)) ≡ (a && p (newest e past))
    inside true r v h = refl
    inside false false v h = refl
    inside false true v h = ap (λ t. v && t) (h refl) ∙ and_false v

    first : (b o n : Bool) → latest p (with_first b (newest e past) (cond o (cond n [] (session tested.role (latest_fate tested.role past) past)) (session tested.role (Some f) past)))
        ≡ cond (b && p (newest e past)) (Some (newest e past)) (only (not (o && n)) (latest p (session tested.role (cond o (latest_fate tested.role past) (Some f)) past)))
    first true true true = refl
    first true true false = refl
    first true false n = refl
    first false true true = refl
    first false true false = refl
    first false false n = refl

-- the moments of an accepted connection are in its session
pub connection-session : (role : Role) (f : Fate) → accepts f ≡ true → (past : List Seen) (m : Moment) → Among m (connection past) → Among m (session role (Some f) past)
connection-session role f accepted_so [] m a = absurd a
connection-session role f accepted_so (e ∷ past) m a =
    go (is_open e.note) (subst (λ ms. Among m ms) (connection-newest e past) a) (connection-session role f accepted_so past m)
  where
    put : (ms : List Moment) → Among m (newest e past ∷ ms) → Among m (with_first (has_session role (Some f) e past) (newest e past) ms)
    put ms h = subst (λ b. Among m (with_first (b || (is_release e.note && (voided (Some f) && any_accepted role (Some f) past))) (newest e past) ms)) (sym accepted_so) h

    go : (o : Bool) → Among m (newest e past ∷ cond o [] (connection past)) → (Among m (connection past) → Among m (session role (Some f) past))
        → Among m (with_first (has_session role (Some f) e past) (newest e past) (cond o (cond (begins (Some f)) [] (session role (latest_fate role past) past)) (session role (Some f) past)))
    go true (inl is) rest = put (cond (begins (Some f)) [] (session role (latest_fate role past) past)) (inl is)
    go true (inr h) rest = absurd h
    go false (inl is) rest = put (session role (Some f) past) (inl is)
    go false (inr h) rest = put (session role (Some f) past) (inr (rest h))

-- a sum in which one moment counts less
total-less : (p q : Moment → ℕ) (r : ℕ) (ms : List Moment) (m : Moment) → IsDescending ms → Among m ms → p m ≡ q m + r → ((j : Moment) → Among j ms → (position j == position m) ≡ false → p j ≡ q j) → total p ms ≡ total q ms + r
total-less p q r [] m d a less same = absurd a
total-less p q r (n ∷ ms) m d (inl is) less same =
    let first : p n ≡ q n + r = subst (λ (k : Moment). p k ≡ q k + r) is less in
    let rest = total-alike p q ms (λ j a. same j (inr a) (differ (position j) (position m) (λ at. lower j a (at ∙ ap position is)))) in
    omega (arith, first, rest)
  where
    lower : (j : Moment) → Among j ms → position j ≡ position n → ⊥
    lower j a at = let before = d.0 j a in absurd (omega (arith, before, at))
total-less p q r (n ∷ ms) m d (inr a) less same =
    let first = same n (inl refl) (differ (position n) (position m) (λ at. lower at)) in
    let rest = total-less p q r ms m d.1 a less (λ j b. same j (inr b)) in
    omega (arith, first, rest)
  where
    lower : position n ≡ position m → ⊥
    lower at = let before = d.0 m a in absurd (omega (arith, before, at))

-- where no request has it, nothing stands
unasked-nowhere : (past : List Seen) (f : List ℕ) (m : Moment) → asks_about f m ≡ false → places_at past f m ≡ 0
unasked-nowhere past f m h = go (received_subscription (note m)) h
  where
    go : (o : Option Subscription) → (is_some_and (λ s. has_filter f s.filters) o || is_some_and (λ s. has_filter f s.filters) (received_unsubscription (note m))) ≡ false → places_by f (codes_given past m) o ≡ 0
    go None h = refl
    go (Some s) h = none-stands f s.filters (unwrap_or (codes_given past m) []) (first (has_filter f s.filters) (is_some_and (λ s. has_filter f s.filters) (received_unsubscription (note m))) h)
      where
        first : (a b : Bool) → (a || b) ≡ false → a ≡ false
        first true b h = h
        first false b h = refl

pub total-none : (past : List Seen) (f : List ℕ) (ms : List Moment) → latest (asks_about f) ms ≡ None → total (places_at past f) ms ≡ 0
total-none past f [] h = refl
total-none past f (m ∷ ms) h = go (asks_about f m) refl h (total-none past f ms)
  where
    go : (b : Bool) → asks_about f m ≡ b → cond b (Some m) (latest (asks_about f) ms) ≡ None → (latest (asks_about f) ms ≡ None → total (places_at past f) ms ≡ 0) → places_at past f m + total (places_at past f) ms ≡ 0
    go true is h rest = absurd (cc)
    go false is h rest = let first = unasked-nowhere past f m is in let others = rest h in omega (arith, first, others)

latest-among : (p : Moment → Bool) (ms : List Moment) (j : Moment) → latest p ms ≡ Some j → Among j ms
latest-among p [] j h = absurd (cc)
latest-among p (m ∷ ms) j h = go (p m) h (latest-among p ms j)
  where
    go : (b : Bool) → cond b (Some m) (latest p ms) ≡ Some j → (latest p ms ≡ Some j → Among j ms) → Among j (m ∷ ms)
    go true h rest = inl (cc)
    go false h rest = inr (rest h)

-- ---- a filter, with one event more

-- what is known of a filter whose last request is at this moment
abbrev built : (Moment → Bool) → ℕ → Option Moment → Option FilterState
built g n o = option_map (λ j. record { at = position j; granted = g j; places = n }) o

-- what no request has stands nowhere
places-old : (past : List Seen) (f : List ℕ) (ms : List Moment) → (unwrap_or (state_in past f ms) no_request).places ≡ total (places_at past f) ms
places-old past f ms = go (latest (asks_about f) ms) refl
  where
    go : (o : Option Moment) → latest (asks_about f) ms ≡ o → (unwrap_or (option_map (state_of past f ms) o) no_request).places ≡ total (places_at past f) ms
    go None h = sym (total-none past f ms h)
    go (Some j) h = refl

module _ (tested : Tested) (fate : Fate) (e : Seen) (past : List Seen) (on : IsOnConnection e past) (f : List ℕ) where
  abbrev before : List Moment
  before = session tested.role (fate_before tested fate e past) past

  abbrev asks : Moment → Bool
  asks = asks_about f

  abbrev known : Option FilterState
  known = state_in past f before

  abbrev asks_by : Option Subscription → Option Subscription → Bool
  asks_by o p = is_some_and (λ s. has_filter f s.filters) o || is_some_and (λ s. has_filter f s.filters) p

  -- the event is a request or not, and the session goes on or begins
  abbrev put : (Moment → Bool) → Bool → Bool → Option Subscription → Option Subscription → Option FilterState
  put g accepted_so on o p = built g (cond accepted_so (places_by f (codes_given (e ∷ past) (newest e past)) o) 0 + cond on (total (places_at (e ∷ past) f) before) 0) (cond (accepted_so && asks_by o p) (Some (newest e past)) (only on (latest asks before)))

  put-next : state_in (e ∷ past) f (session tested.role (Some fate) (e ∷ past)) ≡ put (granted_at (e ∷ past) f) (accepts fate) (goes_on fate e.note) (received_subscription e.note) (received_unsubscription e.note)
  put-next =
      ap (built (granted_at (e ∷ past) f) (total (places_at (e ∷ past) f) (session tested.role (Some fate) (e ∷ past)))) (session-latest tested fate asks e past (λ r. let a = release-alone e.note r in ap (λ o. asks_by o (received_unsubscription e.note)) a.0 ∙ ap (asks_by None) a.1))
      ∙ ap (λ n. built (granted_at (e ∷ past) f) n (cond (accepts fate && asks (newest e past)) (Some (newest e past)) (only (goes_on fate e.note) (latest asks before))))
      (session-total tested fate (places_at (e ∷ past) f) e past (λ r. ap (places_by f (codes_given (e ∷ past) (newest e past))) (release-alone e.note r).0))

  -- where the Reason Codes of those before stay
  same-old : ((j : Moment) → Among j before → codes_given (e ∷ past) j ≡ codes_given past j) → built (granted_at (e ∷ past) f) (total (places_at (e ∷ past) f) before) (latest asks before) ≡ known
  same-old same =
      ap (λ n. built (granted_at (e ∷ past) f) n (latest asks before)) (total-alike (places_at (e ∷ past) f) (places_at past f) before (λ j a. ap (λ c. places_by f c (received_subscription (note j))) (same j a)))
      ∙ go (latest asks before) refl
    where
      go : (o : Option Moment) → latest asks before ≡ o → built (granted_at (e ∷ past) f) (total (places_at past f) before) o ≡ built (granted_at past f) (total (places_at past f) before) o
      go None h = refl
      go (Some j) h = ap (λ c. Some (record { at = position j; granted = granted_by f c (received_subscription (note j)); places = total (places_at past f) before })) (same j (latest-among asks before j h))

  -- an event that is no request
  unasked : (accepted_so on : Bool) → built (granted_at (e ∷ past) f) (total (places_at (e ∷ past) f) before) (latest asks before) ≡ known → put (granted_at (e ∷ past) f) accepted_so on None None ≡ only on known
  unasked accepted_so on same = ap (λ b. built (granted_at (e ∷ past) f) (cond accepted_so 0 0 + cond on (total (places_at (e ∷ past) f) before) 0) (cond b (Some (newest e past)) (only on (latest asks before)))) (and_false accepted_so)
      ∙ go accepted_so on
    where
      counted : 0 + total (places_at (e ∷ past) f) before ≡ total (places_at (e ∷ past) f) before
      counted = omega arith

      go : (accepted_so on : Bool) → built (granted_at (e ∷ past) f) (cond accepted_so 0 0 + cond on (total (places_at (e ∷ past) f) before) 0) (only on (latest asks before)) ≡ only on known
      go true true = ap (λ n. built (granted_at (e ∷ past) f) n (latest asks before)) counted ∙ same
      go false true = ap (λ n. built (granted_at (e ∷ past) f) n (latest asks before)) counted ∙ same
      go true false = refl
      go false false = refl

  -- a request, at so many more places
  asked : (more : ℕ) (gs : List NotedFilter) (o p : Option Subscription) → asks_by o p ≡ has_filter f gs → places_by f (codes_given (e ∷ past) (newest e past)) o ≡ named more f gs → granted_at (e ∷ past) f (newest e past) ≡ false
      → built (granted_at (e ∷ past) f) (total (places_at (e ∷ past) f) before) (latest asks before) ≡ known → total (places_at (e ∷ past) f) before ≡ total (places_at past f) before
      → put (granted_at (e ∷ past) f) true true o p ≡ state_asked (position (newest e past)) more (Some (record { identifier = 0; filters = gs })) f known
  asked more gs o p here places waits same sums =
      ap (λ n. built (granted_at (e ∷ past) f) (n + total (places_at (e ∷ past) f) before) (cond (asks_by o p) (Some (newest e past)) (latest asks before))) places
      ∙ ap (λ b. built (granted_at (e ∷ past) f) (named more f gs + total (places_at (e ∷ past) f) before) (cond b (Some (newest e past)) (latest asks before))) here
      ∙ go (has_filter f gs) refl
      ∙ sym (asked-all (position (newest e past)) more gs f known)
    where
      go : (b : Bool) → has_filter f gs ≡ b → built (granted_at (e ∷ past) f) (named more f gs + total (places_at (e ∷ past) f) before) (cond b (Some (newest e past)) (latest asks before))
          ≡ cond b (Some (record { at = position (newest e past); granted = false; places = named more f gs + (unwrap_or known no_request).places })) known
      go true is =
          ap (λ g. Some (record { at = position (newest e past); granted = g; places = named more f gs + total (places_at (e ∷ past) f) before })) waits
          ∙ ap (λ n. Some (record { at = position (newest e past); granted = false; places = named more f gs + n })) (sums ∙ sym (places-old past f before))
      go false is =
          ap (λ n. built (granted_at (e ∷ past) f) n (latest asks before)) (let none = none-named more f gs is in omega (arith, none)) ∙ same

  -- ---- a SUBACK

  -- the moments before it in the session
  inside : (j : Moment) → Among j before → Among j (moments past)
  inside j a = (session-members tested.role (fate_before tested fate e past) past j a).0

  -- one of an accepted connection that answers no SUBSCRIBE
  none-answered : (a : Grant) → sent_grant e.note ≡ Some a → first_unanswered subscribe_suback a.identifier (newest e past) ≡ None → (j : Moment) → codes_given (e ∷ past) j ≡ codes_given past j
  none-answered a h none j =
      given-next e past j
      ∙ ap (λ o. option_or (codes_given past j) (cond (begun (e ∷ past) == number j) (only (is_some_and (λ a. is_some_and (is_same j) (first_unanswered subscribe_suback a.identifier (newest e past))) o) (option_map (λ (a : Grant). a.codes) o)) None)) h
      ∙ ap (λ o. option_or (codes_given past j) (cond (begun (e ∷ past) == number j) (only (is_some_and (is_same j) o) (Some a.codes)) None)) none
      ∙ ap (option_or (codes_given past j)) (never (begun (e ∷ past) == number j)) ∙ option_or-none (codes_given past j)
    where
      never : (b : Bool) → cond {A = Option (List ℕ)} b None None ≡ None
      never true = refl
      never false = refl

  -- one that answers the SUBSCRIBE m gives its Reason Codes to m alone
  answered : (a : Grant) (m : Moment) → sent_grant e.note ≡ Some a → is_open e.note ≡ false → first_unanswered subscribe_suback a.identifier (newest e past) ≡ Some m → (j : Moment) → Among j (moments past)
      → codes_given (e ∷ past) j ≡ cond (position j == position m) (Some a.codes) (codes_given past j)
  answered a m h inner first j there =
      given-next e past j
      ∙ ap (λ o. option_or (codes_given past j) (cond (begun (e ∷ past) == number j) (only (is_some_and (λ a. is_some_and (is_same j) (first_unanswered subscribe_suback a.identifier (newest e past))) o) (option_map (λ (a : Grant). a.codes) o)) None)) h
      ∙ ap (λ o. option_or (codes_given past j) (cond (begun (e ∷ past) == number j) (only (is_some_and (is_same j) o) (Some a.codes)) None)) first
      ∙ go (position j == position m) refl
    where
      stands : IsEarliestSince (causes subscribe_suback a.identifier) (answers subscribe_suback a.identifier) (connection past) m
      stands = first-stands a.identifier (newest e past) m first

      go : (b : Bool) → (position j == position m) ≡ b → option_or (codes_given past j) (cond (begun (e ∷ past) == number j) (only b (Some a.codes)) None) ≡ cond b (Some a.codes) (codes_given past j)
      go true is =
          let at = connection-inside past m stands.there in
          let same : j ≡ m = same-moment past j m there at.0 (eqb-true (position j) (position m) is) in
          let own : (begun (e ∷ past) == number j) ≡ true = eq-eqb (begun (e ∷ past)) (number j) (begun-same e past inner ∙ sym at.1 ∙ ap number (sym same)) in
          let none : codes_given past j ≡ None = ap (codes_given past) same ∙ given-unanswered a.identifier e past m first in
          ap (λ b. option_or (codes_given past j) (cond b (Some a.codes) None)) own ∙ ap (λ o. option_or o (Some a.codes)) none
      go false is = ap (option_or (codes_given past j)) (never (begun (e ∷ past) == number j)) ∙ option_or-none (codes_given past j)
        where
          never : (b : Bool) → cond {A = Option (List ℕ)} b None None ≡ None
          never true = refl
          never false = refl

  -- with its Reason Codes
  coded : (a : Grant) (m : Moment) (s : Subscription) → accepts fate ≡ true → sent_grant e.note ≡ Some a → is_open e.note ≡ false → fate_before tested fate e past ≡ Some fate → first_unanswered subscribe_suback a.identifier (newest e past) ≡ Some m → received_subscription (note m) ≡ Some s
      → built (granted_at (e ∷ past) f) (total (places_at (e ∷ past) f) before) (latest asks before) ≡ coded_each (position m) s.filters a.codes f known
  coded a m s taken h inner same_fate first asked_is = whole ∙ sym (coded-each (position m) s.filters a.codes f known)
    where
      stands : IsEarliestSince (causes subscribe_suback a.identifier) (answers subscribe_suback a.identifier) (connection past) m
      stands = first-stands a.identifier (newest e past) m first

      there : Among m before
      there = subst (λ o. Among m (session tested.role o past)) (sym same_fate) (connection-session tested.role fate taken past m stands.there)

      none : codes_given past m ≡ None
      none = given-unanswered a.identifier e past m first

      codes : (j : Moment) → Among j before → codes_given (e ∷ past) j ≡ cond (position j == position m) (Some a.codes) (codes_given past j)
      codes j b = answered a m h inner first j (inside j b)

      own : codes_given (e ∷ past) m ≡ Some a.codes
      own = codes m there ∙ ap (λ b. cond b (Some a.codes) (codes_given past m)) (eq-eqb (position m) (position m) refl)

      less : places_at past f m ≡ places_at (e ∷ past) f m + refused f s.filters a.codes
      less =
          ap (places_by f (codes_given past m)) asked_is ∙ ap (λ c. places_by f c (Some s)) none
          ∙ stands-refused f s.filters a.codes
          ∙ sym (ap (λ n. n + refused f s.filters a.codes) (ap (places_by f (codes_given (e ∷ past) m)) asked_is ∙ ap (λ c. places_by f c (Some s)) own))

      others : (j : Moment) → Among j before → (position j == position m) ≡ false → places_at past f j ≡ places_at (e ∷ past) f j
      others j b other = sym (ap (λ c. places_by f c (received_subscription (note j))) (codes j b ∙ ap (λ b. cond b (Some a.codes) (codes_given past j)) other))

      sums : total (places_at (e ∷ past) f) before ≡ total (places_at past f) before - refused f s.filters a.codes
      sums =
          let all = total-less (places_at past f) (places_at (e ∷ past) f) (refused f s.filters a.codes) before m (session-descend tested.role (fate_before tested fate e past) past) there less others in
          omega (arith, all)

      grant : (j : Moment) → Among j before → granted_at (e ∷ past) f j ≡ cond (position j == position m) (unwrap_or (option_map (λ code. not (refuses code)) (last_code f s.filters a.codes)) (granted_at past f j)) (granted_at past f j)
      grant j b = ap (λ c. granted_by f c (received_subscription (note j))) (codes j b) ∙ by (position j == position m) refl
        where
          told : (o : Option ℕ) → is_some_and (λ code. not (refuses code)) o ≡ unwrap_or (option_map (λ code. not (refuses code)) o) false
          told None = refl
          told (Some code) = refl

          by : (b : Bool) → (position j == position m) ≡ b → granted_by f (cond b (Some a.codes) (codes_given past j)) (received_subscription (note j)) ≡ cond b (unwrap_or (option_map (λ code. not (refuses code)) (last_code f s.filters a.codes)) (granted_at past f j)) (granted_at past f j)
          by true is =
              let same : j ≡ m = same-moment past j m (inside j b) (inside m there) (eqb-true (position j) (position m) is) in
              let request : received_subscription (note j) ≡ Some s = ap (λ (n : Moment). received_subscription (note n)) same ∙ asked_is in
              let waits : granted_at past f j ≡ false = ap (granted_by f (codes_given past j)) request ∙ ap (λ c. granted_by f c (Some s)) (ap (codes_given past) same ∙ none) ∙ ap (is_some_and (λ code. not (refuses code))) (uncoded f s.filters) in
              ap (granted_by f (Some a.codes)) request
              ∙ told (last_code f s.filters a.codes)
              ∙ sym (ap (unwrap_or (option_map (λ code. not (refuses code)) (last_code f s.filters a.codes))) waits)
          by false is = refl

      whole : built (granted_at (e ∷ past) f) (total (places_at (e ∷ past) f) before) (latest asks before) ≡ option_map (coded_all (position m) f s.filters a.codes) known
      whole = ap (λ n. built (granted_at (e ∷ past) f) n (latest asks before)) sums ∙ go (latest asks before) refl
        where
          go : (o : Option Moment) → latest asks before ≡ o → built (granted_at (e ∷ past) f) (total (places_at past f) before - refused f s.filters a.codes) o ≡ option_map (coded_all (position m) f s.filters a.codes) (built (granted_at past f) (total (places_at past f) before) o)
          go None h = refl
          go (Some j) h = ap (λ g. Some (record { at = position j; granted = g; places = total (places_at past f) before - refused f s.filters a.codes })) (grant j (latest-among asks before j h))

  -- no SUBSCRIBE of the session is on a connection that isn't accepted
  unaccepted : (a : Grant) → accepts fate ≡ false → sent_grant e.note ≡ Some a → is_open e.note ≡ false → fate_before tested fate e past ≡ Some fate → (j : Moment) → Among j before → codes_given (e ∷ past) j ≡ codes_given past j
  unaccepted a refuses_it h inner same_fate j b = go (first_unanswered subscribe_suback a.identifier (newest e past)) refl
    where
      go : (o : Option Moment) → first_unanswered subscribe_suback a.identifier (newest e past) ≡ o → codes_given (e ∷ past) j ≡ codes_given past j
      go None first = none-answered a h first j
      go (Some m) first = answered a m h inner first j (inside j b) ∙ ap (λ b. cond b (Some a.codes) (codes_given past j)) (not_true (position j == position m) (λ is. absurd (apart is)))
        where
          stands : IsEarliestSince (causes subscribe_suback a.identifier) (answers subscribe_suback a.identifier) (connection past) m
          stands = first-stands a.identifier (newest e past) m first

          apart : (position j == position m) ≡ true → ⊥
          apart is =
              let at = connection-inside past m stands.there in
              let same : j ≡ m = same-moment past j m (inside j b) at.0 (eqb-true (position j) (position m) is) in
              let own : number j ≡ begun past = ap number same ∙ at.1 in
              let member = subst (λ o. IsInSession (fate_under tested.role o past) (begun past) j) same_fate (session-members tested.role (fate_before tested fate e past) past j b).1 in
              let its : fate_under tested.role (Some fate) past (number j) ≡ Some fate = ap (λ b. cond b (Some fate) (first_fate_of (number j))) (eq-eqb (number j) (begun past) own) in
              strange its member.belongs (subst (λ (n : Moment). is_id a.identifier (subscribe_suback.cause (note n)) ≡ true) (sym same) stands.passes)
            where
              first_fate_of : ℕ → Option Fate
              first_fate_of c = fate_of tested.role c past

              strange : fate_under tested.role (Some fate) past (number j) ≡ Some fate → (accepted (fate_under tested.role (Some fate) past (number j)) ≡ true) ⊎ IsLoose (fate_under tested.role (Some fate) past) j → is_id a.identifier (subscribe_suback.cause (note j)) ≡ true → ⊥
              strange its (inl is) cause = absurd (let bad : false ≡ true = sym refuses_it ∙ ap accepted (sym its) ∙ is in cc)
              strange its (inr loose) cause =
                  let none : subscribe_suback.cause (note j) ≡ None = release-causes (note j) loose.is_released in
                  absurd (let bad : false ≡ true = ap (is_id a.identifier) (sym none) ∙ cause in cc)

  -- ---- any event

  pub states-next : (waiting : ℕ → Option Subscribes) → ((i : ℕ) → waiting i ≡ only (accepted (fate_before tested fate e past)) (found_first subscribe_suback subscribes_of i past))
      → state_in (e ∷ past) f (session tested.role (Some fate) (e ∷ past)) ≡ state_next fate (length past + 1) e.note waiting f known
  states-next waiting are = put-next ∙ by_boundary (is_boundary e.note) refl
    where
      inner : is_boundary e.note ≡ false → is_open e.note ≡ false
      inner h = (boundary-parts e.note h).0

      same_fate : is_boundary e.note ≡ false → fate_before tested fate e past ≡ Some fate
      same_fate h = ap (λ b. cond b (latest_fate tested.role past) (Some fate)) (inner h)

      goes : is_boundary e.note ≡ false → goes_on fate e.note ≡ true
      goes h = ap (λ b. not (b && begins (Some fate))) (inner h)

      silent : sent_grant e.note ≡ None → (j : Moment) → Among j before → codes_given (e ∷ past) j ≡ codes_given past j
      silent h j a = given-same e past j h

      -- no packet that is looked at
      nothing : (acc on : Bool) → received_subscription e.note ≡ None → received_unsubscription e.note ≡ None → sent_grant e.note ≡ None → put (granted_at (e ∷ past) f) acc on (received_subscription e.note) (received_unsubscription e.note) ≡ only on known
      nothing acc on h k l = ap (λ o. put (granted_at (e ∷ past) f) acc on o (received_unsubscription e.note)) h ∙ ap (put (granted_at (e ∷ past) f) acc on None) k ∙ unasked acc on (same-old (silent l))

      waits : granted_at (e ∷ past) f (newest e past) ≡ false
      waits = ap (λ c. granted_by f c (received_subscription e.note)) (given-newest e past) ∙ go (received_subscription e.note)
        where
          go : (o : Option Subscription) → granted_by f None o ≡ false
          go None = refl
          go (Some s) = ap (is_some_and (λ code. not (refuses code))) (uncoded f s.filters)

      sums : sent_grant e.note ≡ None → total (places_at (e ∷ past) f) before ≡ total (places_at past f) before
      sums h = total-alike (places_at (e ∷ past) f) (places_at past f) before (λ j a. ap (λ c. places_by f c (received_subscription (note j))) (silent h j a))

      -- a packet of an accepted connection
      packet : accepts fate ≡ true → is_boundary e.note ≡ false → (o p : Option Subscription) (g : Option Grant) → received_subscription e.note ≡ o → received_unsubscription e.note ≡ p → sent_grant e.note ≡ g
          → put (granted_at (e ∷ past) f) true true o p ≡ state_asked (length past + 1) 1 o f (state_coded g waiting f (state_asked (length past + 1) 0 p f known))
      packet taken h (Some s) p g q r t =
          let alone = subscribes-alone e.note s q in
          let no_removal : p ≡ None = sym r ∙ alone.0 in
          let no_grant : g ≡ None = sym t ∙ alone.1 in
          ap (put (granted_at (e ∷ past) f) true true (Some s)) no_removal
          ∙ asked 1 s.filters (Some s) None (or_false (has_filter f s.filters)) (ap (λ c. places_by f c (Some s)) (given-newest e past) ∙ sym (all-named f s.filters)) waits (same-old (silent alone.1)) (sums alone.1)
          ∙ ap (state_asked (length past + 1) 1 (Some s) f) (sym (ap (λ g. state_coded g waiting f (state_asked (length past + 1) 0 p f known)) no_grant ∙ ap (λ p. state_asked (length past + 1) 0 p f known) no_removal))
      packet taken h None (Some s) g q r t =
          let alone = unsubscribes-alone e.note s r in
          let no_grant : g ≡ None = sym t ∙ alone.1 in
          asked 0 s.filters None (Some s) refl (sym (nothing-named f s.filters)) waits (same-old (silent alone.1)) (sums alone.1)
          ∙ sym (ap (λ g. state_coded g waiting f (state_asked (length past + 1) 0 (Some s) f known)) no_grant)
      packet taken h None None None q r t = unasked true true (same-old (silent t))
      packet taken h None None (Some a) q r t = unasked-sent ∙ by (first_unanswered subscribe_suback a.identifier (newest e past)) refl
        where
          counted : 0 + total (places_at (e ∷ past) f) before ≡ total (places_at (e ∷ past) f) before
          counted = omega arith

          unasked-sent : put (granted_at (e ∷ past) f) true true None None ≡ built (granted_at (e ∷ past) f) (total (places_at (e ∷ past) f) before) (latest asks before)
          unasked-sent = ap (λ n. built (granted_at (e ∷ past) f) n (latest asks before)) counted

          kept : waiting a.identifier ≡ option_and_then subscribes_of (first_unanswered subscribe_suback a.identifier (newest e past))
          kept =
              are a.identifier
              ∙ ap (λ b. only b (found_first subscribe_suback subscribes_of a.identifier past)) (ap accepted (same_fate h) ∙ taken)
              ∙ ap (λ ms. option_and_then subscribes_of (earliest_since (causes subscribe_suback a.identifier) (answers subscribe_suback a.identifier) ms)) (on_open-connected past (on (grants-alone e.note a t).3))

          by : (o : Option Moment) → first_unanswered subscribe_suback a.identifier (newest e past) ≡ o → built (granted_at (e ∷ past) f) (total (places_at (e ∷ past) f) before) (latest asks before) ≡ state_answered a.codes (waiting a.identifier) f known
          by None first = same-old (λ j b. none-answered a t first j) ∙ sym (ap (λ o. state_answered a.codes o f known) (kept ∙ ap (option_and_then subscribes_of) first))
          by (Some m) first =
              let request = request-of a.identifier (note m) (first-stands a.identifier (newest e past) m first).passes in
              coded a m request.0 taken t (inner h) (same_fate h) first request.1
              ∙ sym (ap (λ o. state_answered a.codes o f known) (kept ∙ ap (option_and_then subscribes_of) first ∙ ap (option_map (λ s. record { at = position m; filters = s.filters })) request.1))

      by_fate : is_boundary e.note ≡ false → (acc : Bool) → accepts fate ≡ acc → put (granted_at (e ∷ past) f) acc true (received_subscription e.note) (received_unsubscription e.note) ≡ cond acc (packet_next (length past + 1) e.note waiting f known) known
      by_fate h true taken = packet taken h (received_subscription e.note) (received_unsubscription e.note) (sent_grant e.note) refl refl refl
      by_fate h false taken = ap (λ n. built (granted_at (e ∷ past) f) n (latest asks before)) counted ∙ same-old (by (sent_grant e.note) refl)
        where
          counted : 0 + total (places_at (e ∷ past) f) before ≡ total (places_at (e ∷ past) f) before
          counted = omega arith

          by : (g : Option Grant) → sent_grant e.note ≡ g → (j : Moment) → Among j before → codes_given (e ∷ past) j ≡ codes_given past j
          by None t j b = silent t j b
          by (Some a) t j b = unaccepted a taken t (inner h) (same_fate h) j b

      by_boundary : (b : Bool) → is_boundary e.note ≡ b → put (granted_at (e ∷ past) f) (accepts fate) (goes_on fate e.note) (received_subscription e.note) (received_unsubscription e.note)
          ≡ cond b (only (goes_on fate e.note) known) (cond (accepts fate) (packet_next (length past + 1) e.note waiting f known) known)
      by_boundary true h = let alone = boundary-alone e.note h in nothing (accepts fate) (goes_on fate e.note) alone.0 alone.1 alone.2
      by_boundary false h =
          ap (λ on. put (granted_at (e ∷ past) f) (accepts fate) on (received_subscription e.note) (received_unsubscription e.note)) (goes h)
          ∙ ap (λ acc. put (granted_at (e ∷ past) f) acc true (received_subscription e.note) (received_unsubscription e.note)) refl
          ∙ by_fate h (accepts fate) refl

-- ---- requests that wait

pub names-requests : (i : ℕ) (o : Option Subscription) → names i (option_map subscription_count o) ≡ requests_under i o
names-requests i None = refl
names-requests i (Some s) = refl

pub names-answers : (i : ℕ) (o : Option Grant) → names i (option_map grant_count o) ≡ answers_under i o
names-answers i None = refl
names-answers i (Some a) = refl

-- what is kept under an identifier, on an accepted connection
pub first-step : {K : Type 0} (acc bound cause answer : Bool) (new old : Option K) → (bound ≡ true → cause ≡ false) → cond bound None (cond acc (first_next false cause answer new (only acc old)) (only acc old)) ≡ only acc (first_next bound cause answer new old)
first-step true true cause true new old h = sym (ap (λ b. cond b new None) (h refl))
first-step true true cause false new old h = sym (ap (λ b. cond b new None) (h refl))
first-step false true cause answer new old h = refl
first-step true false cause answer new old h = refl
first-step false false cause answer new old h = refl

module _ (tested : Tested) (fate : Fate) (e : Seen) (past : List Seen) (on : IsOnConnection e past) where
  earlier_fate : is_boundary e.note ≡ false → fate_before tested fate e past ≡ Some fate
  earlier_fate h = ap (λ b. cond b (latest_fate tested.role past) (Some fate)) (boundary-parts e.note h).0

  waiting-step : (i : ℕ) (old : Option Subscribes) → old ≡ only (accepted (fate_before tested fate e past)) (found_first subscribe_suback subscribes_of i past)
      → waiting_next fate (length past + 1) e.note i old ≡ only (accepts fate) (found_first subscribe_suback subscribes_of i (e ∷ past))
  waiting-step i old are =
      by (is_boundary e.note) refl
      ∙ first-step (accepts fate) (is_boundary e.note) (requests_under i (received_subscription e.note)) (answers_under i (sent_grant e.note)) (subscribes_of (newest e past)) (found_first subscribe_suback subscribes_of i past)
      (λ h. ap (requests_under i) (boundary-alone e.note h).0)
      ∙ ap (only (accepts fate)) (sym (
      found-next subscribe_suback subscribes_of (λ n i h. subscribes_so.causes_are n i ∙ ap (λ o. names i (option_map subscription_count (option_and_then subscription_in o))) h)
      (λ m i h. let s = request-of i (note m) h in (record { at = position m; filters = s.0.filters }, ap (option_map (λ s. record { at = position m; filters = s.filters })) s.1)) i e past on
      ∙ ap (λ b. first_next (is_boundary e.note) b (is_id i (subscribe_suback.answer e.note)) (subscribes_of (newest e past)) (found_first subscribe_suback subscribes_of i past)) (subscribes_so.causes_are e.note i ∙ names-requests i (received_subscription e.note))
      ∙ ap (λ b. first_next (is_boundary e.note) (requests_under i (received_subscription e.note)) b (subscribes_of (newest e past)) (found_first subscribe_suback subscribes_of i past)) (subscribes_so.answers_are e.note i ∙ names-answers i (sent_grant e.note))))
    where
      by : (b : Bool) → is_boundary e.note ≡ b
          → cond b None (cond (accepts fate) (waiting_packet (length past + 1) e.note i old) old)
          ≡ cond b None (cond (accepts fate) (waiting_packet (length past + 1) e.note i (only (accepts fate) (found_first subscribe_suback subscribes_of i past))) (only (accepts fate) (found_first subscribe_suback subscribes_of i past)))
      by true h = refl
      by false h = ap (λ o. cond (accepts fate) (waiting_packet (length past + 1) e.note i o) o) (are ∙ ap (λ t. only (accepted t) (found_first subscribe_suback subscribes_of i past)) (earlier_fate h))

  removing-step : (states : List ℕ → Option FilterState) → ((f : List ℕ) → states f ≡ state_in past f (session tested.role (fate_before tested fate e past) past))
      → (i : ℕ) (old : Option Removes) → old ≡ only (accepted (fate_before tested fate e past)) (found_first unsubscribe_unsuback (removes_of tested.role (fate_before tested fate e past)) i past)
      → removing_next fate (length past + 1) e.note states i old ≡ only (accepts fate) (found_first unsubscribe_unsuback (removes_of tested.role (Some fate)) i (e ∷ past))
  removing-step states is i old are =
      by (is_boundary e.note) refl
      ∙ first-step (accepts fate) (is_boundary e.note) (requests_under i (received_unsubscription e.note)) (answers_under i (sent_deletion e.note)) (keeps (newest e past)) (found_first unsubscribe_unsuback keeps i past)
      (λ h. ap (requests_under i) (boundary-alone e.note h).1)
      ∙ ap (only (accepts fate)) (sym (
      found-next unsubscribe_unsuback keeps (λ n i h. unsubscribes_so.causes_are n i ∙ ap (λ o. names i (option_map subscription_count (option_and_then unsubscription_in o))) h)
      (λ m i h. let s = removal-of i (note m) h in there m s.0 s.1) i e past on
      ∙ ap (λ b. first_next (is_boundary e.note) b (is_id i (unsubscribe_unsuback.answer e.note)) (keeps (newest e past)) (found_first unsubscribe_unsuback keeps i past)) (unsubscribes_so.causes_are e.note i ∙ names-requests i (received_unsubscription e.note))
      ∙ ap (λ b. first_next (is_boundary e.note) (requests_under i (received_unsubscription e.note)) b (keeps (newest e past)) (found_first unsubscribe_unsuback keeps i past)) (unsubscribes_so.answers_are e.note i ∙ names-answers i (sent_deletion e.note))))
    where
      keeps : Moment → Option Removes
      keeps = removes_of tested.role (Some fate)

      made : Moment → Subscription → Removes
      made m s = record { at = position m; filters = s.filters; subscribed = subscribed_each (λ f. is_granted (state_in m.past f (session tested.role (Some fate) m.past))) s.filters }

      there : (m : Moment) (s : Subscription) → received_unsubscription (note m) ≡ Some s → (k : Removes) × (keeps m ≡ Some k)
      there m s h = (made m s, ap (option_map (made m)) h)

      by : (b : Bool) → is_boundary e.note ≡ b
          → cond b None (cond (accepts fate) (removing_packet (length past + 1) e.note states i old) old)
          ≡ cond b None (cond (accepts fate) (first_next false (requests_under i (received_unsubscription e.note)) (answers_under i (sent_deletion e.note)) (keeps (newest e past)) (only (accepts fate) (found_first unsubscribe_unsuback keeps i past))) (only (accepts fate) (found_first unsubscribe_unsuback keeps i past)))
      by true h = refl
      by false h =
          ap (λ o. cond (accepts fate) (removing_packet (length past + 1) e.note states i o) o) (are ∙ ap (λ t. only (accepted t) (found_first unsubscribe_unsuback (removes_of tested.role t) i past)) (earlier_fate h))
          ∙ (λ j. cond (accepts fate)
          (removing_packet (length past + 1) e.note (λ f. (is f ∙ ap (λ t. state_in past f (session tested.role t past)) (earlier_fate h)) j) i (only (accepts fate) (found_first unsubscribe_unsuback keeps i past)))
          (only (accepts fate) (found_first unsubscribe_unsuback keeps i past)))

  pub unclear-step : some (λ m. receives_unclear (note m)) (since_began tested.role (Some fate) (e ∷ past)) ≡ unclear_next fate e.note (some (λ m. receives_unclear (note m)) (since_began tested.role (fate_before tested fate e past) past))
  unclear-step = ap (λ b. receives_unclear e.note || b) (go (is_open e.note) (begins (Some fate)))
    where
      unclear_in : List Moment → Bool
      unclear_in ms = some (λ m. receives_unclear (note m)) ms

      go : (o b : Bool) → unclear_in (cond o (cond b [] (since_began tested.role (latest_fate tested.role past) past)) (since_began tested.role (Some fate) past))
          ≡ (not (o && b) && unclear_in (since_began tested.role (cond o (latest_fate tested.role past) (Some fate)) past))
      go true true = refl
      go true false = refl
      go false b = refl

  -- what is kept, with one event more
  pub deletions-next : (states more : List ℕ → Option FilterState) (waiting left : ℕ → Option Subscribes) (removing rest : ℕ → Option Removes) (unclear next : Bool)
      → TakesIn fate (length past + 1) e.note states more waiting left removing rest unclear next → AreDeletions states waiting removing unclear tested (fate_before tested fate e past) past
      → AreDeletions more left rest next tested (Some fate) (e ∷ past)
  deletions-next states more waiting left removing rest unclear next t s = record {
    states_are = λ f. t.states_next f ∙ ap (state_next fate (length past + 1) e.note waiting f) (s.states_are f) ∙ sym (states-next tested fate e past on f waiting s.waiting_are);
    waiting_are = λ i. t.waiting_next_is i ∙ waiting-step i (waiting i) (s.waiting_are i);
    removing_are = λ i. t.removing_next_is i ∙ removing-step states s.states_are i (removing i) (s.removing_are i);
    unclear_is = t.unclear_next_is ∙ ap (unclear_next fate e.note) s.unclear_is ∙ sym unclear-step;
  }

-- what is kept of an UNSUBSCRIBE under its identifier
pub removal-kept : (o : Option PacketFields) (identifier : ℕ) (filters : List NotedFilter) (at : ℕ) (subscribed : List Bool) (states : List ℕ → Option FilterState) (i : ℕ) → o ≡ Some (Unsubscribe identifier filters) → subscribed ≡ subscribed_each (λ f. is_granted (states f)) filters
    → cond {A = Option Removes} (i == identifier) (Some (record { at = at; filters = filters; subscribed = subscribed })) None
    ≡ cond {A = Option Removes} (requests_under i (option_and_then unsubscription_in o)) (option_map (λ (s : Subscription). record { at = at; filters = s.filters; subscribed = subscribed_each (λ f. is_granted (states f)) s.filters }) (option_and_then unsubscription_in o)) None
removal-kept o identifier filters at subscribed states i is each =
    ap (λ (ss : List Bool). cond {A = Option Removes} (i == identifier) (Some (record { at = at; filters = filters; subscribed = ss })) None) each
    ∙ sym (ap (λ o. cond {A = Option Removes} (requests_under i (option_and_then unsubscription_in o)) (option_map (λ (s : Subscription). record { at = at; filters = s.filters; subscribed = subscribed_each (λ f. is_granted (states f)) s.filters }) (option_and_then unsubscription_in o)) None) is)
