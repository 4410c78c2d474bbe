-- B06 and B07.
use Rattle.std.proofs.Common.{◌≡◌, ℕ, ◌+◌, ◌<◌, ◌==◌, nat_lt, arith, Bool, true, false, cond, ◌&&◌, ◌||◌, not, List, [], ◌∷◌, length, Option, Some, None, refl, ap, sym, ◌∙◌}
use Rattle.std.specs.Prelude.{is_some, option_map}
use Rattle.std.specs.Option.{option_and_then, option_or}
use Rattle.std.specs.Str.{bytes_eq}
use Rattle.std.specs.List.{list_any}
use Rattle.std.proofs.lemmas.Bool.Decides.{nat_tests}
use Rattle.mq_rules.specs.declared.role.Role.{Role}
use Rattle.mq_rules.specs.declared.role.Role.TheVariants.{Client, Server}
use Rattle.mq_rules.specs.declared.role.Further.{Further}
use Rattle.mq_rules.specs.declared.role.Tested.{Tested}
use Rattle.mq_rules.specs.declared.fate.Fate.{Fate}
use Rattle.mq_rules.specs.declared.rule.Rule.{Rule}
use Rattle.mq_rules.specs.declared.rule.Rule.TheVariants.{B06, B07}
use Rattle.mq_rules.specs.declared.note.Note.{Note}
use Rattle.mq_rules.specs.declared.note.Note.TheVariants as notes
use Rattle.mq_rules.specs.declared.note.Seen.{Seen}
use Rattle.mq_rules.specs.declared.text.NotedFilter.{NotedFilter}
use Rattle.mq_rules.specs.Words.{is_some_and, only}
use Rattle.mq_rules.specs.Notes.{Subscription, Grant, is_open, is_close, is_boundary, refuses, received_subscription, received_unsubscription, sent_grant, sent_deletion, receives_unclear}
use Rattle.mq_rules.specs.Moments.{Moment, newest, note, position, is_same, is_next, some, latest, earliest_since}
use Rattle.mq_rules.specs.Connections.{latest_fate, accepts, accepted, begins, session, needs_connection, IsOnConnection}
use Rattle.mq_rules.specs.Exchanges.{causes, answers, first_unanswered, unsubscribe_unsuback}
use Rattle.mq_rules.specs.Subscriptions.{granted}
use Rattle.mq_rules.specs.FurtherSubscriptions.{asks_about, last_about, last_code, codes_answering, is_subscribed_at, was_subscribed, subscribed_each, some_coded, is_unsubscribed_so, is_clear_before, stood_until, since_began, applies_B06, applies_B07, breaks_B06, breaks_B07}
use Rattle.mq_rules.specs.Rules.{binds, found_line, line_of, lines, same_rule}
use Rattle.mq_rules.specs.FaultKeys.{FaultMap}
use Rattle.mq_rules.specs.Under.{IsUnder, fate_before, turns_with}
use Rattle.mq_rules.specs.Occasions.{places_under}
use Rattle.mq_rules.specs.Growing.{Gains, GainsWithin}
use Rattle.mq_rules.proofs.Exports.{and_false, gains_either, on_open-connected, within_either_second, within_nothing}
use Rattle.mq_fates.specs.Holding.{total}
use Rattle.mq_fates.specs.Judgements.{judged_by}
use Rattle.mq_fates.proofs.Exports.{counted-session, gains_judged, neither, none-counted, nothing, places-same, session-turns_with}
use Rattle.mq_subscriptions.specs.declared.requested.FilterState.{FilterState}
use Rattle.mq_subscriptions.specs.Concerns.{has_request, concerns_deletions}
use Rattle.mq_subscriptions.specs.Firsts.{found_first, first_next}
use Rattle.mq_subscriptions.specs.Standings.{goes_on}
use Rattle.mq_subscriptions.specs.Deletings.{Subscribes, Removes, is_granted, is_last, stands, codes_given, places_by, places_at, state_of, state_in, removes_of, some_stood, denies, invents, denies_kept, invents_kept, deletes_kept, packet_next, state_coded, state_asked, waiting_packet, removing_packet, requests_under, answers_under, subscribes_at, removes_at, TakesIn, AreDeletions}
use Rattle.mq_subscriptions.proofs.RequestedLaws.{any-stands, stood-each}
use Rattle.mq_subscriptions.proofs.DeletionLaws.{deletions-next, total-none}

-- ---- what is known of filters

-- a subscription to it stands
granted-is : (role : Role) (f : Fate) (u : Moment) (filter : List ℕ) → is_granted (state_in u.past filter (session role (Some f) u.past)) ≡ is_subscribed_at role f u filter
granted-is role f u filter = go (last_about role f filter u)
  where
    go : (o : Option Moment) → is_granted (option_map (state_of u.past filter (session role (Some f) u.past)) o)
        ≡ is_some_and (λ j. is_some_and (λ s. is_some_and (λ code. not (refuses code)) (last_code filter s.filters (codes_answering j u))) (received_subscription (note j))) o
    go None = refl
    go (Some j) = refl

turned : (m n : ℕ) → (m == n) ≡ (n == m)
turned m n = grind (arith, nat_tests)

-- its last request is this one
last-is : (role : Role) (f : Fate) (k u : Moment) (filter : List ℕ) → is_last (position u) (state_in k.past filter (session role (Some f) k.past)) ≡ is_some_and (is_same u) (last_about role f filter k)
last-is role f k u filter = go (last_about role f filter k)
  where
    go : (o : Option Moment) → is_last (position u) (option_map (state_of k.past filter (session role (Some f) k.past)) o) ≡ is_some_and (is_same u) o
    go None = refl
    go (Some j) = turned (position j) (position u)

-- some moment gives a number above 0
some-total : (test : Moment → Bool) (n : Moment → ℕ) → ((j : Moment) → test j ≡ nat_lt 0 (n j)) → (ms : List Moment) → some test ms ≡ nat_lt 0 (total n ms)
some-total test n same [] = zero-least 0 refl
  where
    zero-least : (m : ℕ) → m ≡ 0 → false ≡ nat_lt 0 m
    zero-least m is = grind (arith, nat_tests)
some-total test n same (m ∷ ms) = ap (λ b. b || some test ms) (same m) ∙ ap (λ b. nat_lt 0 (n m) || b) (some-total test n same ms) ∙ either (n m) (total n ms)
  where
    either : (a b : ℕ) → (nat_lt 0 a || nat_lt 0 b) ≡ nat_lt 0 (a + b)
    either a b = grind (arith, nat_tests)

-- it was subscribed
stands-is : (role : Role) (f : Fate) (k : Moment) (filter : List ℕ) → stands (state_in k.past filter (session role (Some f) k.past)) ≡ was_subscribed role f k filter
stands-is role f k filter = go (latest (asks_about filter) ms) refl ∙ sym (some-total (λ j. is_some_and (λ s. list_any (λ g. bytes_eq filter g.filter) (granted s.filters (codes_answering j k))) (received_subscription (note j))) (places_at k.past filter) each ms)
  where
    ms : List Moment
    ms = session role (Some f) k.past

    each : (j : Moment) → is_some_and (λ s. list_any (λ g. bytes_eq filter g.filter) (granted s.filters (codes_answering j k))) (received_subscription (note j)) ≡ nat_lt 0 (places_at k.past filter j)
    each j = by (received_subscription (note j))
      where
        by : (o : Option Subscription) → is_some_and (λ s. list_any (λ g. bytes_eq filter g.filter) (granted s.filters (codes_answering j k))) o ≡ nat_lt 0 (places_by filter (codes_given k.past j) o)
        by None = sym (least 0 refl)
          where
            least : (n : ℕ) → n ≡ 0 → nat_lt 0 n ≡ false
            least n is = grind (arith, nat_tests)
        by (Some s) = any-stands filter (granted s.filters (codes_answering j k))

    go : (o : Option Moment) → latest (asks_about filter) ms ≡ o → stands (option_map (state_of k.past filter ms) o) ≡ nat_lt 0 (total (places_at k.past filter) ms)
    go None h = let none = total-none k.past filter ms h in least (total (places_at k.past filter) ms) none
      where
        least : (n : ℕ) → n ≡ 0 → false ≡ nat_lt 0 n
        least n is = grind (arith, nat_tests)
    go (Some j) h = refl

-- ---- an UNSUBACK

deletion-needs : (n : Note) (a : Grant) → sent_deletion n ≡ Some a → (needs_connection n ≡ true) × (is_open n ≡ false)
deletion-needs (notes.Sent item) a h = (refl, refl)
deletion-needs _ a h = absurd (cc)

module _ (tested : Tested) (f : Fate) (states : List ℕ → Option FilterState) (waiting : ℕ → Option Subscribes) (removing : ℕ → Option Removes) (unclear : Bool) (e : Seen) (past : List Seen) (on : IsOnConnection e past)
    (are : AreDeletions states waiting removing unclear tested (fate_before tested f e past) past) (taken : accepts f ≡ true) where
  abbrev k : Moment
  k = newest e past

  abbrev made : Moment → Subscription → Removes
  made u s = record { at = position u; filters = s.filters; subscribed = subscribed_each (λ filter. is_granted (state_in u.past filter (session tested.role (Some f) u.past))) s.filters }

  -- what it says of the filters of the first unanswered UNSUBSCRIBE
  deleted-is : (kept : Removes → List ℕ → Bool) (test : Moment → List NotedFilter → List ℕ → Bool)
      → (fate_before tested f e past ≡ Some f → (u : Moment) (s : Subscription) (codes : List ℕ) → kept (made u s) codes ≡ test u s.filters codes)
      → deletes_kept kept unclear removing (sent_deletion e.note) ≡ is_unsubscribed_so tested.role f k test
  deleted-is kept test same = go (sent_deletion e.note) refl
    where
      told : Option Grant → Bool
      told o = is_some_and (λ a. is_some_and (λ u. is_some_and (λ s. test u s.filters a.codes) (received_unsubscription (note u))) (first_unanswered unsubscribe_unsuback a.identifier k)) o

      go : (o : Option Grant) → sent_deletion e.note ≡ o → (not unclear && is_some_and (λ a. is_some_and (λ w. kept w a.codes) (removing a.identifier)) o) ≡ (is_clear_before tested.role f k && told o)
      go None h = and_false (not unclear) ∙ sym (and_false (is_clear_before tested.role f k))
      go (Some a) h =
          ap (λ b. not b && is_some_and (λ w. kept w a.codes) (removing a.identifier)) (are.unclear_is ∙ ap (λ t. some (λ m. receives_unclear (note m)) (since_began tested.role t past)) same_fate)
          ∙ ap (λ b. is_clear_before tested.role f k && b) (ap (is_some_and (λ w. kept w a.codes)) found ∙ by (first_unanswered unsubscribe_unsuback a.identifier k))
        where
          needs : (needs_connection e.note ≡ true) × (is_open e.note ≡ false)
          needs = deletion-needs e.note a h

          same_fate : fate_before tested f e past ≡ Some f
          same_fate = ap (λ b. cond b (latest_fate tested.role past) (Some f)) needs.1

          found : removing a.identifier ≡ option_and_then (removes_of tested.role (Some f)) (first_unanswered unsubscribe_unsuback a.identifier k)
          found =
              are.removing_are a.identifier
              ∙ ap (λ t. only (accepted t) (found_first unsubscribe_unsuback (removes_of tested.role t) a.identifier past)) same_fate
              ∙ ap (λ b. only b (found_first unsubscribe_unsuback (removes_of tested.role (Some f)) a.identifier past)) taken
              ∙ ap (λ ms. option_and_then (removes_of tested.role (Some f)) (earliest_since (causes unsubscribe_unsuback a.identifier) (answers unsubscribe_unsuback a.identifier) ms)) (on_open-connected past (on needs.0))

          within : (u : Moment) (o : Option Subscription) → is_some_and (λ w. kept w a.codes) (option_map (made u) o) ≡ is_some_and (λ s. test u s.filters a.codes) o
          within u None = refl
          within u (Some s) = same same_fate u s a.codes

          by : (o : Option Moment) → is_some_and (λ w. kept w a.codes) (option_and_then (removes_of tested.role (Some f)) o) ≡ is_some_and (λ u. is_some_and (λ s. test u s.filters a.codes) (received_unsubscription (note u))) o
          by None = refl
          by (Some u) = within u (received_unsubscription (note u))

  -- what is known of a filter before it
  known-is : fate_before tested f e past ≡ Some f → (filter : List ℕ) → states filter ≡ state_in past filter (session tested.role (Some f) past)
  known-is same filter = are.states_are filter ∙ ap (λ t. state_in past filter (session tested.role t past)) same

  pub denied-is : (wide : Bool) → deletes_kept (denies_kept wide states) unclear removing (sent_deletion e.note)
      ≡ is_unsubscribed_so tested.role f k (λ u gs codes. some_coded (λ stood code. stood && denies wide code) (subscribed_each (stood_until tested.role f k u) gs) codes)
  denied-is wide = deleted-is (denies_kept wide states) (λ u gs codes. some_coded (λ stood code. stood && denies wide code) (subscribed_each (stood_until tested.role f k u) gs) codes) (λ same u s codes.
      (λ i. some_stood (λ filter. (ap (is_last (position u)) (known-is same filter) ∙ last-is tested.role f k u filter) i) (denies wide) s.filters (subscribed_each (λ filter. granted-is tested.role f u filter i) s.filters) codes)
      ∙ sym (stood-each (is_subscribed_at tested.role f u) (λ filter. is_some_and (is_same u) (last_about tested.role f filter k)) (denies wide) s.filters codes))

  pub invented-is : (wide : Bool) → deletes_kept (invents_kept wide states) unclear removing (sent_deletion e.note)
      ≡ is_unsubscribed_so tested.role f k (λ u gs codes. some_coded (λ g code. invents wide (was_subscribed tested.role f k g.filter) code) gs codes)
  invented-is wide = deleted-is (invents_kept wide states) (λ u gs codes. some_coded (λ g code. invents wide (was_subscribed tested.role f k g.filter) code) gs codes) (λ same u s codes i.
      some_coded (λ g code. invents wide ((ap stands (known-is same g.filter) ∙ stands-is tested.role f k g.filter) i) code) s.filters codes)

-- the same where it is judged
judged-denied : (tested : Tested) (f : Fate) (states : List ℕ → Option FilterState) (waiting : ℕ → Option Subscribes) (removing : ℕ → Option Removes) (unclear : Bool) (e : Seen) (past : List Seen) (bound wide : Bool) → IsOnConnection e past
    → (bound ≡ true → AreDeletions states waiting removing unclear tested (fate_before tested f e past) past)
    → (bound && (accepts f && deletes_kept (denies_kept wide states) unclear removing (sent_deletion e.note)))
    ≡ (bound && (accepts f && is_unsubscribed_so tested.role f (newest e past) (λ u gs codes. some_coded (λ stood code. stood && denies wide code) (subscribed_each (stood_until tested.role f (newest e past) u) gs) codes)))
judged-denied tested f states waiting removing unclear e past true wide on are = go (accepts f) refl
  where
    go : (b : Bool) → accepts f ≡ b → (b && deletes_kept (denies_kept wide states) unclear removing (sent_deletion e.note))
        ≡ (b && is_unsubscribed_so tested.role f (newest e past) (λ u gs codes. some_coded (λ stood code. stood && denies wide code) (subscribed_each (stood_until tested.role f (newest e past) u) gs) codes))
    go true h = denied-is tested f states waiting removing unclear e past on (are refl) h wide
    go false h = refl
judged-denied tested f states waiting removing unclear e past false wide on are = refl

judged-invented : (tested : Tested) (f : Fate) (states : List ℕ → Option FilterState) (waiting : ℕ → Option Subscribes) (removing : ℕ → Option Removes) (unclear : Bool) (e : Seen) (past : List Seen) (bound wide : Bool) → IsOnConnection e past
    → (bound ≡ true → AreDeletions states waiting removing unclear tested (fate_before tested f e past) past)
    → (bound && (accepts f && deletes_kept (invents_kept wide states) unclear removing (sent_deletion e.note)))
    ≡ (bound && (accepts f && is_unsubscribed_so tested.role f (newest e past) (λ u gs codes. some_coded (λ g code. invents wide (was_subscribed tested.role f (newest e past) g.filter) code) gs codes)))
judged-invented tested f states waiting removing unclear e past true wide on are = go (accepts f) refl
  where
    go : (b : Bool) → accepts f ≡ b → (b && deletes_kept (invents_kept wide states) unclear removing (sent_deletion e.note))
        ≡ (b && is_unsubscribed_so tested.role f (newest e past) (λ u gs codes. some_coded (λ g code. invents wide (was_subscribed tested.role f (newest e past) g.filter) code) gs codes))
    go true h = invented-is tested f states waiting removing unclear e past on (are refl) h wide
    go false h = refl
judged-invented tested f states waiting removing unclear e past false wide on are = refl

binds-B07 : (role : Role) (releases : Bool) (further : Further) → binds B07 (record { role = role; releases = releases; further = further }) ≡ binds B06 (record { role = role; releases = releases; further = further })
unfolding line_of found_line lines
binds-B07 Client releases further = refl
binds-B07 Server releases further = refl

-- ---- what an event breaks

pub B06-gains : (tested : Tested) (f : Fate) (states : List ℕ → Option FilterState) (waiting : ℕ → Option Subscribes) (removing : ℕ → Option Removes) (unclear : Bool) (at : ℕ) (e : Seen) (past : List Seen) (m : FaultMap) (bound b : Bool) → IsUnder tested f at e past
    → (bound ≡ true → AreDeletions states waiting removing unclear tested (fate_before tested f e past) past) → bound ≡ binds B06 tested → b ≡ (bound && (accepts f && deletes_kept (denies_kept false states) unclear removing (sent_deletion e.note)))
    → Gains (λ k r. same_rule r B06 && turns_with tested f e past k r) tested (e ∷ past) at m (judged_by b B06 e.place at m)
unfolding breaks_B06
B06-gains tested f states waiting removing unclear at e past m bound b under are judged is =
    gains_judged tested B06 f e past at m b (λ m. refl) under.follows.placed.0 (λ k.
    session-turns_with tested B06 (breaks_B06 tested.role) refl f e past k
    ∙ ap (λ t. is_next past k && (t && (accepts f && breaks_B06 tested.role f (newest e past)))) (sym judged)
    ∙ ap (λ t. is_next past k && t) (sym (is ∙ judged-denied tested f states waiting removing unclear e past bound false under.follows.on_connections.0 are)))

pub B07-gains : (tested : Tested) (f : Fate) (states : List ℕ → Option FilterState) (waiting : ℕ → Option Subscribes) (removing : ℕ → Option Removes) (unclear : Bool) (at : ℕ) (e : Seen) (past : List Seen) (m : FaultMap) (bound b : Bool) → IsUnder tested f at e past
    → (bound ≡ true → AreDeletions states waiting removing unclear tested (fate_before tested f e past) past) → bound ≡ binds B06 tested → b ≡ (bound && (accepts f && deletes_kept (invents_kept false states) unclear removing (sent_deletion e.note)))
    → Gains (λ k r. same_rule r B07 && turns_with tested f e past k r) tested (e ∷ past) at m (judged_by b B07 e.place at m)
unfolding breaks_B07
B07-gains tested f states waiting removing unclear at e past m bound b under are judged is =
    gains_judged tested B07 f e past at m b (λ m. refl) under.follows.placed.0 (λ k.
    session-turns_with tested B07 (breaks_B07 tested.role) refl f e past k
    ∙ ap (λ t. is_next past k && (t && (accepts f && breaks_B07 tested.role f (newest e past)))) (binds-B07 tested.role tested.releases tested.further ∙ sym judged)
    ∙ ap (λ t. is_next past k && t) (sym (is ∙ judged-invented tested f states waiting removing unclear e past bound false under.follows.on_connections.0 are)))

-- both, one after the other; and the first alone, where memory ran out at the second
pub deletion-gains : (tested : Tested) (f : Fate) (states : List ℕ → Option FilterState) (waiting : ℕ → Option Subscribes) (removing : ℕ → Option Removes) (unclear : Bool) (at : ℕ) (e : Seen) (past : List Seen) (m : FaultMap) (bound a b : Bool) → IsUnder tested f at e past
    → (bound ≡ true → AreDeletions states waiting removing unclear tested (fate_before tested f e past) past) → bound ≡ binds B06 tested
    → a ≡ (bound && (accepts f && deletes_kept (denies_kept false states) unclear removing (sent_deletion e.note))) → b ≡ (bound && (accepts f && deletes_kept (invents_kept false states) unclear removing (sent_deletion e.note)))
    → Gains (λ k r. (same_rule r B06 || same_rule r B07) && turns_with tested f e past k r) tested (e ∷ past) at m (judged_by b B07 e.place at (judged_by a B06 e.place at m))
deletion-gains tested f states waiting removing unclear at e past m bound a b under are judged denied invented =
    let first : FaultMap = judged_by a B06 e.place at m in
    gains_either (λ r. same_rule r B06) (λ r. same_rule r B07) (λ k r. turns_with tested f e past k r) tested (e ∷ past) at m first (judged_by b B07 e.place at first)
    (B06-gains tested f states waiting removing unclear at e past m bound a under are judged denied)
    (B07-gains tested f states waiting removing unclear at e past first bound b under are judged invented)

pub deletion-within : (tested : Tested) (f : Fate) (states : List ℕ → Option FilterState) (waiting : ℕ → Option Subscribes) (removing : ℕ → Option Removes) (unclear : Bool) (at : ℕ) (e : Seen) (past : List Seen) (m : FaultMap) (bound a : Bool) → IsUnder tested f at e past
    → (bound ≡ true → AreDeletions states waiting removing unclear tested (fate_before tested f e past) past) → bound ≡ binds B06 tested
    → a ≡ (bound && (accepts f && deletes_kept (denies_kept false states) unclear removing (sent_deletion e.note)))
    → GainsWithin (λ k r. (same_rule r B06 || same_rule r B07) && turns_with tested f e past k r) tested (e ∷ past) at m (judged_by a B06 e.place at m)
deletion-within tested f states waiting removing unclear at e past m bound a under are judged denied =
    let first : FaultMap = judged_by a B06 e.place at m in
    within_either_second (λ r. same_rule r B06) (λ r. same_rule r B07) (λ k r. turns_with tested f e past k r) tested (e ∷ past) at m first first
    (B06-gains tested f states waiting removing unclear at e past m bound a under are judged denied)
    (within_nothing (λ k r. same_rule r B07 && turns_with tested f e past k r) tested (e ∷ past) at first first refl)

-- ---- where they are put to the test

pub B06-places : (tested : Tested) (f : Fate) (states : List ℕ → Option FilterState) (waiting : ℕ → Option Subscribes) (removing : ℕ → Option Removes) (unclear : Bool) (at : ℕ) (e : Seen) (past : List Seen) (bound here : Bool) (old new : ℕ) → IsUnder tested f at e past
    → (bound ≡ true → AreDeletions states waiting removing unclear tested (fate_before tested f e past) past) → bound ≡ binds B06 tested
    → old ≡ places_under tested (fate_before tested f e past) past B06 → here ≡ (bound && (accepts f && deletes_kept (denies_kept true states) unclear removing (sent_deletion e.note)))
    → (old < e.place.position → new ≡ cond here 1 0 + old) → new ≡ places_under tested (Some f) (e ∷ past) B06
unfolding applies_B06
B06-places tested f states waiting removing unclear at e past bound here old new under are judged was is more =
    counted-session tested B06 (applies_B06 tested.role) refl f at e past here old new under was
    (is ∙ judged-denied tested f states waiting removing unclear e past bound true under.follows.on_connections.0 are ∙ ap (λ t. t && (accepts f && applies_B06 tested.role f (newest e past))) judged) more

pub B07-places : (tested : Tested) (f : Fate) (states : List ℕ → Option FilterState) (waiting : ℕ → Option Subscribes) (removing : ℕ → Option Removes) (unclear : Bool) (at : ℕ) (e : Seen) (past : List Seen) (bound here : Bool) (old new : ℕ) → IsUnder tested f at e past
    → (bound ≡ true → AreDeletions states waiting removing unclear tested (fate_before tested f e past) past) → bound ≡ binds B06 tested
    → old ≡ places_under tested (fate_before tested f e past) past B07 → here ≡ (bound && (accepts f && deletes_kept (invents_kept true states) unclear removing (sent_deletion e.note)))
    → (old < e.place.position → new ≡ cond here 1 0 + old) → new ≡ places_under tested (Some f) (e ∷ past) B07
unfolding applies_B07
B07-places tested f states waiting removing unclear at e past bound here old new under are judged was is more =
    counted-session tested B07 (applies_B07 tested.role) refl f at e past here old new under was
    (is ∙ judged-invented tested f states waiting removing unclear e past bound true under.follows.on_connections.0 are
    ∙ ap (λ t. t && (accepts f && applies_B07 tested.role f (newest e past))) (judged ∙ sym (binds-B07 tested.role tested.releases tested.further))) more

-- what is counted of the two is what is asked of one of them
pub deletion-picked : (tested : Tested) (taken : Option Fate) (past : List Seen) (stood told : ℕ) (rule : Rule) → stood ≡ places_under tested taken past B06 → told ≡ places_under tested taken past B07
    → (same_rule rule B06 || same_rule rule B07) ≡ true → cond (same_rule rule B06) stood told ≡ places_under tested taken past rule
deletion-picked tested taken past stood told rule one two judged = go (same_rule rule B06) refl judged
  where
    go : (a : Bool) → same_rule rule B06 ≡ a → (a || same_rule rule B07) ≡ true → cond a stood told ≡ places_under tested taken past rule
    go true is h = places-same tested taken past B06 rule stood one is
    go false is h = places-same tested taken past B07 rule told two h

-- ---- an event that doesn't concern them

-- neither a request nor an answer, and no bytes that may be one
record IsQuiet (n : Note) : Type 0 where
  inside : is_boundary n ≡ false
  subscribe : received_subscription n ≡ None
  unsubscribe : received_unsubscription n ≡ None
  grant : sent_grant n ≡ None
  deletion : sent_deletion n ≡ None
  clear : receives_unclear n ≡ false

quiet : (n : Note) → has_request n ≡ false → IsQuiet n
quiet n h =
    let h1 = neither (is_boundary n) ((is_some (received_subscription n) || is_some (received_unsubscription n)) || ((is_some (sent_grant n) || is_some (sent_deletion n)) || receives_unclear n)) h in
    let h2 = neither (is_some (received_subscription n) || is_some (received_unsubscription n)) ((is_some (sent_grant n) || is_some (sent_deletion n)) || receives_unclear n) h1.1 in
    let h3 = neither (is_some (received_subscription n)) (is_some (received_unsubscription n)) h2.0 in
    let h4 = neither (is_some (sent_grant n) || is_some (sent_deletion n)) (receives_unclear n) h2.1 in
    let h5 = neither (is_some (sent_grant n)) (is_some (sent_deletion n)) h4.0 in
    record { inside = h1.0; subscribe = nothing (received_subscription n) h3.0; unsubscribe = nothing (received_unsubscription n) h3.1; grant = nothing (sent_grant n) h5.0; deletion = nothing (sent_deletion n) h5.1; clear = h4.1 }

-- it leaves all as it is
quiet-next : (f : Fate) (at : ℕ) (n : Note) → IsQuiet n → (states : List ℕ → Option FilterState) (waiting : ℕ → Option Subscribes) (removing : ℕ → Option Removes) (unclear : Bool)
    → TakesIn f at n states states waiting waiting removing removing unclear unclear
quiet-next f at n q states waiting removing unclear = record {
  states_next = λ filter. sym (
      ap (λ b. cond b (only (goes_on f n) (states filter)) (cond (accepts f) (packet_next at n waiting filter (states filter)) (states filter))) q.inside
      ∙ ap (λ o. cond (accepts f) o (states filter)) (
      ap (λ o. state_asked at 1 o filter (state_coded (sent_grant n) waiting filter (state_asked at 0 (received_unsubscription n) filter (states filter)))) q.subscribe
      ∙ ap (λ o. state_coded o waiting filter (state_asked at 0 (received_unsubscription n) filter (states filter))) q.grant
      ∙ ap (λ o. state_asked at 0 o filter (states filter)) q.unsubscribe)
      ∙ either (accepts f) (states filter));
  waiting_next_is = λ i. sym (
      ap (λ b. cond b None (cond (accepts f) (waiting_packet at n i (waiting i)) (waiting i))) q.inside
      ∙ ap (λ o. cond (accepts f) o (waiting i)) (
      ap (λ o. first_next false (requests_under i o) (answers_under i (sent_grant n)) (subscribes_at at n) (waiting i)) q.subscribe
      ∙ ap (λ o. first_next false false (answers_under i o) (subscribes_at at n) (waiting i)) q.grant
      ∙ kept (waiting i))
      ∙ either (accepts f) (waiting i));
  removing_next_is = λ i. sym (
      ap (λ b. cond b None (cond (accepts f) (removing_packet at n states i (removing i)) (removing i))) q.inside
      ∙ ap (λ o. cond (accepts f) o (removing i)) (
      ap (λ o. first_next false (requests_under i o) (answers_under i (sent_deletion n)) (removes_at at states n) (removing i)) q.unsubscribe
      ∙ ap (λ o. first_next false false (answers_under i o) (removes_at at states n) (removing i)) q.deletion
      ∙ kept (removing i))
      ∙ either (accepts f) (removing i));
  unclear_next_is = sym (ap (λ b. b || (goes_on f n && unclear)) q.clear ∙ ap (λ b. not (b && begins (Some f)) && unclear) (neither (is_open n) (is_close n) q.inside).0);
}
  where
    either : {A : Type 0} (b : Bool) (a : A) → cond b a a ≡ a
    either true a = refl
    either false a = refl

    kept : {A : Type 0} (o : Option A) → option_or o None ≡ o
    kept None = refl
    kept (Some a) = refl

-- it says nothing that is judged
untold : (tested : Tested) (n : Note) → concerns_deletions tested n ≡ false → (kept : Removes → List ℕ → Bool) (bound : Bool) → bound ≡ binds B06 tested → (f : Fate) (unclear : Bool) (removing : ℕ → Option Removes)
    → false ≡ (bound && (accepts f && deletes_kept kept unclear removing (sent_deletion n)))
untold tested n h kept bound judged f unclear removing = go bound (ap (λ b. b && has_request n) judged ∙ h)
  where
    go : (b : Bool) → (b && has_request n) ≡ false → false ≡ (b && (accepts f && deletes_kept kept unclear removing (sent_deletion n)))
    go true h = sym (ap (λ o. accepts f && deletes_kept kept unclear removing o) (quiet n h).deletion ∙ ap (λ b. accepts f && b) (and_false (not unclear)) ∙ and_false (accepts f))
    go false h = refl

pub deletions-pass : (tested : Tested) (f : Fate) (states : List ℕ → Option FilterState) (waiting : ℕ → Option Subscribes) (removing : ℕ → Option Removes) (unclear : Bool) (at : ℕ) (e : Seen) (past : List Seen) (bound : Bool) → concerns_deletions tested e.note ≡ false → IsUnder tested f at e past
    → bound ≡ binds B06 tested → (bound ≡ true → AreDeletions states waiting removing unclear tested (fate_before tested f e past) past)
    → (bound ≡ true → AreDeletions states waiting removing unclear tested (Some f) (e ∷ past)) × ((m : FaultMap) → Gains (λ k r. (same_rule r B06 || same_rule r B07) && turns_with tested f e past k r) tested (e ∷ past) at m m)
deletions-pass tested f states waiting removing unclear at e past bound h under judged are = (
  λ is. deletions-next tested f e past under.follows.on_connections.0 states states waiting waiting removing removing unclear unclear
      (quiet-next f (length past + 1) e.note (quiet e.note (ap (λ b. b && has_request e.note) (sym is ∙ judged) ∙ h)) states waiting removing unclear) (are is),
  λ m. deletion-gains tested f states waiting removing unclear at e past m bound false false under are judged
      (untold tested e.note h (denies_kept false states) bound judged f unclear removing) (untold tested e.note h (invents_kept false states) bound judged f unclear removing),
)

pub deletions-leave : (tested : Tested) (f : Fate) (states : List ℕ → Option FilterState) (waiting : ℕ → Option Subscribes) (removing : ℕ → Option Removes) (unclear : Bool) (at : ℕ) (e : Seen) (past : List Seen) (bound : Bool) (stood told : ℕ) → concerns_deletions tested e.note ≡ false → IsUnder tested f at e past
    → bound ≡ binds B06 tested → (bound ≡ true → AreDeletions states waiting removing unclear tested (fate_before tested f e past) past)
    → (stood ≡ places_under tested (fate_before tested f e past) past B06) × (told ≡ places_under tested (fate_before tested f e past) past B07)
    → (stood ≡ places_under tested (Some f) (e ∷ past) B06) × (told ≡ places_under tested (Some f) (e ∷ past) B07)
deletions-leave tested f states waiting removing unclear at e past bound stood told h under judged are was = (
  B06-places tested f states waiting removing unclear at e past bound false stood stood under are judged was.0 (untold tested e.note h (denies_kept true states) bound judged f unclear removing) (λ low. none-counted stood),
  B07-places tested f states waiting removing unclear at e past bound false told told under are judged was.1 (untold tested e.note h (invents_kept true states) bound judged f unclear removing) (λ low. none-counted told),
)
