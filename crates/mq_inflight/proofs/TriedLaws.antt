-- How often S01 to S05 are put to the test.
use Rattle.std.proofs.Common.{◌≡◌, ℕ, ◌+◌, ◌<◌, ◌==◌, nat_eq, nat_lt, arith, Bool, true, false, cond, ◌&&◌, ◌||◌, not, List, [], ◌∷◌, Option, Some, None, refl, ap, sym, ◌∙◌, ◌⊎◌, inl, inr}
use Rattle.std.specs.Prelude.{is_some, length}
use Rattle.std.specs.Option.{option_or}
use Rattle.std.specs.List.{list_any}
use Rattle.std.proofs.lemmas.Bool.{eqb-true, eq-eqb, lt-ltb}
use Rattle.indexmap.specs.IndexSet.{contains}
use Rattle.mq_rules.specs.declared.role.Role.{Role}
use Rattle.mq_rules.specs.declared.role.Tested.{Tested}
use Rattle.mq_rules.specs.declared.fate.Fate.{Fate}
use Rattle.mq_rules.specs.declared.rule.Rule.{Rule}
use Rattle.mq_rules.specs.declared.rule.Rule.TheVariants.{S01, S02, S03, S04, S05}
use Rattle.mq_rules.specs.declared.note.Note.{Note}
use Rattle.mq_rules.specs.declared.note.Seen.{Seen}
use Rattle.mq_rules.specs.Words.{is_some_and, is_id}
use Rattle.mq_rules.specs.Notes.{is_open, needs_session, opener_of, resend_of, sent_as, received_as, pubrel_in, subscribe_in, suback_in, unsubscribe_in, unsuback_in}
use Rattle.mq_rules.specs.Moments.{Moment, newest, note, position, moments, some, since, latest, IsPlaced}
use Rattle.mq_rules.specs.Connections.{begun, number, connection, fate, voided, session, accepts, is_unasked, surprises, comes_early, IsOnConnection}
use Rattle.mq_rules.specs.Identifiers.{opens_id, closes_id, is_open_at, latest_opener, session_before, awaits_suback, awaits_unsuback, is_busy_at, may_be_discarded, is_any_busy_at, takes_some, taken_by, was_cut_off, cuts_publish, opens_exactly_once, sends_pubrel, applies_S01, applies_S02, applies_S03, applies_S04, applies_S05}
use Rattle.mq_rules.specs.Rules.{binds, same_rule}
use Rattle.mq_rules.specs.Statements.{in_session}
use Rattle.mq_rules.specs.Under.{IsUnder, fate_before}
use Rattle.mq_rules.specs.KeptOrder.{value_under, values_of}
use Rattle.mq_rules.specs.Occasions.{occasion, places_under}
use Rattle.mq_rules.proofs.Exports.{among-some, both_true, has_item, or_left, or_parts, or_right, resend-needs, same_test, session-descend, session-members, since-stands, some-among, taken-needs, those-among, under-within}
use Rattle.mq_inflight.specs.declared.inflight.Inflight.{Inflight}
use Rattle.mq_inflight.specs.declared.inflight.entry.Entry.{Entry}
use Rattle.mq_inflight.specs.declared.inflight.asking.AtOncePlaces.{AtOncePlaces}
use Rattle.mq_fates.specs.Knowing.{excused}
use Rattle.mq_inflight.specs.Resending.{passed_since}
use Rattle.mq_inflight.specs.Using.{is_taken, past_pubrel, resent_in, is_at_once, IsUsing}
use Rattle.mq_inflight.specs.Tried.{has_any, any_used, tries_taking, tries_resending, tries_repeating, tries_released, tries_ordering, CountsAtOnce}
use Rattle.mq_fates.proofs.Exports.{counted-session, places-same, and-apart, excused-known, connection-descends, held, named}
use Rattle.mq_inflight.proofs.OpenedLaws.{entry-there}
use Rattle.mq_inflight.proofs.UsingLaws.{binds-S01, binds-S02, binds-S03, binds-S04, taken-none, resend-none, sent-none, item-closed, now, same_some, busy-is, resent_past, resent-later, past_pubrel-is}
use Rattle.mq_inflight.proofs.ValuesLaws.{passes-value, passing-there, value-passes}
use Rattle.mq_inflight.proofs.VoidLaws.{on_void-read, some-same}

-- ---- something is in use

any-listed : (is : List ℕ) → has_any is ≡ true → (i : ℕ) × (list_any (nat_eq i) is ≡ true)
any-listed [] h = absurd (cc)
any-listed (i ∷ is) h = (i, ap (λ b. b || list_any (nat_eq i) is) (eq-eqb i i refl))

listed-any : (i : ℕ) (is : List ℕ) → list_any (nat_eq i) is ≡ true → has_any is ≡ true
listed-any i [] h = absurd (cc)
listed-any i (j ∷ is) h = let counted : 0 < length (j ∷ is) = omega arith in lt-ltb 0 (length (j ∷ is)) counted

-- what is busy was taken before, by an opener, a SUBSCRIBE or an UNSUBSCRIBE
busy-taken : (role : Role) (f : Fate) (i : ℕ) (e : Seen) (past : List Seen) (test : ℕ → Bool) → test i ≡ true → is_busy_at role f i (newest e past) ≡ true → some (takes_some test) (moments past) ≡ true
busy-taken role f i e past test passing busy = of (or_parts (is_open_at role f i k && not (may_be_discarded role f i k)) (awaits_suback i k || awaits_unsuback i k) busy)
  where
    k : Moment
    k = newest e past

    opened : Moment → Bool
    opened m = is_some_and test (opener_of (note m))

    subscribed : Moment → Bool
    subscribed m = is_some_and test (sent_as subscribe_in (note m))

    unsubscribed : Moment → Bool
    unsubscribed m = is_some_and test (sent_as unsubscribe_in (note m))

    passes : (o : Option ℕ) → is_id i o ≡ true → is_some_and test o ≡ true
    passes o h = ap (is_some_and test) (named i o h) ∙ passing

    held_open : is_open_at role f i k ≡ true → some (takes_some test) (moments past) ≡ true
    held_open h =
        let r = since-stands (opens_id i) (closes_id i) (session role (Some f) past) (session-descend role (Some f) past) h in
        among-some (takes_some test) (moments past) r.at (session-members role (Some f) past r.at r.there).0 (or_left (opened r.at) (subscribed r.at || unsubscribed r.at) (passes (opener_of (note r.at)) r.passes))

    asked : (asks ends : Moment → Bool) → ((m : Moment) → asks m ≡ true → (subscribed m || unsubscribed m) ≡ true) → since asks ends (connection past) ≡ true → some (takes_some test) (moments past) ≡ true
    asked asks stops each h =
        let r = since-stands asks stops (connection past) (connection-descends past) h in
        among-some (takes_some test) (moments past) r.at (those-among (λ m. number m == begun past) (moments past) r.at r.there).0 (or_right (opened r.at) (subscribed r.at || unsubscribed r.at) (each r.at r.passes))

    answered : (awaits_suback i k ≡ true) ⊎ (awaits_unsuback i k ≡ true) → some (takes_some test) (moments past) ≡ true
    answered (inl h) = asked (λ m. is_id i (sent_as subscribe_in (note m))) (λ m. is_id i (received_as suback_in (note m))) (λ m t. or_left (subscribed m) (unsubscribed m) (passes (sent_as subscribe_in (note m)) t)) h
    answered (inr h) = asked (λ m. is_id i (sent_as unsubscribe_in (note m))) (λ m. is_id i (received_as unsuback_in (note m))) (λ m t. or_right (subscribed m) (unsubscribed m) (passes (sent_as unsubscribe_in (note m)) t)) h

    of : ((is_open_at role f i k && not (may_be_discarded role f i k)) ≡ true) ⊎ ((awaits_suback i k || awaits_unsuback i k) ≡ true) → some (takes_some test) (moments past) ≡ true
    of (inl h) = held_open (both_true (is_open_at role f i k) (not (may_be_discarded role f i k)) h).0
    of (inr h) = answered (or_parts (awaits_suback i k) (awaits_unsuback i k) h)

-- what a moment takes is an identifier
takes-one : (test : ℕ → Bool) (m : Moment) → takes_some test m ≡ true → (i : ℕ) × (test i ≡ true)
takes-one test m h = first (or_parts (is_some_and test (opener_of (note m))) (is_some_and test (sent_as subscribe_in (note m)) || is_some_and test (sent_as unsubscribe_in (note m))) h)
  where
    one : (o : Option ℕ) → is_some_and test o ≡ true → (i : ℕ) × (test i ≡ true)
    one o t = let r = held test o t in (r.0, r.2)

    second : (is_some_and test (sent_as subscribe_in (note m)) ≡ true) ⊎ (is_some_and test (sent_as unsubscribe_in (note m)) ≡ true) → (i : ℕ) × (test i ≡ true)
    second (inl t) = one (sent_as subscribe_in (note m)) t
    second (inr t) = one (sent_as unsubscribe_in (note m)) t

    first : (is_some_and test (opener_of (note m)) ≡ true) ⊎ ((is_some_and test (sent_as subscribe_in (note m)) || is_some_and test (sent_as unsubscribe_in (note m))) ≡ true) → (i : ℕ) × (test i ≡ true)
    first (inl t) = one (opener_of (note m)) t
    first (inr t) = second (or_parts (is_some_and test (sent_as subscribe_in (note m))) (is_some_and test (sent_as unsubscribe_in (note m))) t)

-- something is in use by what is kept exactly if some identifier is busy
used-is : (tested : Tested) (s : Inflight) (f : Fate) (e : Seen) (past : List Seen) → IsPlaced past → IsOnConnection e past → has_item e.note ≡ true → accepts f ≡ true → IsUsing s tested (fate_before tested f e past) past
    → any_used s f ≡ is_any_busy_at tested.role f (newest e past)
used-is tested s f e past placed on item a u = same_test (any_used s f) (is_any_busy_at tested.role f (newest e past)) forth back
  where
    kept : Entry → Bool
    kept o = is_taken (passed_since f s.bounds s.opened s.bounded) o

    waiting : Bool
    waiting = has_any s.subscribing.keys || has_any s.unsubscribing.keys

    taken : Bool
    taken = list_any kept (values_of (value_under s.entries))

    held_at : ℕ → Bool
    held_at i = is_some_and kept (value_under s.entries i)

    sent_at : ℕ → Bool
    sent_at i = contains nat_eq s.subscribing i || contains nat_eq s.unsubscribing i

    busy : ℕ → Bool
    busy i = is_busy_at tested.role f i (newest e past)

    is_busy : (i : ℕ) → (held_at i || sent_at i) ≡ busy i
    is_busy i = busy-is tested s f e past placed on item a u i

    at : (i : ℕ) → (held_at i || sent_at i) ≡ true → is_any_busy_at tested.role f (newest e past) ≡ true
    at i h = let b = sym (is_busy i) ∙ h in busy-taken tested.role f i e past busy b b

    forth : any_used s f ≡ true → is_any_busy_at tested.role f (newest e past) ≡ true
    forth h = of (or_parts waiting taken h)
      where
        sent : (has_any s.subscribing.keys ≡ true) ⊎ (has_any s.unsubscribing.keys ≡ true) → is_any_busy_at tested.role f (newest e past) ≡ true
        sent (inl t) = let r = any-listed s.subscribing.keys t in at r.0 (or_right (held_at r.0) (sent_at r.0) (or_left (contains nat_eq s.subscribing r.0) (contains nat_eq s.unsubscribing r.0) r.1))
        sent (inr t) = let r = any-listed s.unsubscribing.keys t in at r.0 (or_right (held_at r.0) (sent_at r.0) (or_right (contains nat_eq s.subscribing r.0) (contains nat_eq s.unsubscribing r.0) r.1))

        of : (waiting ≡ true) ⊎ (taken ≡ true) → is_any_busy_at tested.role f (newest e past) ≡ true
        of (inl t) = sent (or_parts (has_any s.subscribing.keys) (has_any s.unsubscribing.keys) t)
        of (inr t) = let r = value-passes kept (value_under s.entries) t in at r.0 (or_left (held_at r.0) (sent_at r.0) r.1)

    back : is_any_busy_at tested.role f (newest e past) ≡ true → any_used s f ≡ true
    back h =
        let r = some-among (takes_some busy) (moments past) h in
        let i = takes-one busy r.0 r.2 in
        of i.0 (or_parts (held_at i.0) (sent_at i.0) (is_busy i.0 ∙ i.1))
      where
        sent : (i : ℕ) → (contains nat_eq s.subscribing i ≡ true) ⊎ (contains nat_eq s.unsubscribing i ≡ true) → waiting ≡ true
        sent i (inl t) = or_left (has_any s.subscribing.keys) (has_any s.unsubscribing.keys) (listed-any i s.subscribing.keys t)
        sent i (inr t) = or_right (has_any s.subscribing.keys) (has_any s.unsubscribing.keys) (listed-any i s.unsubscribing.keys t)

        of : (i : ℕ) → (held_at i ≡ true) ⊎ (sent_at i ≡ true) → any_used s f ≡ true
        of i (inl t) = or_right waiting taken (passes-value kept i (value_under s.entries) (under-within s.entries i (passing-there kept (value_under s.entries i) t)) t)
        of i (inr t) = or_left waiting taken (sent i (or_parts (contains nat_eq s.subscribing i) (contains nat_eq s.unsubscribing i) t))

-- ---- something that was open was sent again

positive : (m : Moment) → nat_lt 0 (position m) ≡ true
positive m = lt-ltb 0 (position m) (omega arith)

latest-placed : (starts ends : Moment → Bool) (ms : List Moment) → since starts ends ms ≡ true → is_some_and (λ m. nat_lt 0 (position m)) (latest starts ms) ≡ true
latest-placed starts stops [] h = absurd (cc)
latest-placed starts stops (m ∷ ms) h = go (starts m) (stops m) h (latest-placed starts stops ms)
  where
    go : (s e : Bool) → (s || (not e && since starts stops ms)) ≡ true → (since starts stops ms ≡ true → is_some_and (λ m. nat_lt 0 (position m)) (latest starts ms) ≡ true) → is_some_and (λ m. nat_lt 0 (position m)) (cond s (Some m) (latest starts ms)) ≡ true
    go true e h rest = positive m
    go false true h rest = absurd (cc)
    go false false h rest = rest h

and-follows : (a b : Bool) → (a ≡ true → b ≡ true) → (a && b) ≡ a
and-follows true b h = h refl
and-follows false b h = refl

resent-some : (role : Role) (f : Fate) (past : List Seen) → IsPlaced past → nat_lt 0 (resent_in role (Some f) past) ≡ some (λ j. is_some_and (λ o. is_open_at role f o j) (resend_of (note j))) (connection past)
resent-some role f past placed =
    resent-later role f 0 past placed
    ∙ some-same (resent_past role f 0) (λ j. is_some_and (λ o. is_open_at role f o j) (resend_of (note j))) (connection past)
    (λ j among. same_some (λ o. is_open_at role f o j && is_some_and (λ m. nat_lt 0 (position m)) (latest_opener role f o j)) (λ o. is_open_at role f o j) (resend_of (note j))
    (λ o. and-follows (is_open_at role f o j) (is_some_and (λ m. nat_lt 0 (position m)) (latest_opener role f o j)) (latest-placed (opens_id o) (closes_id o) (session_before role f j))))

-- ---- the places

-- on an accepted connection two tests agree that do where something is sent or received, and where nothing is
where-sent : (f : Fate) (n : Note) (a b : Bool) → (has_item n ≡ false → a ≡ b) → (has_item n ≡ true → accepts f ≡ true → a ≡ b) → (accepts f && a) ≡ (accepts f && b)
where-sent f n a b idle sent = go (accepts f) refl (has_item n) refl
  where
    go : (t : Bool) → accepts f ≡ t → (c : Bool) → has_item n ≡ c → (t && a) ≡ (t && b)
    go false t c h = refl
    go true t false h = idle h
    go true t true h = sent h t

-- a statement that is put to the test unless the end couldn't know
known-places : (tested : Tested) (rule : Rule) (applies : Fate → Moment → Bool) (surprising : Fate → Bool) → occasion tested.role rule ≡ Some (in_session (λ f m. applies f m && not (surprising f && comes_early tested.role m))) → binds rule tested ≡ true
    → (f : Fate) (at : ℕ) (e : Seen) (past : List Seen) (here tried : Bool) (old new : ℕ) → IsUnder tested f at e past → ((accepts f && tried) ≡ true → needs_session e.note ≡ true) → (accepts f && tried) ≡ (accepts f && applies f (newest e past))
    → old ≡ places_under tested (fate_before tested f e past) past rule → here ≡ excused (surprising f) (at == e.place.position) (accepts f && tried)
    → (old < e.place.position → new ≡ cond here 1 0 + old) → new ≡ places_under tested (Some f) (e ∷ past) rule
known-places tested rule applies surprising says bound f at e past here tried old new under needs same was is more =
    counted-session tested rule (λ f m. applies f m && not (surprising f && comes_early tested.role m)) says f at e past here old new under was
    (is
    ∙ sym (excused-known tested f at e past (surprising f) (accepts f && tried) under needs)
    ∙ ap (λ b. b && not (surprising f && comes_early tested.role (newest e past))) same
    ∙ sym (and-apart (accepts f) (applies f (newest e past)) (not (surprising f && comes_early tested.role (newest e past))))
    ∙ ap (λ b. b && (accepts f && (applies f (newest e past) && not (surprising f && comes_early tested.role (newest e past))))) (sym bound)) more

pub S01-places : (tested : Tested) (s : Inflight) (f : Fate) (at : ℕ) (e : Seen) (past : List Seen) (here : Bool) (old new : ℕ) → IsUnder tested f at e past → IsUsing s tested (fate_before tested f e past) past
    → old ≡ places_under tested (fate_before tested f e past) past S01 → here ≡ tries_taking s f (at == e.place.position) e.note
    → (old < e.place.position → new ≡ cond here 1 0 + old) → new ≡ places_under tested (Some f) (e ∷ past) S01
unfolding applies_S01
S01-places tested s f at e past here old new under u was is more =
    known-places tested S01 (applies_S01 tested.role) is_unasked refl (binds-S01 tested.role tested.releases tested.further) f at e past here (is_some (taken_by tested.role e.note) && any_used s f) old new under
    (λ t. taken-needs tested.role e.note (both_true (is_some (taken_by tested.role e.note)) (any_used s f) (both_true (accepts f) (is_some (taken_by tested.role e.note) && any_used s f) t).1).0)
    (where-sent f e.note (is_some (taken_by tested.role e.note) && any_used s f) (is_some (taken_by tested.role e.note) && is_any_busy_at tested.role f (newest e past))
    (λ h. let none = taken-none tested.role e.note h in ap (λ o. is_some o && any_used s f) none ∙ sym (ap (λ o. is_some o && is_any_busy_at tested.role f (newest e past)) none))
    (λ item accepted. ap (λ b. is_some (taken_by tested.role e.note) && b) (used-is tested s f e past under.follows.placed.1 under.follows.on_connections.0 item accepted u)))
    was (is ∙ ap (λ r. excused (is_unasked f) (at == e.place.position) (accepts f && (is_some (taken_by r e.note) && any_used s f))) u.same_role) more

pub S02-places : (tested : Tested) (s : Inflight) (f : Fate) (at : ℕ) (e : Seen) (past : List Seen) (here : Bool) (old new : ℕ) → IsUnder tested f at e past → IsUsing s tested (fate_before tested f e past) past
    → old ≡ places_under tested (fate_before tested f e past) past S02 → here ≡ tries_resending s f (at == e.place.position) e.note
    → (old < e.place.position → new ≡ cond here 1 0 + old) → new ≡ places_under tested (Some f) (e ∷ past) S02
unfolding applies_S02
S02-places tested s f at e past here old new under u was is more =
    known-places tested S02 (applies_S02 tested.role) surprises refl (binds-S02 tested.role tested.releases tested.further) f at e past here (is_some (resend_of e.note) && not cut) old new under
    (λ t. resend-needs e.note (both_true (is_some (resend_of e.note)) (not cut) (both_true (accepts f) (is_some (resend_of e.note) && not cut) t).1).0)
    (where-sent f e.note (is_some (resend_of e.note) && not cut) (is_some (resend_of e.note) && not (was_cut_off tested.role f (newest e past)))
    (λ h. let none = resend-none e.note h in ap (λ o. is_some o && not cut) none ∙ sym (ap (λ o. is_some o && not (was_cut_off tested.role f (newest e past))) none))
    (λ item accepted. ap (λ b. is_some (resend_of e.note) && not b) (cut-is (item-closed e.note item) accepted)))
    was is more
  where
    cut : Bool
    cut = s.earlier.cut_on_void || s.earlier.cut

    cut-is : is_open e.note ≡ false → accepts f ≡ true → cut ≡ was_cut_off tested.role f (newest e past)
    cut-is closed accepted =
        let n = now s tested f e past closed u in
        ap (λ b. b || s.earlier.cut) (n.earlier_is.cut_on_void_is ∙ sym (on_void-read tested cuts_publish f at e past under closed accepted))
        ∙ ap (λ b. some (λ j. cuts_publish j && voided (fate tested.role (number j) past)) (moments past) || b) n.earlier_is.cut_is

pub S03-places : (tested : Tested) (f : Fate) (at : ℕ) (e : Seen) (past : List Seen) (here : Bool) (old new : ℕ) → IsUnder tested f at e past
    → old ≡ places_under tested (fate_before tested f e past) past S03 → here ≡ tries_repeating f e.note
    → (old < e.place.position → new ≡ cond here 1 0 + old) → new ≡ places_under tested (Some f) (e ∷ past) S03
unfolding applies_S03
S03-places tested f at e past here old new under was is more =
    counted-session tested S03 (λ f. applies_S03) refl f at e past here old new under was (is ∙ ap (λ b. b && (accepts f && is_some (resend_of e.note))) (sym (binds-S03 tested.role tested.releases tested.further))) more

pub S04-places : (tested : Tested) (s : Inflight) (f : Fate) (at : ℕ) (e : Seen) (past : List Seen) (here : Bool) (old new : ℕ) → IsUnder tested f at e past → IsUsing s tested (fate_before tested f e past) past
    → old ≡ places_under tested (fate_before tested f e past) past S04 → here ≡ tries_released s f e.note
    → (old < e.place.position → new ≡ cond here 1 0 + old) → new ≡ places_under tested (Some f) (e ∷ past) S04
unfolding applies_S04
S04-places tested s f at e past here old new under u was is more =
    counted-session tested S04 (applies_S04 tested.role) refl f at e past here old new under was
    (is
    ∙ where-sent f e.note (is_some_and (past_pubrel (value_under s.entries)) again) (is_some_and past_it again)
    (λ h. let none = ap (λ o. option_or o (sent_as pubrel_in e.note)) (resend-none e.note h) ∙ sent-none pubrel_in e.note h in ap (is_some_and (past_pubrel (value_under s.entries))) none ∙ sym (ap (is_some_and past_it) none))
    (λ item accepted. same_some (past_pubrel (value_under s.entries)) past_it again (λ i.
    ap (is_some_and (λ (o : Entry). o.exactly_once && o.released)) ((now s tested f e past (item-closed e.note item) u).entries_are i) ∙ past_pubrel-is tested.role i (session tested.role (Some f) past) (session-descend tested.role (Some f) past)))
    ∙ ap (λ b. b && (accepts f && is_some_and past_it again)) (sym (binds-S04 tested.role tested.releases tested.further))) more
  where
    again : Option ℕ
    again = option_or (resend_of e.note) (sent_as pubrel_in e.note)

    past_it : ℕ → Bool
    past_it i = is_open_at tested.role f i (newest e past) && (is_some_and (opens_exactly_once i) (latest_opener tested.role f i (newest e past)) && since (sends_pubrel i) (opens_id i) (session tested.role (Some f) past))

pub S05-places : (tested : Tested) (s : Inflight) (f : Fate) (at : ℕ) (e : Seen) (past : List Seen) (here : Bool) (old new : ℕ) → IsUnder tested f at e past → IsUsing s tested (fate_before tested f e past) past
    → old ≡ places_under tested (fate_before tested f e past) past S05 → here ≡ tries_ordering s f e.note
    → (old < e.place.position → new ≡ cond here 1 0 + old) → new ≡ places_under tested (Some f) (e ∷ past) S05
unfolding applies_S05
S05-places tested s f at e past here old new under u was is more =
    counted-session tested S05 (applies_S05 tested.role) refl f at e past here old new under was
    (is
    ∙ ap (λ b. b && (accepts f && kept)) u.is_ordered
    ∙ ap (λ b. binds S05 tested && b) (where-sent f e.note kept (is_some_and opened (resend_of e.note) && before)
    (λ h. let none = resend-none e.note h in ap (λ o. is_some_and (λ i. is_some (value_under s.entries i)) o && nat_lt 0 s.resent) none ∙ sym (ap (λ o. is_some_and opened o && before) none))
    (λ item accepted.
    let n = now s tested f e past (item-closed e.note item) u in
    ap (λ b. b && nat_lt 0 s.resent) (same_some (λ i. is_some (value_under s.entries i)) opened (resend_of e.note) (λ i. ap is_some (n.entries_are i) ∙ entry-there tested.role i (session tested.role (Some f) past)))
    ∙ ap (λ b. is_some_and opened (resend_of e.note) && b) (ap (nat_lt 0) n.resent_is ∙ resent-some tested.role f past under.follows.placed.1)))) more
  where
    kept : Bool
    kept = is_some_and (λ i. is_some (value_under s.entries i)) (resend_of e.note) && nat_lt 0 s.resent

    opened : ℕ → Bool
    opened i = is_open_at tested.role f i (newest e past)

    before : Bool
    before = some (λ j. is_some_and (λ o. is_open_at tested.role f o j) (resend_of (note j))) (connection past)

-- what is counted of the five is what is asked of one of them
pub at-once-picked : (p : AtOncePlaces) (tested : Tested) (taken : Option Fate) (past : List Seen) (rule : Rule) → CountsAtOnce p tested taken past → is_at_once rule ≡ true
    → cond (same_rule rule S01) p.taking (cond (same_rule rule S02) p.resending (cond (same_rule rule S03) p.repeating (cond (same_rule rule S04) p.released p.ordering))) ≡ places_under tested taken past rule
at-once-picked p tested taken past rule n judged = go (same_rule rule S01) refl (same_rule rule S02) refl (same_rule rule S03) refl (same_rule rule S04) refl (same_rule rule S05) refl judged
  where
    go : (a : Bool) → same_rule rule S01 ≡ a → (b : Bool) → same_rule rule S02 ≡ b → (c : Bool) → same_rule rule S03 ≡ c → (d : Bool) → same_rule rule S04 ≡ d → (e : Bool) → same_rule rule S05 ≡ e → (a || (b || (c || (d || e)))) ≡ true
        → cond a p.taking (cond b p.resending (cond c p.repeating (cond d p.released p.ordering))) ≡ places_under tested taken past rule
    go true one b two c three d four e five h = places-same tested taken past S01 rule p.taking n.taking one
    go false one true two c three d four e five h = places-same tested taken past S02 rule p.resending n.resending two
    go false one false two true three d four e five h = places-same tested taken past S03 rule p.repeating n.repeating three
    go false one false two false three true four e five h = places-same tested taken past S04 rule p.released n.released four
    go false one false two false three false four true five h = places-same tested taken past S05 rule p.ordering n.ordering five
    go false one false two false three false four false five h = absurd (cc)
