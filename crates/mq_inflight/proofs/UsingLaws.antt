-- S01 to S05.
use Rattle.std.proofs.Common.{◌≡◌, ℕ, ◌<◌, ◌≤◌, ◌==◌, nat_eq, nat_lt, arith, Bool, true, false, cond, ◌&&◌, ◌||◌, not, List, [], ◌∷◌, Option, Some, None, refl, ap, sym, subst, ◌∙◌, ◌⊎◌, inl, inr}
use Rattle.std.specs.Prelude.{is_some}
use Rattle.std.specs.Option.{option_or}
use Rattle.std.proofs.lemmas.Bool.{ltb-true, ltb-false, lt-ltb}
use Rattle.mq_rules.specs.KeptOrder.{value_under}
use Rattle.indexmap.specs.IndexSet.{contains}
use Rattle.mq_rules.specs.declared.role.Role.{Role}
use Rattle.mq_rules.specs.declared.role.Role.TheVariants.{Client, Server}
use Rattle.mq_rules.specs.declared.role.Further.{Further}
use Rattle.mq_rules.specs.declared.role.Tested.{Tested}
use Rattle.mq_rules.specs.declared.fate.Fate.{Fate}
use Rattle.mq_rules.specs.declared.rule.Rule.{Rule}
use Rattle.mq_rules.specs.declared.rule.Rule.TheVariants.{S01, S02, S03, S04, S05}
use Rattle.mq_rules.specs.declared.packet_note.PacketFields.{PacketFields}
use Rattle.mq_rules.specs.declared.note.Note.{Note}
use Rattle.mq_rules.specs.declared.note.Note.TheVariants as notes
use Rattle.mq_rules.specs.declared.note.Seen.{Seen}
use Rattle.mq_rules.specs.Words.{is_some_and, is_id}
use Rattle.mq_rules.specs.Notes.{is_open, is_close, is_boundary, delivery_of, closer_of, resend_of, sent_as, received_as, pubrel_in, subscribe_in, suback_in, unsubscribe_in, unsuback_in}
use Rattle.mq_rules.specs.Moments.{Moment, newest, note, position, some, since, latest, is_next, IsPlaced, IsDescending}
use Rattle.mq_rules.specs.Connections.{is_connected, connection, needs_connection, IsOnConnection, latest_fate, accepts, session, is_unasked, surprises, couldnt_know, couldnt_know_resumed, resumes}
use Rattle.mq_rules.specs.Identifiers.{opens_id, closes_id, delivers, is_open_at, latest_opener, awaits_suback, is_busy_at, taken_by, was_sent_on_void, was_sent_before_session, was_cut_off, opens_exactly_once, sends_pubrel, comes_after, breaks_S01, breaks_S02, breaks_S03, breaks_S04, breaks_S05, sent_under, confirms_id, is_passed_over, may_be_discarded}
use Rattle.mq_rules.specs.Rules.{binds, found_line, line_of, lines}
use Rattle.mq_rules.specs.Statements.{in_session, statement, knowing, knowing_resumed}
use Rattle.mq_rules.specs.FaultKeys.{FaultMap}
use Rattle.mq_rules.proofs.Exports.{among-moment, and_false, both_true, has_item, moment-placed, not_true, on_open-connected, on_open-fold, or_false, or_left, or_parts, or_right, resend-needs, same_test, session-descend, session-members, some-next, taken-needs}
use Rattle.mq_inflight.specs.declared.inflight.Inflight.{Inflight}
use Rattle.mq_inflight.specs.declared.inflight.broken.Broken.{Broken}
use Rattle.mq_inflight.specs.declared.inflight.entry.Entry.{Entry}
use Rattle.mq_rules.specs.Under.{IsUnder, fate_before, turns_with}
use Rattle.mq_rules.specs.Growing.{Gains}
use Rattle.mq_inflight.specs.Opened.{sends_exactly_once, entry_in}
use Rattle.mq_rules.specs.Passing.{opened_at, passed_before}
use Rattle.mq_inflight.specs.Resending.{peer_bounds, passed_since, bounded_at, is_passed}
use Rattle.mq_inflight.specs.Using.{is_taken, delivering, waits, waits_next, unanswered_next, place_or_zero, resent_by, greater, resent_next, resent_in, unopened, past_pubrel, out_of_order, breaks, judged_all, is_at_once, IsUsing, all_excused}
use Rattle.mq_fates.proofs.Exports.{session-turns_with, and-apart, excused-known}
use Rattle.mq_inflight.proofs.OpenedLaws.{entry-there, entry-is, IsEntry}
use Rattle.mq_inflight.proofs.PassingLaws.{over-is}
use Rattle.mq_inflight.proofs.StrayLaws.{boundary-opens}
use Rattle.mq_inflight.specs.Earlier.{may_resend}
use Rattle.mq_inflight.proofs.EarlierLaws.{may_resend-is}
use Rattle.mq_inflight.proofs.VoidLaws.{void_sent-read}
use Rattle.mq_inflight.proofs.BrokenLaws.{all-gains}
use Rattle.mq_fates.specs.Knowing.{excused}

-- ---- whom the statements bind

pub binds-S01 : (role : Role) (releases : Bool) (further : Further) → binds S01 (record { role = role; releases = releases; further = further }) ≡ true
unfolding line_of found_line lines
binds-S01 Client releases further = refl
binds-S01 Server releases further = refl

pub binds-S02 : (role : Role) (releases : Bool) (further : Further) → binds S02 (record { role = role; releases = releases; further = further }) ≡ true
unfolding line_of found_line lines
binds-S02 Client releases further = refl
binds-S02 Server releases further = refl

pub binds-S03 : (role : Role) (releases : Bool) (further : Further) → binds S03 (record { role = role; releases = releases; further = further }) ≡ true
unfolding line_of found_line lines
binds-S03 Client releases further = refl
binds-S03 Server releases further = refl

pub binds-S04 : (role : Role) (releases : Bool) (further : Further) → binds S04 (record { role = role; releases = releases; further = further }) ≡ true
unfolding line_of found_line lines
binds-S04 Client releases further = refl
binds-S04 Server releases further = refl

-- ---- what is neither sent nor received is no packet

pub taken-none : (role : Role) (n : Note) → has_item n ≡ false → taken_by role n ≡ None
taken-none Client notes.Open h = refl
taken-none Server notes.Open h = refl
taken-none Client (notes.Close cuts part) h = refl
taken-none Server (notes.Close cuts part) h = refl
taken-none Client notes.Rest h = refl
taken-none Server notes.Rest h = refl
taken-none Client (notes.Release identifier) h = refl
taken-none Server (notes.Release identifier) h = refl
taken-none role (notes.Sent item) h = absurd (cc)
taken-none role (notes.Recv item) h = absurd (cc)

pub resend-none : (n : Note) → has_item n ≡ false → resend_of n ≡ None
resend-none notes.Open h = refl
resend-none (notes.Close cuts part) h = refl
resend-none notes.Rest h = refl
resend-none (notes.Release identifier) h = refl
resend-none (notes.Sent item) h = absurd (cc)
resend-none (notes.Recv item) h = absurd (cc)

pub sent-none : (found : PacketFields → Option ℕ) (n : Note) → has_item n ≡ false → sent_as found n ≡ None
sent-none found notes.Open h = refl
sent-none found (notes.Close cuts part) h = refl
sent-none found notes.Rest h = refl
sent-none found (notes.Release identifier) h = refl
sent-none found (notes.Sent item) h = absurd (cc)
sent-none found (notes.Recv item) h = absurd (cc)

delivery-none : (n : Note) → has_item n ≡ false → delivery_of n ≡ None
delivery-none notes.Open h = refl
delivery-none (notes.Close cuts part) h = refl
delivery-none notes.Rest h = refl
delivery-none (notes.Release identifier) h = refl
delivery-none (notes.Sent item) h = absurd (cc)
delivery-none (notes.Recv item) h = absurd (cc)

open-itemless : (n : Note) → is_open n ≡ true → has_item n ≡ false
open-itemless notes.Open h = refl
open-itemless _ h = absurd (cc)

pub item-closed : (n : Note) → has_item n ≡ true → is_open n ≡ false
item-closed (notes.Sent item) h = refl
item-closed (notes.Recv item) h = refl
item-closed _ h = absurd (cc)

item-needs : (n : Note) → has_item n ≡ true → needs_connection n ≡ true
item-needs (notes.Sent item) h = refl
item-needs (notes.Recv item) h = refl
item-needs _ h = absurd (cc)

-- where a connection is open, what waits on it is what waits on the latest one
waits-connected : (starts ends : Note → Option ℕ) (i : ℕ) (past : List Seen) → is_connected past ≡ true → waits starts ends i past ≡ since (λ m. is_id i (starts (note m))) (λ m. is_id i (ends (note m))) (connection past)
waits-connected starts ends i past h = ap (since (λ m. is_id i (starts (note m))) (λ m. is_id i (ends (note m)))) (on_open-connected past h)

-- at another event the state is one under the fate of its connection
pub now : (s : Inflight) (tested : Tested) (f : Fate) (e : Seen) (past : List Seen) → is_open e.note ≡ false → IsUsing s tested (fate_before tested f e past) past → IsUsing s tested (Some f) past
now s tested f e past closed u = subst (λ b. IsUsing s tested (cond b (latest_fate tested.role past) (Some f)) past) closed u

pub same_some : (p q : ℕ → Bool) (o : Option ℕ) → ((i : ℕ) → p i ≡ q i) → is_some_and p o ≡ is_some_and q o
same_some p q None h = refl
same_some p q (Some i) h = h i

-- ---- the order

zero-after : (p : ℕ) → nat_lt p 0 ≡ false
zero-after p = not_true (nat_lt p 0) (λ t. let lt : p < 0 = ltb-true p 0 t in absurd (omega arith))

-- a number is before the greater one exactly if it is before either
greater-after : (p a b : ℕ) → nat_lt p (greater a b) ≡ (nat_lt p a || nat_lt p b)
greater-after p a b = go (nat_lt b a) refl
  where
    go : (t : Bool) → nat_lt b a ≡ t → nat_lt p (cond t a b) ≡ (nat_lt p a || nat_lt p b)
    go true t = same_test (nat_lt p a) (nat_lt p a || nat_lt p b) (or_left (nat_lt p a) (nat_lt p b)) (λ h. of (or_parts (nat_lt p a) (nat_lt p b) h))
      where
        of : (nat_lt p a ≡ true) ⊎ (nat_lt p b ≡ true) → nat_lt p a ≡ true
        of (inl h) = h
        of (inr h) = let x : p < b = ltb-true p b h in let y : b < a = ltb-true b a t in lt-ltb p a (omega arith)
    go false t = same_test (nat_lt p b) (nat_lt p a || nat_lt p b) (or_right (nat_lt p a) (nat_lt p b)) (λ h. of (or_parts (nat_lt p a) (nat_lt p b) h))
      where
        of : (nat_lt p a ≡ true) ⊎ (nat_lt p b ≡ true) → nat_lt p b ≡ true
        of (inr h) = h
        of (inl h) = let x : p < a = ltb-true p a h in let y : a ≤ b = ltb-false b a t in lt-ltb p b (omega arith)

-- some PUBLISH that was open was sent again on the connection, with an opener after this position
abbrev pub resent_past : Role → Fate → ℕ → Moment → Bool
resent_past role f p j = is_some_and (λ o. is_open_at role f o j && is_some_and (λ m. nat_lt p (position m)) (latest_opener role f o j)) (resend_of (note j))

pub opener-at : (role : Role) (f : Fate) (i : ℕ) (past : List Seen) (o : Entry) → IsPlaced past → (r : IsEntry i (session role (Some f) past) o) → o.place.position ≡ position r.opener
opener-at role f i past o placed r =
    ap (λ p. p.position) r.same_place ∙ moment-placed past (position r.opener) r.opener placed (among-moment r.opener past (session-members role (Some f) past r.opener r.there).0)

pub resent-later : (role : Role) (f : Fate) (p : ℕ) (past : List Seen) → IsPlaced past → nat_lt p (resent_in role (Some f) past) ≡ some (resent_past role f p) (connection past)
resent-later role f p [] placed = zero-after p
resent-later role f p (e ∷ past) placed = go (is_open e.note) refl (resent-later role f p past placed.1) ∙ sym (some-next (resent_past role f p) e past)
  where
    entry : ℕ → Option Entry
    entry i = entry_in role i (session role (Some f) past)

    one : (i : ℕ) (x : Option Entry) → entry i ≡ x → nat_lt p (place_or_zero x) ≡ (is_open_at role f i (newest e past) && is_some_and (λ m. nat_lt p (position m)) (latest_opener role f i (newest e past)))
    one i None h =
        zero-after p ∙ sym (ap (λ b. b && is_some_and (λ m. nat_lt p (position m)) (latest_opener role f i (newest e past))) (sym (entry-there role i (session role (Some f) past)) ∙ ap is_some h))
    one i (Some o) h =
        let r = entry-is role i (session role (Some f) past) o (session-descend role (Some f) past) h in
        ap (nat_lt p) (opener-at role f i past o placed.1 r)
        ∙ sym (ap (λ b. b && is_some_and (λ m. nat_lt p (position m)) (latest_opener role f i (newest e past))) (sym (entry-there role i (session role (Some f) past)) ∙ ap is_some h)
        ∙ ap (is_some_and (λ m. nat_lt p (position m))) r.is_latest)

    here : (o : Option ℕ) → nat_lt p (resent_by o entry) ≡ is_some_and (λ o. is_open_at role f o (newest e past) && is_some_and (λ m. nat_lt p (position m)) (latest_opener role f o (newest e past))) o
    here None = zero-after p
    here (Some i) = one i (entry i) refl

    go : (b : Bool) → is_open e.note ≡ b → nat_lt p (resent_in role (Some f) past) ≡ some (resent_past role f p) (connection past)
        → nat_lt p (cond b 0 (greater (resent_by (resend_of e.note) entry) (resent_in role (Some f) past))) ≡ (resent_past role f p (newest e past) || (not b && some (resent_past role f p) (connection past)))
    go true h rest =
        zero-after p ∙ sym (or_false (resent_past role f p (newest e past)) ∙ ap (is_some_and (λ o. is_open_at role f o (newest e past) && is_some_and (λ m. nat_lt p (position m)) (latest_opener role f o (newest e past)))) (resend-none e.note (open-itemless e.note h)))
    go false h rest =
        greater-after p (resent_by (resend_of e.note) entry) (resent_in role (Some f) past)
        ∙ ap (λ b. b || nat_lt p (resent_in role (Some f) past)) (here (resend_of e.note)) ∙ ap (λ b. resent_past role f p (newest e past) || b) rest

-- ---- what the statements read

pub past_pubrel-is : (role : Role) (i : ℕ) (ms : List Moment) → IsDescending ms → is_some_and (λ o. o.exactly_once && o.released) (entry_in role i ms)
    ≡ (since (opens_id i) (closes_id i) ms && (is_some_and (opens_exactly_once i) (latest (opens_id i) ms) && since (sends_pubrel i) (opens_id i) ms))
past_pubrel-is role i ms d = go (entry_in role i ms) refl
  where
    rest : Bool
    rest = is_some_and (opens_exactly_once i) (latest (opens_id i) ms) && since (sends_pubrel i) (opens_id i) ms

    go : (x : Option Entry) → entry_in role i ms ≡ x → is_some_and (λ (o : Entry). o.exactly_once && o.released) x ≡ (since (opens_id i) (closes_id i) ms && rest)
    go None h = sym (ap (λ b. b && rest) (sym (entry-there role i ms) ∙ ap is_some h))
    go (Some o) h =
        let r = entry-is role i ms o d h in
        ap (λ b. b && o.released) r.same_quality ∙ ap (λ b. sends_exactly_once (note r.opener) && b) r.is_released
        ∙ sym (ap (λ b. b && rest) (sym (entry-there role i ms) ∙ ap is_some h)
        ∙ ap (λ l. is_some_and (opens_exactly_once i) l && since (sends_pubrel i) (opens_id i) ms) r.is_latest
        ∙ ap (λ b. (b && sends_exactly_once (note r.opener)) && since (sends_pubrel i) (opens_id i) ms) r.begins_it)

out_of_order-is : (role : Role) (f : Fate) (i : ℕ) (e : Seen) (past : List Seen) → IsPlaced past
    → is_some_and (λ o. nat_lt o.place.position (resent_in role (Some f) past)) (entry_in role i (session role (Some f) past))
    ≡ (is_open_at role f i (newest e past) && some (λ j. is_some_and (λ o. is_open_at role f o j && comes_after (latest_opener role f o j) (latest_opener role f i (newest e past))) (resend_of (note j))) (connection past))
out_of_order-is role f i e past placed = go (entry_in role i ms) refl
  where
    ms : List Moment
    ms = session role (Some f) past

    after : Option Moment → Bool
    after l = some (λ j. is_some_and (λ o. is_open_at role f o j && comes_after (latest_opener role f o j) l) (resend_of (note j))) (connection past)

    go : (x : Option Entry) → entry_in role i ms ≡ x → is_some_and (λ (o : Entry). nat_lt o.place.position (resent_in role (Some f) past)) x ≡ (is_open_at role f i (newest e past) && after (latest_opener role f i (newest e past)))
    go None h = sym (ap (λ b. b && after (latest_opener role f i (newest e past))) (sym (entry-there role i ms) ∙ ap is_some h))
    go (Some o) h =
        let r = entry-is role i ms o (session-descend role (Some f) past) h in
        ap (λ p. nat_lt p (resent_in role (Some f) past)) (opener-at role f i past o placed r)
        ∙ resent-later role f (position r.opener) past placed
        ∙ sym (ap (λ b. b && after (latest_opener role f i (newest e past))) (sym (entry-there role i ms) ∙ ap is_some h) ∙ ap after r.is_latest)

-- ---- the pairs

-- what is open is in use, unless it may have been discarded
taken-is : (tested : Tested) (s : Inflight) (f : Fate) (e : Seen) (past : List Seen) → IsPlaced past → accepts f ≡ true → IsUsing s tested (Some f) past → (i : ℕ)
    → is_some_and (is_taken (passed_since f s.bounds s.opened s.bounded)) (value_under s.entries i) ≡ (is_open_at tested.role f i (newest e past) && not (may_be_discarded tested.role f i (newest e past)))
taken-is tested s f e past placed a u i =
    ap (λ b. is_some_and (is_taken (passed_since f b s.opened s.bounded)) (value_under s.entries i)) u.bounds_are
    ∙ ap (λ n. is_some_and (is_taken (passed_since f (peer_bounds role past) n s.bounded)) (value_under s.entries i)) u.opened_is
    ∙ ap (λ n. is_some_and (is_taken (passed_since f (peer_bounds role past) (opened_at past) n)) (value_under s.entries i)) u.bounded_is
    ∙ go (value_under s.entries i) refl
  where
    role : Role
    role = tested.role

    ms : List Moment
    ms = session role (Some f) past

    since_then : ℕ
    since_then = passed_since f (peer_bounds role past) (opened_at past) (bounded_at role past)

    over : Option Moment → Bool
    over o = is_some_and (is_passed_over role (Some f) i past) o

    late : Bool
    late = since (confirms_id i) (opens_id i) ms

    bits : (c p : Bool) → (c || not p) ≡ (true && not (p && not c))
    bits true true = refl
    bits true false = refl
    bits false true = refl
    bits false false = refl

    go : (x : Option Entry) → value_under s.entries i ≡ x → is_some_and (is_taken since_then) x ≡ (since (opens_id i) (closes_id i) ms && not (over (latest (opens_id i) ms) && not late))
    go None h =
        let none : entry_in role i ms ≡ None = sym (u.entries_are i) ∙ h in
        sym (ap (λ b. b && not (over (latest (opens_id i) ms) && not late)) (sym (entry-there role i ms) ∙ ap is_some none))
    go (Some o) h =
        let kept : entry_in role i ms ≡ Some o = sym (u.entries_are i) ∙ h in
        let r = entry-is role i ms o (session-descend role (Some f) past) kept in
        let was : is_passed (bounded_at role past) o ≡ passed_before role i o.place.position past = ap (λ n. is_passed n o) (sym u.bounded_is) ∙ u.passed_are i o h in
        bits o.confirmed (is_passed since_then o)
        ∙ ap (λ c. true && not (is_passed since_then o && not c)) r.since_confirmed
        ∙ ap (λ p. true && not (p && not late)) (sym (over-is role f a i past placed o r was))
        ∙ ap (λ l. true && not (over l && not late)) (sym r.is_latest)
        ∙ ap (λ b. b && not (over (latest (opens_id i) ms) && not late)) (sym (sym (entry-there role i ms) ∙ ap is_some kept))

-- an identifier is in use by what is kept exactly if it is busy
pub busy-is : (tested : Tested) (s : Inflight) (f : Fate) (e : Seen) (past : List Seen) → IsPlaced past → IsOnConnection e past → has_item e.note ≡ true → accepts f ≡ true → IsUsing s tested (fate_before tested f e past) past → (i : ℕ)
    → (is_some_and (is_taken (passed_since f s.bounds s.opened s.bounded)) (value_under s.entries i) || (contains nat_eq s.subscribing i || contains nat_eq s.unsubscribing i)) ≡ is_busy_at tested.role f i (newest e past)
busy-is tested s f e past placed on item a u i =
    ap (λ b. b || (contains nat_eq s.subscribing i || contains nat_eq s.unsubscribing i)) (taken-is tested s f e past placed a (now s tested f e past (item-closed e.note item) u) i)
    ∙ ap (λ b. (is_open_at tested.role f i (newest e past) && not (may_be_discarded tested.role f i (newest e past))) || (b || contains nat_eq s.unsubscribing i)) (u.subscribing_are i ∙ waits-connected (sent_as subscribe_in) (received_as suback_in) i past (on (item-needs e.note item)))
    ∙ ap (λ b. (is_open_at tested.role f i (newest e past) && not (may_be_discarded tested.role f i (newest e past))) || (awaits_suback i (newest e past) || b)) (u.unsubscribing_are i ∙ waits-connected (sent_as unsubscribe_in) (received_as unsuback_in) i past (on (item-needs e.note item)))

S01-turns : (tested : Tested) (s : Inflight) (f : Fate) (at : ℕ) (e : Seen) (past : List Seen) → IsUnder tested f at e past → IsOnConnection e past → IsUsing s tested (fate_before tested f e past) past
    → (k : ℕ) → turns_with tested f e past k S01 ≡ (is_next past k && excused (is_unasked f) (at == e.place.position) (breaks s f e.note).takes_busy)
unfolding breaks_S01
S01-turns tested s f at e past under on u k =
    session-turns_with tested S01 (knowing_resumed tested.role (breaks_S01 tested.role)) refl f e past k
    ∙ ap (λ b. is_next past k && (b && (accepts f && (breaks_S01 tested.role f (newest e past) && not (couldnt_know_resumed tested.role f (newest e past)))))) (binds-S01 tested.role tested.releases tested.further)
    ∙ ap (λ b. is_next past k && b) (and-apart (accepts f) (breaks_S01 tested.role f (newest e past)) (not (couldnt_know_resumed tested.role f (newest e past))))
    ∙ ap (λ b. is_next past k && (b && not (couldnt_know_resumed tested.role f (newest e past)))) (sym (go (accepts f) refl (has_item e.note) refl))
    ∙ ap (λ r. is_next past k && ((accepts f && is_some_and busy (taken_by r e.note)) && not (couldnt_know_resumed tested.role f (newest e past)))) (sym u.same_role)
    ∙ ap (λ b. is_next past k && b) (excused-known tested f at e past (is_unasked f) (accepts f && is_some_and busy (taken_by s.role e.note)) under
    (λ t. taken-needs s.role e.note (there_in busy (taken_by s.role e.note) (both_true (accepts f) (is_some_and busy (taken_by s.role e.note)) t).1)))
  where
    there_in : (p : ℕ → Bool) (o : Option ℕ) → is_some_and p o ≡ true → is_some o ≡ true
    there_in p None h = absurd (cc)
    there_in p (Some i) h = refl

    busy : ℕ → Bool
    busy i = is_some_and (is_taken (passed_since f s.bounds s.opened s.bounded)) (value_under s.entries i) || (contains nat_eq s.subscribing i || contains nat_eq s.unsubscribing i)

    go : (a : Bool) → accepts f ≡ a → (b : Bool) → has_item e.note ≡ b → (a && is_some_and busy (taken_by tested.role e.note)) ≡ (a && is_some_and (λ i. is_busy_at tested.role f i (newest e past)) (taken_by tested.role e.note))
    go false a b h = refl
    go true a false h =
        let none = taken-none tested.role e.note h in
        ap (is_some_and busy) none ∙ sym (ap (is_some_and (λ i. is_busy_at tested.role f i (newest e past))) none)
    go true a true h = same_some busy (λ i. is_busy_at tested.role f i (newest e past)) (taken_by tested.role e.note) (busy-is tested s f e past under.follows.placed.1 on h a u)

-- a statement on a PUBLISH that is sent again
resend-turns : (tested : Tested) (rule : Rule) (breaks : Fate → Moment → Bool) → statement tested.role rule ≡ in_session breaks → (bound : Bool) → binds rule tested ≡ bound → (f : Fate) (e : Seen) (past : List Seen) (p q : ℕ → Bool)
    → breaks f (newest e past) ≡ is_some_and p (resend_of e.note) → (has_item e.note ≡ true → accepts f ≡ true → (i : ℕ) → q i ≡ p i)
    → (k : ℕ) → turns_with tested f e past k rule ≡ (is_next past k && (bound && (accepts f && is_some_and q (resend_of e.note))))
resend-turns tested rule breaks says bound b f e past p q is same k =
    session-turns_with tested rule breaks says f e past k
    ∙ ap (λ t. is_next past k && (t && (accepts f && breaks f (newest e past)))) b
    ∙ ap (λ t. is_next past k && (bound && (accepts f && t))) is
    ∙ ap (λ t. is_next past k && (bound && t)) (go (accepts f) refl (has_item e.note) refl)
  where
    go : (a : Bool) → accepts f ≡ a → (c : Bool) → has_item e.note ≡ c → (a && is_some_and p (resend_of e.note)) ≡ (a && is_some_and q (resend_of e.note))
    go false t c h = refl
    go true t false h = ap (is_some_and p) (resend-none e.note h) ∙ sym (ap (is_some_and q) (resend-none e.note h))
    go true t true h = sym (same_some q p (resend_of e.note) (same h t))

-- a statement on a PUBLISH that is sent again, which an end may not know of yet
known-resend-turns : (tested : Tested) (rule : Rule) (breaks : Fate → Moment → Bool) → statement tested.role rule ≡ in_session (knowing tested.role breaks) → binds rule tested ≡ true → (f : Fate) (at : ℕ) (e : Seen) (past : List Seen) (p q : ℕ → Bool)
    → IsUnder tested f at e past → breaks f (newest e past) ≡ is_some_and p (resend_of e.note) → (has_item e.note ≡ true → accepts f ≡ true → (i : ℕ) → q i ≡ p i)
    → (k : ℕ) → turns_with tested f e past k rule ≡ (is_next past k && excused (surprises f) (at == e.place.position) (accepts f && is_some_and q (resend_of e.note)))
known-resend-turns tested rule breaks says b f at e past p q under is same k =
    session-turns_with tested rule (knowing tested.role breaks) says f e past k
    ∙ ap (λ t. is_next past k && (t && (accepts f && (breaks f (newest e past) && not (couldnt_know tested.role f (newest e past)))))) b
    ∙ ap (λ t. is_next past k && (accepts f && (t && not (couldnt_know tested.role f (newest e past))))) is
    ∙ ap (λ t. is_next past k && t) (and-apart (accepts f) (is_some_and p (resend_of e.note)) (not (couldnt_know tested.role f (newest e past))))
    ∙ ap (λ t. is_next past k && (t && not (couldnt_know tested.role f (newest e past)))) (go (accepts f) refl (has_item e.note) refl)
    ∙ ap (λ t. is_next past k && t) (excused-known tested f at e past (surprises f) (accepts f && is_some_and q (resend_of e.note)) under
    (λ t. resend-needs e.note (there_in q (resend_of e.note) (both_true (accepts f) (is_some_and q (resend_of e.note)) t).1)))
  where
    there_in : (r : ℕ → Bool) (o : Option ℕ) → is_some_and r o ≡ true → is_some o ≡ true
    there_in r None h = absurd (cc)
    there_in r (Some i) h = refl

    go : (a : Bool) → accepts f ≡ a → (c : Bool) → has_item e.note ≡ c → (a && is_some_and p (resend_of e.note)) ≡ (a && is_some_and q (resend_of e.note))
    go false t c h = refl
    go true t false h = ap (is_some_and p) (resend-none e.note h) ∙ sym (ap (is_some_and q) (resend-none e.note h))
    go true t true h = sym (same_some q p (resend_of e.note) (same h t))

S02-turns : (tested : Tested) (s : Inflight) (f : Fate) (at : ℕ) (e : Seen) (past : List Seen) → IsUnder tested f at e past → IsUsing s tested (fate_before tested f e past) past
    → (k : ℕ) → turns_with tested f e past k S02 ≡ (is_next past k && excused (surprises f) (at == e.place.position) (breaks s f e.note).unopened)
unfolding breaks_S02
S02-turns tested s f at e past under u =
    known-resend-turns tested S02 (breaks_S02 tested.role) refl (binds-S02 tested.role tested.releases tested.further) f at e past (λ i. not (is_open_at tested.role f i (newest e past) || (was_sent_on_void tested.role i (newest e past) || (was_sent_before_session tested.role f i (newest e past) || was_cut_off tested.role f (newest e past)))))
    (unopened (value_under s.entries) (contains nat_eq s.void) (may_resend s.earlier f)) under refl
    (λ item accepted i.
    let n = now s tested f e past (item-closed e.note item) u in
    ap (λ x. not (is_some x || (contains nat_eq s.void i || may_resend s.earlier f i))) (n.entries_are i)
    ∙ ap (λ b. not (b || (contains nat_eq s.void i || may_resend s.earlier f i))) (entry-there tested.role i (session tested.role (Some f) past))
    ∙ ap (λ b. not (is_open_at tested.role f i (newest e past) || (b || may_resend s.earlier f i))) (n.void_are i ∙ sym (void_sent-read tested i f at e past under (item-closed e.note item) accepted))
    ∙ ap (λ b. not (is_open_at tested.role f i (newest e past) || (was_sent_on_void tested.role i (newest e past) || b))) (may_resend-is tested s.earlier i f at e past under (item-closed e.note item) accepted n.earlier_is))

S03-turns : (tested : Tested) (s : Inflight) (f : Fate) (e : Seen) (past : List Seen) → IsOnConnection e past → IsUsing s tested (fate_before tested f e past) past → (k : ℕ) → turns_with tested f e past k S03 ≡ (is_next past k && (breaks s f e.note).twice)
unfolding breaks_S03
S03-turns tested s f e past on u =
    resend-turns tested S03 (λ f. breaks_S03) refl true (binds-S03 tested.role tested.releases tested.further) f e past (λ i. since (delivers i) (closes_id i) (connection past)) (delivering s) refl
    (λ item accepted i. let open_now = on (item-needs e.note item) in u.delivering_are open_now i ∙ waits-connected delivery_of closer_of i past open_now)

S04-turns : (tested : Tested) (s : Inflight) (f : Fate) (e : Seen) (past : List Seen) → IsUsing s tested (fate_before tested f e past) past → (k : ℕ) → turns_with tested f e past k S04 ≡ (is_next past k && (breaks s f e.note).past_pubrel)
unfolding breaks_S04
S04-turns tested s f e past u =
    resend-turns tested S04 (breaks_S04 tested.role) refl true (binds-S04 tested.role tested.releases tested.further) f e past
    (λ i. is_open_at tested.role f i (newest e past) && (is_some_and (opens_exactly_once i) (latest_opener tested.role f i (newest e past)) && since (sends_pubrel i) (opens_id i) (session tested.role (Some f) past)))
    (past_pubrel (value_under s.entries)) refl
    (λ item accepted i. ap (is_some_and (λ (o : Entry). o.exactly_once && o.released)) ((now s tested f e past (item-closed e.note item) u).entries_are i) ∙ past_pubrel-is tested.role i (session tested.role (Some f) past) (session-descend tested.role (Some f) past))

S05-turns : (tested : Tested) (s : Inflight) (f : Fate) (at : ℕ) (e : Seen) (past : List Seen) → IsUnder tested f at e past → IsUsing s tested (fate_before tested f e past) past → (k : ℕ) → turns_with tested f e past k S05 ≡ (is_next past k && (breaks s f e.note).out_of_order)
unfolding breaks_S05
S05-turns tested s f at e past under u =
    resend-turns tested S05 (breaks_S05 tested.role) refl s.ordered (sym u.is_ordered) f e past
    (λ i. is_open_at tested.role f i (newest e past) && some (λ j. is_some_and (λ o. is_open_at tested.role f o j && comes_after (latest_opener tested.role f o j) (latest_opener tested.role f i (newest e past))) (resend_of (note j))) (connection past))
    (out_of_order (value_under s.entries) s.resent) refl
    (λ item accepted i.
    let n = now s tested f e past (item-closed e.note item) u in
    ap (λ p. is_some_and (λ (o : Entry). nat_lt o.place.position p) (value_under s.entries i)) n.resent_is
    ∙ ap (is_some_and (λ (o : Entry). nat_lt o.place.position (resent_in tested.role (Some f) past))) (n.entries_are i)
    ∙ out_of_order-is tested.role f i e past under.follows.placed.1)

pub using-gains : (tested : Tested) (s : Inflight) (f : Fate) (at : ℕ) (e : Seen) (past : List Seen) (m : FaultMap) (b : Broken) → IsUnder tested f at e past → IsUsing s tested (fate_before tested f e past) past → b ≡ all_excused f (at == e.place.position) (breaks s f e.note)
    → Gains (λ k r. is_at_once r && turns_with tested f e past k r) tested (e ∷ past) at m (judged_all b e.place at m)
using-gains tested s f at e past m b under u is =
    subst (λ (b : Broken). Gains (λ k r. is_at_once r && turns_with tested f e past k r) tested (e ∷ past) at m (judged_all b e.place at m)) (sym is)
    (all-gains tested f e past at m (all_excused f (at == e.place.position) (breaks s f e.note)) under.follows.placed.0 (S01-turns tested s f at e past under under.follows.on_connections.0 u) (S02-turns tested s f at e past under u) (S03-turns tested s f e past under.follows.on_connections.0 u) (S04-turns tested s f e past u) (S05-turns tested s f at e past under u))

-- ---- the state, with one event more

waits-under : (starts ends : Note → Option ℕ) (i : ℕ) (e : Seen) (past : List Seen) → (has_item e.note ≡ false → starts e.note ≡ None) → IsOnConnection e past
    → waits starts ends i (e ∷ past) ≡ waits_next (starts e.note) (ends e.note) (is_boundary e.note) i (waits starts ends i past)
waits-under starts ends i e past itemless on = on_open-fold found more e past (λ ms. refl) idle on ∙ go (is_boundary e.note)
  where
    found : List Moment → Bool
    found ms = since (λ m. is_id i (starts (note m))) (λ m. is_id i (ends (note m))) ms

    more : Bool → Bool
    more b = is_id i (starts e.note) || (not (is_id i (ends e.note)) && b)

    idle : has_item e.note ≡ false → more false ≡ false
    idle h = ap (λ o. is_id i o || (not (is_id i (ends e.note)) && false)) (itemless h) ∙ and_false (not (is_id i (ends e.note)))

    go : (b : Bool) → more (cond b false (waits starts ends i past)) ≡ waits_next (starts e.note) (ends e.note) b i (waits starts ends i past)
    go true = refl
    go false = refl

-- what waits after an event is what is kept
pub waiting : (starts ends : Note → Option ℕ) (old new : ℕ → Bool) (e : Seen) (past : List Seen) → (has_item e.note ≡ false → starts e.note ≡ None) → IsOnConnection e past → ((i : ℕ) → old i ≡ waits starts ends i past)
    → ((i : ℕ) → new i ≡ waits_next (starts e.note) (ends e.note) (is_boundary e.note) i (old i)) → (i : ℕ) → new i ≡ waits starts ends i (e ∷ past)
waiting starts ends old new e past itemless on h is i = is i ∙ ap (waits_next (starts e.note) (ends e.note) (is_boundary e.note) i) (h i) ∙ sym (waits-under starts ends i e past itemless on)

-- what awaits its closer on a resumed connection
pub under-none : (n : Note) → has_item n ≡ false → sent_under n ≡ None
under-none n h = ap (λ o. option_or o (sent_as pubrel_in n)) (delivery-none n h) ∙ sent-none pubrel_in n h

boundary-itemless : (n : Note) → is_boundary n ≡ true → has_item n ≡ false
boundary-itemless notes.Open h = refl
boundary-itemless (notes.Close cuts part) h = refl
boundary-itemless _ h = absurd (cc)

inside-closed : (n : Note) → is_boundary n ≡ false → is_open n ≡ false
inside-closed notes.Open h = absurd (cc)
inside-closed _ h = refl

pub unanswered-under : (f g now : Fate) (i : ℕ) (e : Seen) (past : List Seen) (old : Bool) → IsOnConnection e past → now ≡ f → (is_open e.note ≡ false → g ≡ f) → old ≡ (resumes g && waits sent_under closer_of i past)
    → unanswered_next f e.note i old ≡ (resumes now && waits sent_under closer_of i (e ∷ past))
unanswered-under f g now i e past old on is same was =
    go (is_boundary n) refl ∙ sym (ap (λ h. resumes h && waits sent_under closer_of i (e ∷ past)) is ∙ ap (λ b. resumes f && b) (waits-under sent_under closer_of i e past (under-none n) on))
  where
    n : Note
    n = e.note

    w : Bool
    w = waits sent_under closer_of i past

    resumed : (b : Bool) → cond b (is_id i (sent_under n) || (not (is_id i (closer_of n)) && (b && w))) (b && w) ≡ (b && (is_id i (sent_under n) || (not (is_id i (closer_of n)) && w)))
    resumed true = refl
    resumed false = refl

    go : (b : Bool) → is_boundary n ≡ b → cond b false (cond (resumes f) (is_id i (sent_under n) || (not (is_id i (closer_of n)) && old)) old) ≡ (resumes f && waits_next (sent_under n) (closer_of n) b i w)
    go true h =
        sym (ap (λ o. resumes f && (is_id i o || (not (is_id i (closer_of n)) && false))) (under-none n (boundary-itemless n h))
        ∙ ap (λ b. resumes f && b) (and_false (not (is_id i (closer_of n)))) ∙ and_false (resumes f))
    go false h =
        let now_is : old ≡ (resumes f && w) = was ∙ ap (λ g. resumes g && w) (same (inside-closed n h)) in
        ap (λ o. cond (resumes f) (is_id i (sent_under n) || (not (is_id i (closer_of n)) && o)) o) now_is ∙ resumed (resumes f)

-- a connection is open after an event: it began with it, or it didn't end with it
goes-on : (n : Note) (connected : Bool) → (is_open n || (not (is_close n) && connected)) ≡ true → (is_close n ≡ false) × (is_open n ≡ false → connected ≡ true)
goes-on notes.Open connected h = (refl, λ closed. absurd (cc))
goes-on (notes.Close cuts part) connected h = absurd (cc)
goes-on notes.Rest connected h = (refl, λ closed. h)
goes-on (notes.Release identifier) connected h = (refl, λ closed. h)
goes-on (notes.Sent item) connected h = (refl, λ closed. h)
goes-on (notes.Recv item) connected h = (refl, λ closed. h)

-- what is in delivery where a connection is open
pub delivering-waits : (old new : ℕ → Bool) (e : Seen) (past : List Seen) → IsOnConnection e past → (is_connected past ≡ true → (i : ℕ) → old i ≡ waits delivery_of closer_of i past)
    → (is_close e.note ≡ false → (i : ℕ) → new i ≡ waits_next (delivery_of e.note) (closer_of e.note) (is_open e.note) i (old i)) → is_connected (e ∷ past) ≡ true → (i : ℕ) → new i ≡ waits delivery_of closer_of i (e ∷ past)
delivering-waits old new e past on was is connected i =
    let parts = goes-on e.note (is_connected past) connected in
    is parts.0 i
    ∙ go (is_open e.note) parts.1
    ∙ ap (λ b. waits_next (delivery_of e.note) (closer_of e.note) b i (waits delivery_of closer_of i past)) (sym (boundary-opens e.note parts.0))
    ∙ sym (waits-under delivery_of closer_of i e past (delivery-none e.note) on)
  where
    go : (b : Bool) → (b ≡ false → is_connected past ≡ true) → waits_next (delivery_of e.note) (closer_of e.note) b i (old i) ≡ waits_next (delivery_of e.note) (closer_of e.note) b i (waits delivery_of closer_of i past)
    go true h = refl
    go false h = ap (waits_next (delivery_of e.note) (closer_of e.note) false i) (was (h refl) i)

resent_by-same : (o : Option ℕ) (p q : ℕ → Option Entry) → ((i : ℕ) → p i ≡ q i) → resent_by o p ≡ resent_by o q
resent_by-same None p q h = refl
resent_by-same (Some i) p q h = ap place_or_zero (h i)

pub resent-next : (tested : Tested) (s : Inflight) (f : Fate) (e : Seen) (past : List Seen) → IsUsing s tested (fate_before tested f e past) past → resent_next e.note (value_under s.entries) s.resent ≡ resent_in tested.role (Some f) (e ∷ past)
resent-next tested s f e past u = go (is_open e.note) refl
  where
    entry : ℕ → Option Entry
    entry i = entry_in tested.role i (session tested.role (Some f) past)

    go : (b : Bool) → is_open e.note ≡ b → cond b 0 (greater (resent_by (resend_of e.note) (value_under s.entries)) s.resent) ≡ cond b 0 (greater (resent_by (resend_of e.note) entry) (resent_in tested.role (Some f) past))
    go true h = refl
    go false h =
        let n = now s tested f e past h u in
        ap (λ p. greater p s.resent) (resent_by-same (resend_of e.note) (value_under s.entries) entry n.entries_are) ∙ ap (greater (resent_by (resend_of e.note) entry)) n.resent_is
