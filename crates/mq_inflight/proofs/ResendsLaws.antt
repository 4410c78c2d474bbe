-- S06.
use Rattle.std.proofs.Common.{◌≡◌, ℕ, ◌==◌, nat_eq, nat_le, nat_lt, Bool, true, false, cond, ◌&&◌, ◌||◌, not, List, [], ◌∷◌, length, Option, Some, None, refl, ap, sym, ◌∙◌, subst, arith}
use Rattle.std.specs.Prelude.{is_some, unwrap_or}
use Rattle.std.specs.Option.{option_or, option_and_then}
use Rattle.std.specs.List.{list_any}
use Rattle.std.proofs.lemmas.Bool.{eqb-true, eq-eqb}
use Rattle.mq_rules.specs.KeptOrder.{value_under, values_of}
use Rattle.indexmap.specs.IndexSet.{contains, index_set_len}
use Rattle.mq_log.specs.declared.place.Place3.{Place3}
use Rattle.mq_rules.specs.declared.role.Role.{Role}
use Rattle.mq_rules.specs.declared.role.Role.TheVariants.{Client, Server}
use Rattle.mq_rules.specs.declared.role.Further.{Further}
use Rattle.mq_rules.specs.declared.role.Tested.{Tested}
use Rattle.mq_rules.specs.declared.fate.Fate.{Fate}
use Rattle.mq_rules.specs.declared.rule.Rule.TheVariants.{S06}
use Rattle.mq_rules.specs.declared.note.Note.{Note}
use Rattle.mq_rules.specs.declared.note.Note.TheVariants as notes
use Rattle.mq_rules.specs.declared.note.Seen.{Seen}
use Rattle.mq_rules.specs.declared.packet_note.ConnectNote.{ConnectNote}
use Rattle.mq_rules.specs.declared.packet_note.ConnackNote.{ConnackNote}
use Rattle.mq_rules.specs.Words.{is_some_and, is_id}
use Rattle.mq_rules.specs.Notes.{is_open, is_rest, connect_of, connack_of, opener_of, decides, closer_of}
use Rattle.mq_rules.specs.Moments.{Moment, newest, position, moment, moments, those, some, Among, IsPlaced, note, since}
use Rattle.mq_rules.specs.Connections.{connection, latest_fate, accepts, resumes, accepted, resumed, ends_binding, is_binding, first_connect, first_connack, session, gives_fate, begun, number, is_connected, needs_connection}
use Rattle.mq_rules.specs.Counter.{in_flight}
use Rattle.mq_rules.specs.Identifiers.{counts, is_used_up, is_passed_over, refuses_retained, closes_id, sent_under, awaits_closer, is_waiting, shows_S06}
use Rattle.mq_rules.specs.Rules.{binds, found_line, line_of, lines, same_rule}
use Rattle.mq_rules.specs.Faults.{reported}
use Rattle.mq_rules.specs.FaultKeys.{FaultMap}
use Rattle.mq_rules.proofs.Exports.{among-moment, among-some, and_false, both_true, differ, first_found-next, latest_fate-same, moment-among, moment-placed, moment-stays, moments-descend, not_true, on_open-connected, or_false, or_left, rest-opens-nothing, session-descend, session-members, since-stands, some-among, those-descend, used_up-counted, under-within}
use Rattle.mq_inflight.specs.declared.inflight.entry.Entry.{Entry}
use Rattle.mq_inflight.specs.declared.inflight.Inflight.{Inflight}
use Rattle.mq_rules.specs.Passing.{opened_at}
use Rattle.mq_inflight.specs.declared.inflight.resends.Excused.{Excused}
use Rattle.mq_inflight.specs.declared.inflight.resends.Bounds.{Bounds}
use Rattle.mq_rules.specs.Under.{IsUnder, fate_before, turns_with}
use Rattle.mq_rules.specs.Growing.{Gains}
use Rattle.mq_inflight.specs.Quotas.{peer_room}
use Rattle.mq_fates.specs.Taking.{binds_by}
use Rattle.mq_fates.specs.Judgements.{blamed}
use Rattle.mq_inflight.specs.Opened.{entry_in}
use Rattle.mq_inflight.specs.Resending.{connect_bounds, connack_bounds, peer_bounds, passed_since, is_passed, bounds_next, by_itself, excuses, apart, entire, is_due, due_places, blamed_due, told, settles}
use Rattle.mq_inflight.specs.Using.{waits, IsUsing}
use Rattle.mq_fates.proofs.Exports.{binding-under, place_at, blame_of, gains_blamed, gains_none}
use Rattle.mq_inflight.proofs.QuotaLaws.{room-kept}
use Rattle.mq_inflight.proofs.OpenedLaws.{entry-is, IsEntry}
use Rattle.mq_inflight.proofs.PassingLaws.{over-is, resumed-accepts}
use Rattle.mq_inflight.proofs.DueLaws.{owes, due-owes, owes-due}
use Rattle.mq_inflight.proofs.PlacesLaws.{IsDueAt, value-due, key-due, blamed_due-is}

pub binds-S06 : (role : Role) (releases : Bool) (further : Further) → binds S06 (record { role = role; releases = releases; further = further }) ≡ true
unfolding line_of found_line lines
binds-S06 Client releases further = refl
binds-S06 Server releases further = refl

-- ---- excuses

refused-kept : (role : Role) (e : Seen) (past : List Seen) → refuses_retained role (newest e past) ≡ is_some_and (λ b. b.refuses_retained) (peer_bounds role past)
refused-kept Client e past = go (first_connack Client (connection past))
  where
    go : (o : Option ConnackNote) → is_some_and (λ a. is_id 0 a.retain_available) o ≡ is_some_and (λ b. b.refuses_retained) (connack_bounds o)
    go None = refl
    go (Some a) = refl
refused-kept Server e past = go (first_connect Server (connection past))
  where
    go : (o : Option ConnectNote) → false ≡ is_some_and (λ b. b.refuses_retained) (connect_bounds o)
    go None = refl
    go (Some c) = refl

used-kept : (tested : Tested) (s : Inflight) (taken : Option Fate) (single : Excused) (e : Seen) (past : List Seen) → IsUsing s tested taken past → is_used_up tested.role (newest e past) ≡ (excuses s.peer s.in_flight single).all
used-kept tested s taken single e past u =
    used_up-counted tested.role (newest e past)
    ∙ ap (λ n. nat_le n (in_flight (those (counts tested.role) (connection past)))) (room-kept tested.role e past)
    ∙ sym (ap (λ p. nat_le (unwrap_or p 65535) s.in_flight) u.same_peer ∙ ap (λ n. nat_le (unwrap_or (peer_room tested.role past) 65535) n) u.flying)

retained-kept : (tested : Tested) (s : Inflight) (taken : Option Fate) (e : Seen) (past : List Seen) → IsUsing s tested taken past → refuses_retained tested.role (newest e past) ≡ is_some_and (λ b. b.refuses_retained) s.bounds
retained-kept tested s taken e past u = refused-kept tested.role e past ∙ ap (is_some_and (λ (b : Bounds). b.refuses_retained)) (sym u.bounds_are)

-- ---- what waits for an answer

-- where something waits under i, the tested end waits
one-waits : (i : ℕ) (e : Seen) (past : List Seen) → awaits_closer i (newest e past) ≡ true → is_waiting (newest e past) ≡ true
one-waits i e past h =
    let ms = connection past in
    let held = since-stands (λ m. is_id i (sent_under (note m))) (closes_id i) ms (those-descend (λ m. number m == begun past) (moments past) (moments-descend past)) h in
    among-some (λ j. is_some_and (λ k. awaits_closer k (newest e past)) (sent_under (note j))) ms held.at held.there (go (sent_under (note held.at)) held.passes)
  where
    go : (o : Option ℕ) → is_id i o ≡ true → is_some_and (λ k. awaits_closer k (newest e past)) o ≡ true
    go None h = absurd (cc)
    go (Some j) same = ap (λ k. awaits_closer k (newest e past)) (sym (eqb-true i j same)) ∙ h

-- where the tested end waits, something does under some identifier
waits-one : (e : Seen) (past : List Seen) → is_waiting (newest e past) ≡ true → (i : ℕ) × (awaits_closer i (newest e past) ≡ true)
waits-one e past h =
    let found = some-among (λ j. is_some_and (λ k. awaits_closer k (newest e past)) (sent_under (note j))) (connection past) h in
    go (sent_under (note found.0)) found.2
  where
    go : (o : Option ℕ) → is_some_and (λ k. awaits_closer k (newest e past)) o ≡ true → (i : ℕ) × (awaits_closer i (newest e past) ≡ true)
    go None h = absurd (cc)
    go (Some i) h = (i, h)

-- none is listed exactly if the tested end doesn't wait
none-waits : (keys : List ℕ) (e : Seen) (past : List Seen) → ((i : ℕ) → list_any (nat_eq i) keys ≡ awaits_closer i (newest e past)) → (length keys == 0) ≡ not (is_waiting (newest e past))
none-waits [] e past are = go (is_waiting (newest e past)) refl
  where
    go : (b : Bool) → is_waiting (newest e past) ≡ b → (length {A = ℕ} [] == 0) ≡ not b
    go false h = refl
    go true h = absurd (let one = waits-one e past h in let none : false ≡ true = are one.0 ∙ one.1 in cc)
none-waits (k ∷ keys) e past are =
    let listed : list_any (nat_eq k) (k ∷ keys) ≡ true = or_left (nat_eq k k) (list_any (nat_eq k) keys) (eq-eqb k k refl) in
    let waiting = one-waits k e past (sym (are k) ∙ listed) in
    let some_one : (length (k ∷ keys) == 0) ≡ false = differ (length (k ∷ keys)) 0 (λ none. absurd (omega arith)) in
    some_one ∙ sym (ap not waiting)

-- so it is where the connection is resumed
pub vacant-waits : (tested : Tested) (s : Inflight) (taken : Option Fate) (e : Seen) (past : List Seen) → IsUsing s tested taken past → resumes s.fate ≡ true → is_connected past ≡ true
    → (index_set_len s.unanswered == 0) ≡ not (is_waiting (newest e past))
vacant-waits tested s taken e past u resumed connected =
    none-waits s.unanswered.keys e past (λ i. u.unanswered_are i ∙ ap (λ b. b && waits sent_under closer_of i past) resumed ∙ ap (λ ms. since (λ m. is_id i (sent_under (note m))) (closes_id i) ms) (on_open-connected past connected))

-- ---- a REST that binds

-- its connection had its fate before it
pub binding-fate : (tested : Tested) (f : Fate) (at : ℕ) (e : Seen) (past : List Seen) → IsUnder tested f at e past → is_binding tested.role (newest e past) ≡ true → latest_fate tested.role past ≡ Some f
unfolding is_binding
binding-fate tested f at e past under h =
    let parts = both_true (is_rest e.note) (accepted (latest_fate tested.role past) && not (some ends_binding (connection past))) h in
    go (latest_fate tested.role past) refl (both_true (accepted (latest_fate tested.role past)) (not (some ends_binding (connection past))) parts.1).0 (rest-opens-nothing e.note parts.0)
  where
    go : (o : Option Fate) → latest_fate tested.role past ≡ o → accepted o ≡ true → is_open e.note ≡ false → o ≡ Some f
    go None is a closed = absurd (cc)
    go (Some g) is a closed =
        let after : latest_fate tested.role (e ∷ past) ≡ Some g = latest_fate-same tested.role e past closed ∙ ap (λ o. option_or o (gives_fate tested.role (newest e past))) is in
        ap Some (under.fits g after).0

S06-turns : (tested : Tested) (f : Fate) (e : Seen) (past : List Seen) (k : ℕ) → turns_with tested f e past k S06 ≡ (is_binding tested.role (newest e past) && is_some_and (shows_S06 tested.role (newest e past)) (moment past k))
unfolding turns_with
S06-turns tested f e past k = ap (λ b. b && (is_binding tested.role (newest e past) && is_some_and (shows_S06 tested.role (newest e past)) (moment past k))) (binds-S06 tested.role tested.releases tested.further)

shows-owes : (role : Role) (e : Seen) (past : List Seen) (m : Moment)
    → shows_S06 role (newest e past) m ≡ (not (is_waiting (newest e past)) && owes role (latest_fate role past) (is_used_up role (newest e past)) (refuses_retained role (newest e past)) past m)
unfolding shows_S06
shows-owes role e past m = in-turn (resumed (latest_fate role past)) (not (is_waiting (newest e past))) _
  where
    in-turn : (a b c : Bool) → (a && (b && c)) ≡ (b && (a && c))
    in-turn true b c = refl
    in-turn false true c = refl
    in-turn false false c = refl

-- what it shows
shown-owes : (role : Role) (f : Fate) (x : Excused) (e : Seen) (past : List Seen) → latest_fate role past ≡ Some f → is_used_up role (newest e past) ≡ x.all → refuses_retained role (newest e past) ≡ x.retained
    → (q : Option Moment) → is_some_and (shows_S06 role (newest e past)) q ≡ (not (is_waiting (newest e past)) && is_some_and (owes role (Some f) x.all x.retained past) q)
shown-owes role f x e past fate used refused None = sym (and_false (not (is_waiting (newest e past))))
shown-owes role f x e past fate used refused (Some m) =
    shows-owes role e past m ∙ ap (λ o. not (is_waiting (newest e past)) && owes role o (is_used_up role (newest e past)) (refuses_retained role (newest e past)) past m) fate
    ∙ ap (λ b. not (is_waiting (newest e past)) && owes role (Some f) b (refuses_retained role (newest e past)) past m) used
    ∙ ap (λ b. not (is_waiting (newest e past)) && owes role (Some f) x.all b past m) refused

shown-nowhere : (role : Role) (f : Fate) (x : Excused) (past : List Seen) → resumes f ≡ false → (q : Option Moment) → is_some_and (owes role (Some f) x.all x.retained past) q ≡ false
shown-nowhere role f x past h None = refl
shown-nowhere role f x past h (Some m) = first-none (resumes f) _ h
  where
    first-none : (a b : Bool) → a ≡ false → (a && b) ≡ false
    first-none a b h = ap (λ c. c && b) h

pub rest-needs : (n : Note) → is_rest n ≡ true → needs_connection n ≡ true
rest-needs notes.Rest h = refl
rest-needs _ h = absurd (cc)

due-blamed : (tested : Tested) (f : Fate) (at opened : ℕ) (x : Excused) (e : Seen) (past : List Seen) (entry : ℕ → Option Entry) (places : List Place3) → IsPlaced past → resumes f ≡ true → opened ≡ opened_at past
    → ((i : ℕ) → entry i ≡ entry_in tested.role i (session tested.role (Some f) past))
    → ((i : ℕ) (o : Entry) → entry_in tested.role i (session tested.role (Some f) past) ≡ Some o → (r : IsEntry i (session tested.role (Some f) past) o) → is_passed_over tested.role (Some f) i past r.opener ≡ is_passed x.before o) → ((k : ℕ) → turns_with tested f e past k S06 ≡ is_some_and (owes tested.role (Some f) x.all x.retained past) (moment past k))
    → ((k : ℕ) (p : Place3) → place_at k places ≡ Some p → IsDueAt k opened x entry p)
    → ((k i : ℕ) (o : Entry) → entry i ≡ Some o → is_due opened x o ≡ true → k ≡ o.place.position → is_some (place_at k places) ≡ true)
    → (k : ℕ) → blame_of at (place_at k places) ≡ cond (turns_with tested f e past k S06) (Some (reported tested.role (moment (e ∷ past) k) S06 at)) None
due-blamed tested f at opened x e past entry places placed resumed opened_is are over turns sound complete k =
    go (place_at k places) refl ∙ ap (λ b. cond b (Some (reported tested.role (moment (e ∷ past) k) S06 at)) None) (sym (turns k))
  where
    a : accepts f ≡ true
    a = resumed-accepts f resumed

    shown : Bool
    shown = is_some_and (owes tested.role (Some f) x.all x.retained past) (moment past k)

    of_entry : (p : Place3) → IsDueAt k opened x entry p → Some (record { decided = at; record_no = p.record_no; offset = None }) ≡ cond shown (Some (reported tested.role (moment (e ∷ past) k) S06 at)) None
    of_entry p v =
        let kept : entry_in tested.role v.identifier (session tested.role (Some f) past) ≡ Some v.kept = sym (are v.identifier) ∙ v.is_kept in
        let r = entry-is tested.role v.identifier (session tested.role (Some f) past) v.kept (session-descend tested.role (Some f) past) kept in
        let among : Among r.opener (moments past) = (session-members tested.role (Some f) past r.opener r.there).0 in
        let same : p ≡ r.opener.event.place = v.same_place ∙ r.same_place in
        let here : k ≡ position r.opener = v.here ∙ ap (λ (y : Place3). y.position) same ∙ moment-placed past (position r.opener) r.opener placed (among-moment r.opener past among) in
        let before : moment past k ≡ Some r.opener = ap (moment past) here ∙ among-moment r.opener past among in
        let due : is_due (opened_at past) x v.kept ≡ true = ap (λ n. is_due n x v.kept) (sym opened_is) ∙ v.due in
        let yes : shown ≡ true = ap (is_some_and (owes tested.role (Some f) x.all x.retained past)) before ∙ due-owes tested.role f resumed a x past placed v.identifier v.kept r (over v.identifier v.kept kept r) due in
        ap (λ (y : Place3). Some (record { decided = at; record_no = y.record_no; offset = None })) same
        ∙ ap (λ o. Some (reported tested.role o S06 at)) (sym (moment-stays e past k r.opener before))
        ∙ ap (λ b. cond b (Some (reported tested.role (moment (e ∷ past) k) S06 at)) None) (sym yes)

    never : place_at k places ≡ None → (q : Option Moment) → moment past k ≡ q → is_some_and (owes tested.role (Some f) x.all x.retained past) q ≡ true → ⊥
    never h None is t = absurd (cc)
    never h (Some m) is t =
        let w = owes-due tested.role f a x past placed over m (moment-among past k m is) t in
        let at_k : k ≡ w.entry.place.position = sym (ap (λ (y : Place3). y.position) w.same_place ∙ moment-placed past k m placed is) in
        let due : is_due opened x w.entry ≡ true = ap (λ n. is_due n x w.entry) opened_is ∙ w.due in
        let has = complete k w.identifier w.entry (are w.identifier ∙ w.is_kept) due at_k in
        absurd (let none : is_some {T = Place3} None ≡ true = sym (ap is_some h) ∙ has in cc)

    go : (o : Option Place3) → place_at k places ≡ o → blame_of at o ≡ cond shown (Some (reported tested.role (moment (e ∷ past) k) S06 at)) None
    go None h = ap (λ b. cond b (Some (reported tested.role (moment (e ∷ past) k) S06 at)) None) (sym (not_true shown (never h (moment past k) refl)))
    go (Some p) h = of_entry p (sound k p h)

pub resends-gains : (tested : Tested) (s : Inflight) (f : Fate) (at : ℕ) (e : Seen) (past : List Seen) (m : FaultMap) (rests : Bool) (excused : Excused) → IsUnder tested f at e past → IsUsing s tested (fate_before tested f e past) past
    → rests ≡ (settles f (at == e.place.position) s.ended e.note && (index_set_len s.unanswered == 0)) → excused ≡ excuses s.peer s.in_flight (by_itself s.fate s.bounds s.opened s.bounded)
    → Gains (λ k r. same_rule r S06 && turns_with tested f e past k r) tested (e ∷ past) at m (told rests s.again excused s.opened at (values_of (value_under s.entries)) m)
resends-gains tested s f at e past m rests excused under u rest_is excused_is = go rests refl
  where
    entry : ℕ → Option Entry
    entry = value_under s.entries

    all : FaultMap → Type 0
    all n = Gains (λ k r. same_rule r S06 && turns_with tested f e past k r) tested (e ∷ past) at m n

    binding : is_binding tested.role (newest e past) ≡ binds_by f (at == e.place.position) s.ended e.note
    binding = binding-under tested f at e past under ∙ ap (λ t. binds_by f (at == e.place.position) t e.note) (sym u.is_ended)

    waiting : Bool
    waiting = is_waiting (newest e past)

    vacant : Bool
    vacant = index_set_len s.unanswered == 0

    is : rests ≡ ((resumes f && is_binding tested.role (newest e past)) && vacant)
    is = rest_is ∙ ap (λ b. (resumes f && b) && vacant) (sym binding)

    used : is_used_up tested.role (newest e past) ≡ excused.all
    used = used-kept tested s (fate_before tested f e past) (by_itself s.fate s.bounds s.opened s.bounded) e past u ∙ ap (λ (x : Excused). x.all) (sym excused_is)

    refused : refuses_retained tested.role (newest e past) ≡ excused.retained
    refused = retained-kept tested s (fate_before tested f e past) e past u ∙ ap (λ (x : Excused). x.retained) (sym excused_is)

    shown : is_binding tested.role (newest e past) ≡ true → (k : ℕ) → turns_with tested f e past k S06 ≡ (not waiting && is_some_and (owes tested.role (Some f) excused.all excused.retained past) (moment past k))
    shown b k =
        S06-turns tested f e past k ∙ ap (λ t. t && is_some_and (shows_S06 tested.role (newest e past)) (moment past k)) b
        ∙ shown-owes tested.role f excused e past (binding-fate tested f at e past under b) used refused (moment past k)

    -- a REST that binds comes on a connection that is open
    awake : is_binding tested.role (newest e past) ≡ true → is_rest e.note ≡ true
    awake b = (both_true (is_rest e.note) ((at == e.place.position) && (accepts f && not s.ended)) (sym binding ∙ b)).0

    silent : resumes f ≡ true → is_binding tested.role (newest e past) ≡ true → vacant ≡ not waiting
    silent r b =
        let rest = awake b in
        let n : IsUsing s tested (Some f) past = subst (λ c. IsUsing s tested (cond c (latest_fate tested.role past) (Some f)) past) (rest-opens-nothing e.note rest) u in
        let same : s.fate ≡ f = let h : Some s.fate ≡ Some f = sym n.same_fate in cc in
        vacant-waits tested s (Some f) e past n (ap resumes same ∙ r) (under.follows.on_connections.0 (rest-needs e.note rest))

    none : (b : Bool) → is_binding tested.role (newest e past) ≡ b → (r : Bool) → resumes f ≡ r → (v : Bool) → vacant ≡ v → ((r && b) && v) ≡ false → (k : ℕ) → turns_with tested f e past k S06 ≡ false
    none false b r t v w h k = S06-turns tested f e past k ∙ ap (λ t. t && is_some_and (shows_S06 tested.role (newest e past)) (moment past k)) b
    none true b true t true w h k = absurd (cc)
    none true b true t false w h k = shown b k ∙ ap (λ v. v && is_some_and (owes tested.role (Some f) excused.all excused.retained past) (moment past k)) (sym (silent t b) ∙ w)
    none true b false t v w h k = shown b k ∙ ap (λ o. not waiting && o) (shown-nowhere tested.role f excused past t (moment past k)) ∙ and_false (not waiting)

    closed : is_rest e.note ≡ true → IsUsing s tested (Some f) past
    closed rest = subst (λ b. IsUsing s tested (cond b (latest_fate tested.role past) (Some f)) past) (rest-opens-nothing e.note rest) u

    over : resumes f ≡ true → IsUsing s tested (Some f) past → (i : ℕ) (o : Entry) → entry_in tested.role i (session tested.role (Some f) past) ≡ Some o → (r : IsEntry i (session tested.role (Some f) past) o)
        → is_passed_over tested.role (Some f) i past r.opener ≡ is_passed excused.before o
    over h n i o kept r =
        let same : s.fate ≡ f = let g : Some s.fate ≡ Some f = sym n.same_fate in cc in
        over-is tested.role f (resumed-accepts f h) i past under.follows.placed.1 o r (ap (λ p. is_passed p o) (sym n.bounded_is) ∙ n.passed_are i o (n.entries_are i ∙ kept))
        ∙ sym (ap (λ (x : Excused). is_passed x.before o) excused_is
        ∙ ap (λ g. is_passed (passed_since g s.bounds s.opened s.bounded) o) same
        ∙ ap (λ b. is_passed (passed_since f b s.opened s.bounded) o) n.bounds_are
        ∙ ap (λ p. is_passed (passed_since f (peer_bounds tested.role past) p s.bounded) o) n.opened_is
        ∙ ap (λ p. is_passed (passed_since f (peer_bounds tested.role past) (opened_at past) p) o) n.bounded_is)

    -- by what is looked at, which has all that is due
    from : resumes f ≡ true → is_binding tested.role (newest e past) ≡ true → vacant ≡ true → IsUsing s tested (Some f) past → (places : List Place3)
        → ((k : ℕ) (p : Place3) → place_at k places ≡ Some p → IsDueAt k s.opened excused entry p)
        → ((k i : ℕ) (o : Entry) → entry i ≡ Some o → is_due s.opened excused o ≡ true → k ≡ o.place.position → is_some (place_at k places) ≡ true) → all (blamed S06 at places m)
    from resumed b v n places sound complete =
        gains_blamed tested S06 f e past at places m
        (due-blamed tested f at s.opened excused e past entry places under.follows.placed.1 resumed n.opened_is n.entries_are (over resumed n) (λ k. shown b k ∙ ap (λ w. w && is_some_and (owes tested.role (Some f) excused.all excused.retained past) (moment past k)) (sym (silent resumed b) ∙ v)) sound complete)

    -- what is due by other excuses that come to the same
    as_due : (x : Excused) → ((o : Entry) → is_due s.opened x o ≡ is_due s.opened excused o) → (k : ℕ) (p : Place3) → IsDueAt k s.opened x entry p → IsDueAt k s.opened excused entry p
    as_due x same k p r = record {
      identifier = r.identifier;
      kept = r.kept;
      is_kept = r.is_kept;
      due = sym (same r.kept) ∙ r.due;
      same_place = r.same_place;
      here = r.here;
    }

    nothing : (x : Excused) → ((i : ℕ) (o : Entry) → entry i ≡ Some o → is_due s.opened x o ≡ true → ⊥) → (k i : ℕ) (o : Entry) → entry i ≡ Some o → is_due s.opened x o ≡ true → k ≡ o.place.position → is_some (place_at k []) ≡ true
    nothing x never k i o h due at = absurd (never i o h due)

    absent : (x : Excused) (k : ℕ) (p : Place3) → place_at k [] ≡ Some p → IsDueAt k s.opened x entry p
    absent x k p h = absurd (cc)

    -- the quota or a bound excuses all that wasn't confirmed
    whole : excused.all ≡ true → (o : Entry) → is_due s.opened excused o ≡ is_due s.opened entire o
    whole all_is o = ap (λ b. nat_lt o.sent s.opened && (o.confirmed || not (b || (is_passed excused.before o || (excused.retained && o.retained))))) all_is

    -- or not, and then what is excused is so by itself
    single : excused.all ≡ false → (o : Entry) → is_due s.opened excused o ≡ is_due s.opened (apart excused) o
    single all_is o = ap (λ b. nat_lt o.sent s.opened && (o.confirmed || not (b || (is_passed excused.before o || (excused.retained && o.retained))))) all_is

    itself : apart excused ≡ by_itself s.fate s.bounds s.opened s.bounded
    itself = ap apart excused_is

    by : resumes f ≡ true → is_binding tested.role (newest e past) ≡ true → vacant ≡ true → IsUsing s tested (Some f) past → (x : Bool) → excused.all ≡ x → (a : Bool) → s.again.all ≡ a → (c : Bool) → s.again.confirmed ≡ c
        → all (cond x (cond c m (blamed_due s.opened entire at (values_of entry) m)) (cond a m (blamed_due s.opened (apart excused) at (values_of entry) m)))
    by resumed b v n true x_is a a_is true c_is =
        from resumed b v n [] (absent excused) (nothing excused (λ i o h due.
        let none : is_some_and (is_due s.opened entire) (entry i) ≡ false = n.resent_are.confirmed_are c_is i in
        let bad : true ≡ false = sym (ap (is_some_and (is_due s.opened entire)) h ∙ sym (whole x_is o) ∙ due) ∙ none in
        absurd (cc)))
    by resumed b v n true x_is a a_is false c_is =
        subst all (sym (blamed_due-is s.opened entire at (values_of entry) m))
        (from resumed b v n (due_places s.opened entire (values_of entry)) (λ k p h. as_due entire (λ o. sym (whole x_is o)) k p (value-due k s.opened entire entry p h))
        (λ k i o h due at_k. key-due k i s.opened entire entry o h (under-within s.entries i (ap is_some h)) (sym (whole x_is o) ∙ due) at_k))
    by resumed b v n false x_is true a_is c c_is =
        from resumed b v n [] (absent excused) (nothing excused (λ i o h due.
        let none : is_some_and (is_due s.opened (by_itself s.fate s.bounds s.opened s.bounded)) (entry i) ≡ false = n.resent_are.all_are a_is i in
        let bad : true ≡ false = sym (ap (is_some_and (is_due s.opened (by_itself s.fate s.bounds s.opened s.bounded))) h ∙ ap (λ y. is_due s.opened y o) (sym itself) ∙ sym (single x_is o) ∙ due) ∙ none in
        absurd (cc)))
    by resumed b v n false x_is false a_is c c_is =
        subst all (sym (blamed_due-is s.opened (apart excused) at (values_of entry) m))
        (from resumed b v n (due_places s.opened (apart excused) (values_of entry)) (λ k p h. as_due (apart excused) (λ o. sym (single x_is o)) k p (value-due k s.opened (apart excused) entry p h))
        (λ k i o h due at_k. key-due k i s.opened (apart excused) entry o h (under-within s.entries i (ap is_some h)) (sym (single x_is o) ∙ due) at_k))

    go : (t : Bool) → rests ≡ t → all (told t s.again excused s.opened at (values_of entry) m)
    go false h = gains_none tested S06 f e past at m (none (is_binding tested.role (newest e past)) refl (resumes f) refl vacant refl (sym is ∙ h))
    go true h =
        let all_parts = both_true (resumes f && is_binding tested.role (newest e past)) vacant (sym is ∙ h) in
        let parts = both_true (resumes f) (is_binding tested.role (newest e past)) all_parts.0 in
        by parts.0 parts.1 all_parts.1 (closed (awake parts.1)) excused.all refl s.again.all refl s.again.confirmed refl

-- ---- the state, with one event more

pub bounds-next : (role : Role) (e : Seen) (past : List Seen) → peer_bounds role (e ∷ past) ≡ bounds_next role e.note (peer_bounds role past)
bounds-next Client e past = ap connack_bounds (first_found-next (connack_of Client) e past) ∙ go (is_open e.note) (first_connack Client (connection past)) (connack_of Client e.note)
  where
    go : (b : Bool) (o p : Option ConnackNote) → connack_bounds (option_or (cond b None o) p) ≡ option_or (cond b None (connack_bounds o)) (connack_bounds p)
    go true o p = refl
    go false None p = refl
    go false (Some a) p = refl
bounds-next Server e past = ap connect_bounds (first_found-next (connect_of Server) e past) ∙ go (is_open e.note) (first_connect Server (connection past)) (connect_of Server e.note)
  where
    go : (b : Bool) (o p : Option ConnectNote) → connect_bounds (option_or (cond b None o) p) ≡ option_or (cond b None (connect_bounds o)) (connect_bounds p)
    go true o p = refl
    go false None p = refl
    go false (Some c) p = refl
