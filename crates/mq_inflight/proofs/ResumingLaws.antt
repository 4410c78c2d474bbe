-- How often S06 is put to the test, with one event more.
use Rattle.std.proofs.Common.{◌≡◌, ℕ, ◌+◌, ◌-◌, ◌<◌, ◌≤◌, ◌==◌, nat_eq, nat_le, arith, Bool, true, false, cond, ◌&&◌, ◌||◌, not, List, ◌∷◌, length, Option, Some, None, refl, ap, sym, ◌∙◌, subst, inl, inr}
use Rattle.std.specs.Prelude.{is_some, option_map}
use Rattle.std.specs.Option.{option_and_then}
use Rattle.std.proofs.lemmas.Bool.{eq-eqb, leb-true, leb-false, le-leb}
use Rattle.mq_rules.specs.KeptOrder.{value_under}
use Rattle.indexmap.specs.IndexSet.{index_set_len}
use Rattle.mq_rules.specs.declared.role.Tested.{Tested}
use Rattle.mq_rules.specs.declared.fate.Fate.{Fate}
use Rattle.mq_rules.specs.declared.rule.Rule.TheVariants.{S06}
use Rattle.mq_rules.specs.declared.note.Note.{Note}
use Rattle.mq_rules.specs.declared.note.Note.TheVariants as notes
use Rattle.mq_rules.specs.declared.note.Seen.{Seen}
use Rattle.mq_rules.specs.Words.{is_some_and}
use Rattle.mq_rules.specs.Notes.{is_open, is_rest, opener_of}
use Rattle.mq_rules.specs.Moments.{Moment, newest, note, position, moment, moments, is_same, is_unended, some, since, count, Among}
use Rattle.mq_rules.specs.Connections.{connection, latest_fate, accepts, resumes, begins, resumed, session, is_binding}
use Rattle.mq_rules.specs.Identifiers.{opens_id, closes_id, is_waiting, applies_S06}
use Rattle.mq_rules.specs.Rules.{binds}
use Rattle.mq_rules.specs.Passing.{opened_at, before_latest}
use Rattle.mq_rules.specs.Under.{IsUnder, fate_before}
use Rattle.mq_rules.specs.Occasions.{applies, places, adds_place}
use Rattle.mq_rules.proofs.Exports.{among-moment, among-within, and_false, applies-nowhere, applies-step, both_true, count-most, from-zero, moment-next, not_true, places-awake, places-most, places-step, rest-opens-nothing}
use Rattle.mq_inflight.specs.declared.inflight.Inflight.{Inflight}
use Rattle.mq_inflight.specs.declared.inflight.entry.Entry.{Entry}
use Rattle.mq_inflight.specs.declared.inflight.resuming.ResumedPlaces.{ResumedPlaces}
use Rattle.mq_inflight.specs.Opened.{moves, entry_in}
use Rattle.mq_fates.specs.Taking.{binds_by}
use Rattle.mq_inflight.specs.Resending.{settles}
use Rattle.mq_inflight.specs.Using.{IsUsing}
use Rattle.mq_inflight.specs.Resumings.{stands, stood, is_new, is_here, moved_on, ended_at, remaining, CountsResumed}
use Rattle.mq_inflight.proofs.DueLaws.{opened-within}
use Rattle.mq_fates.proofs.Exports.{binding-under}
use Rattle.mq_inflight.proofs.ResendsLaws.{binds-S06, vacant-waits, binding-fate, rest-needs}
use Rattle.mq_inflight.proofs.ResumedLaws.{count-among, count-nothing, open-moves, rest-moves, stands-next, stays, stays-stands, stands-opened, stood-before, newest-stood, newest-stands, newest-idle, stands-stood, was-open-stood, count-stays}

-- ---- what turns out to be a place

-- nothing is at the next position yet
nothing-next : (past : List Seen) → moment past (length past + 1) ≡ None
nothing-next past = moment-next past (length past + 1) (eq-eqb (length past + 1) (length past + 1) refl)

adds-nothing-next : (tested : Tested) (e : Seen) (past : List Seen) → adds_place tested e past (length past + 1) S06 ≡ false
unfolding adds_place
adds-nothing-next tested e past =
    ap (λ o. binds S06 tested && (is_binding tested.role (newest e past) && is_some_and (applies_S06 tested.role (newest e past)) o)) (nothing-next past)
    ∙ ap (λ b. binds S06 tested && b) (and_false (is_binding tested.role (newest e past)))
    ∙ and_false (binds S06 tested)

newest-new : (tested : Tested) (e : Seen) (past : List Seen) → is_new tested (e ∷ past) (newest e past) ≡ true
newest-new tested e past =
    ap not (applies-step tested e past (length past + 1) S06
    ∙ ap (λ b. b || adds_place tested e past (length past + 1) S06) (applies-nowhere tested past (length past + 1) S06 (nothing-next past))
    ∙ adds-nothing-next tested e past)

-- what is new before an event stays so, unless the event puts it to the test
new-next : (tested : Tested) (e : Seen) (past : List Seen) (m : Moment) (shown : Bool) → adds_place tested e past (position m) S06 ≡ shown → is_new tested (e ∷ past) m ≡ (is_new tested past m && not shown)
new-next tested e past m shown is = ap not (applies-step tested e past (position m) S06 ∙ ap (λ b. applies tested past (position m) S06 || b) is) ∙ neither (applies tested past (position m) S06)
  where
    neither : (a : Bool) → not (a || shown) ≡ (not a && not shown)
    neither true = refl
    neither false = refl

-- no REST that binds adds none
adds-awake : (tested : Tested) (e : Seen) (past : List Seen) (k : ℕ) → is_binding tested.role (newest e past) ≡ false → adds_place tested e past k S06 ≡ false
unfolding adds_place
adds-awake tested e past k awake = ap (λ b. binds S06 tested && (b && is_some_and (applies_S06 tested.role (newest e past)) (moment past k))) awake ∙ and_false (binds S06 tested)

-- a REST that settles puts to the test what stood when its connection began, and no other event does
adds-stood : (tested : Tested) (s : Inflight) (f : Fate) (at : ℕ) (e : Seen) (past : List Seen) (settling : Bool) → IsUnder tested f at e past → IsUsing s tested (fate_before tested f e past) past
    → settling ≡ (settles f (at == e.place.position) s.ended e.note && (index_set_len s.unanswered == 0)) → (m : Moment) → Among m (moments past) → adds_place tested e past (position m) S06 ≡ (settling && stood tested.role past m)
unfolding adds_place applies_S06
adds-stood tested s f at e past settling under u settling_is m among =
    ap (λ b. b && (is_binding tested.role t && is_some_and (applies_S06 tested.role t) (moment past (position m)))) (binds-S06 tested.role tested.releases tested.further)
    ∙ ap (λ o. is_binding tested.role t && is_some_and (applies_S06 tested.role t) o) (among-moment m past among)
    ∙ go (is_binding tested.role t) refl (resumes f) refl
  where
    t : Moment
    t = newest e past

    vacant : Bool
    vacant = index_set_len s.unanswered == 0

    binding : is_binding tested.role t ≡ binds_by f (at == e.place.position) s.ended e.note
    binding = binding-under tested f at e past under ∙ ap (λ ended. binds_by f (at == e.place.position) ended e.note) (sym u.is_ended)

    is : settling ≡ ((resumes f && is_binding tested.role t) && vacant)
    is = settling_is ∙ ap (λ b. (resumes f && b) && vacant) (sym binding)

    silent : resumes f ≡ true → is_binding tested.role t ≡ true → vacant ≡ not (is_waiting t)
    silent r b =
        let rest : is_rest e.note ≡ true = (both_true (is_rest e.note) ((at == e.place.position) && (accepts f && not s.ended)) (sym binding ∙ b)).0 in
        let n : IsUsing s tested (Some f) past = subst (λ c. IsUsing s tested (cond c (latest_fate tested.role past) (Some f)) past) (rest-opens-nothing e.note rest) u in
        let same : s.fate ≡ f = let h : Some s.fate ≡ Some f = sym n.same_fate in cc in
        vacant-waits tested s (Some f) e past n (ap resumes same ∙ r) (under.follows.on_connections.0 (rest-needs e.note rest))

    -- what S06 says of m, if the latest connection has this fate
    inner : Option Fate → Bool
    inner o = is_some_and (λ i. since (is_same m) (λ n. (opens_id i n || closes_id i n) && not (some (is_same n) (connection past))) (session tested.role o past) && not (some (is_same m) (connection past))) (opener_of (note m))

    at_fate : Option Fate → Bool
    at_fate o = resumed o && (not (is_waiting t) && inner o)

    nothing : settling ≡ false → false ≡ (settling && stood tested.role past m)
    nothing h = sym (ap (λ b. b && stood tested.role past m) h)

    go : (b : Bool) → is_binding tested.role t ≡ b → (r : Bool) → resumes f ≡ r → (b && applies_S06 tested.role t m) ≡ (settling && stood tested.role past m)
    go false b r q = nothing (is ∙ ap (λ c. (resumes f && c) && vacant) b ∙ ap (λ c. c && vacant) (and_false (resumes f)))
    go true b false q =
        ap at_fate (binding-fate tested f at e past under b)
        ∙ ap (λ c. c && (not (is_waiting t) && inner (Some f))) q
        ∙ nothing (is ∙ ap (λ c. (c && is_binding tested.role t) && vacant) q)
    go true b true q =
        ap at_fate (binding-fate tested f at e past under b)
        ∙ ap (λ c. c && (not (is_waiting t) && inner (Some f))) q
        ∙ ap (λ c. c && inner (Some f)) (sym (silent q b))
        ∙ ap (λ c. vacant && c) (was-open-stood tested.role f q past m among)
        ∙ ap (λ c. c && stood tested.role past m) (sym (is ∙ ap (λ c. (c && is_binding tested.role t) && vacant) q ∙ ap (λ c. c && vacant) b))

-- ---- counts, with one event more

counted-next : (test : Moment → Bool) (e : Seen) (past : List Seen) (b : Bool) → test (newest e past) ≡ b → count test (moments (e ∷ past)) ≡ cond b 1 0 + count test (moments past)
counted-next test e past b is = ap (λ t. cond t 1 0 + count test (moments past)) is

counted-past : (test : Moment → Bool) (e : Seen) (past : List Seen) → test (newest e past) ≡ false → count test (moments (e ∷ past)) ≡ count test (moments past)
counted-past test e past is = counted-next test e past false is ∙ from-zero (count test (moments past))

and-yes : (a : Bool) → (a && true) ≡ a
and-yes true = refl
and-yes false = refl

both : (a b c d : Bool) → a ≡ c → b ≡ d → (a && b) ≡ (c && d)
both a b c d p q = ap (λ x. x && b) p ∙ ap (λ x. c && x) q

first-out : (a b : Bool) → a ≡ false → (a && b) ≡ false
first-out a b h = ap (λ c. c && b) h

-- ---- a connection begins

open-wakes : (n : Note) → is_open n ≡ true → is_rest n ≡ false
open-wakes notes.Open h = refl
open-wakes _ h = absurd (cc)

open-awake : (tested : Tested) (e : Seen) (past : List Seen) → is_open e.note ≡ true → is_binding tested.role (newest e past) ≡ false
unfolding is_binding
open-awake tested e past opens = first-out (is_rest e.note) _ (open-wakes e.note opens)

pub begin-next : (tested : Tested) (f : Fate) (e : Seen) (past : List Seen) (p : ResumedPlaces) → is_open e.note ≡ true → CountsResumed p tested (latest_fate tested.role past) past
    → CountsResumed (record { counted = p.counted; due = p.fresh; fresh = cond (begins (Some f)) 0 p.fresh; opened = 0; settled = p.settled }) tested (Some f) (e ∷ past)
begin-next tested f e past p opens old = record {
  places_are = old.places_are ∙ sym (places-awake tested S06 (applies_S06 tested.role) e past refl awake);
  due_are = λ r. old.fresh_are ∙ sym (counted-past (λ m. stood tested.role (e ∷ past) m && is_new tested (e ∷ past) m) e past (first-out (stood tested.role (e ∷ past) (newest e past)) (is_new tested (e ∷ past) (newest e past)) (standing (newest e past) ∙ none (latest_fate tested.role past)))
      ∙ count-among (λ m. stood tested.role (e ∷ past) m && is_new tested (e ∷ past) m) fresh (moments past) (λ m h. both (stood tested.role (e ∷ past) m) (is_new tested (e ∷ past) m) (stands tested.role (latest_fate tested.role past) past m) (is_new tested past m) (standing m) (still m)));
  fresh_are = go (begins (Some f)) refl;
  opened_are = sym (counted-past (λ m. stands tested.role (Some f) (e ∷ past) m && is_here (e ∷ past) m) e past (first-out (stands tested.role (Some f) (e ∷ past) (newest e past)) (is_here (e ∷ past) (newest e past)) idle)
      ∙ count-nothing (λ m. stands tested.role (Some f) (e ∷ past) m && is_here (e ∷ past) m) (moments past) (λ m h. ap (λ b. stands tested.role (Some f) (e ∷ past) m && b) (earlier m (among-within m past h)) ∙ and_false (stands tested.role (Some f) (e ∷ past) m)));
  settled_is = settled;
  settled_within = let a = old.settled_within in let b = opened-within past in let at : opened_at (e ∷ past) ≡ length past + 1 = ap (λ c. cond c (length past + 1) (opened_at past)) opens in omega (arith, a, b, at);
}
  where
    awake : is_binding tested.role (newest e past) ≡ false
    awake = open-awake tested e past opens

    fresh : Moment → Bool
    fresh m = stands tested.role (latest_fate tested.role past) past m && is_new tested past m

    standing : (m : Moment) → stood tested.role (e ∷ past) m ≡ stands tested.role (latest_fate tested.role past) past m
    standing m = ap (λ b. is_some_and (λ before. stands tested.role (latest_fate tested.role before) before m) (cond b (Some past) (before_latest past))) opens

    still : (m : Moment) → is_new tested (e ∷ past) m ≡ is_new tested past m
    still m = new-next tested e past m false (adds-awake tested e past (position m) awake) ∙ and-yes (is_new tested past m)

    -- an OPEN opens no identifier
    none : (o : Option Fate) → stands tested.role o past (newest e past) ≡ false
    none o = ap (is_some_and (λ i. is_unended (newest e past) (moves i) (session tested.role o past))) (open-moves e.note opens).0

    idle : stands tested.role (Some f) (e ∷ past) (newest e past) ≡ false
    idle = newest-idle tested.role f e past (open-moves e.note opens).0

    earlier : (m : Moment) → position m ≤ length past → is_here (e ∷ past) m ≡ false
    earlier m le = ap (λ b. nat_le (cond b (length past + 1) (opened_at past)) (position m)) opens ∙ not_true (nat_le (length past + 1) (position m)) (λ t. let at = leb-true (length past + 1) (position m) t in absurd (omega (arith, le, at)))

    kept : (m : Moment) → Among m (moments past) → stands tested.role (Some f) (e ∷ past) m ≡ (not (begins (Some f)) && stands tested.role (latest_fate tested.role past) past m)
    kept m h = stands-opened tested.role f e past m opens (among-within m past h)

    now : Moment → Bool
    now m = stands tested.role (Some f) (e ∷ past) m && is_new tested (e ∷ past) m

    go : (b : Bool) → begins (Some f) ≡ b → cond b 0 p.fresh ≡ count now (moments (e ∷ past))
    go true t = sym (counted-past now e past (first-out _ (is_new tested (e ∷ past) (newest e past)) idle)
        ∙ count-nothing now (moments past) (λ m h. first-out _ (is_new tested (e ∷ past) m) (kept m h ∙ ap (λ b. not b && stands tested.role (latest_fate tested.role past) past m) t)))
    go false t = old.fresh_are ∙ sym (counted-past now e past (first-out _ (is_new tested (e ∷ past) (newest e past)) idle)
        ∙ count-among now fresh (moments past) (λ m h. both (stands tested.role (Some f) (e ∷ past) m) (is_new tested (e ∷ past) m) (stands tested.role (latest_fate tested.role past) past m) (is_new tested past m)
        (kept m h ∙ ap (λ b. not b && stands tested.role (latest_fate tested.role past) past m) t) (still m)))

    settled : (m : Moment) → Among m (moments (e ∷ past)) → stands tested.role (Some f) (e ∷ past) m ≡ true → is_new tested (e ∷ past) m ≡ nat_le p.settled (position m)
    settled m (inl is) stands_m = absurd (let never : stands tested.role (Some f) (e ∷ past) m ≡ false = ap (stands tested.role (Some f) (e ∷ past)) is ∙ idle in cc)
    settled m (inr h) stands_m = still m ∙ old.settled_is m h (both_true (not (begins (Some f))) (stands tested.role (latest_fate tested.role past) past m) (sym (kept m h) ∙ stands_m)).1

-- ---- a REST settles

pub settle-next : (tested : Tested) (s : Inflight) (f : Fate) (at : ℕ) (e : Seen) (past : List Seen) (p q : ResumedPlaces) → IsUnder tested f at e past → IsUsing s tested (fate_before tested f e past) past
    → (settles f (at == e.place.position) s.ended e.note && (index_set_len s.unanswered == 0)) ≡ true → is_open e.note ≡ false → CountsResumed p tested (fate_before tested f e past) past → e.place.position < 4294967296
    → (p.counted + p.due < 4294967296 → q ≡ record { counted = p.counted + p.due; due = 0; fresh = p.opened; opened = p.opened; settled = s.opened }) → CountsResumed q tested (Some f) (e ∷ past)
settle-next tested s f at e past p q under u settling closed was small settled_to =
    subst (λ (r : ResumedPlaces). CountsResumed r tested (Some f) (e ∷ past)) (sym (settled_to bound)) record {
      places_are = sum;
      due_are = λ r. sym (counted-past (λ m. stood tested.role (e ∷ past) m && is_new tested (e ∷ past) m) e past (first-out _ (is_new tested (e ∷ past) (newest e past)) (newest-stood tested.role e past closed))
          ∙ count-nothing (λ m. stood tested.role (e ∷ past) m && is_new tested (e ∷ past) m) (moments past) (λ m h. both (stood tested.role (e ∷ past) m) (is_new tested (e ∷ past) m) (stood tested.role past m) (is_new tested past m && not (stood tested.role past m)) (stood-same m) (new-now m h) ∙ never (stood tested.role past m) (is_new tested past m)));
      fresh_are = old.opened_are ∙ sym (counted-past (λ m. stands tested.role (Some f) (e ∷ past) m && is_new tested (e ∷ past) m) e past (first-out _ (is_new tested (e ∷ past) (newest e past)) idle)
          ∙ count-among (λ m. stands tested.role (Some f) (e ∷ past) m && is_new tested (e ∷ past) m) opened (moments past) (λ m h. ap (λ b. b && is_new tested (e ∷ past) m) (kept m h) ∙ alike m h (stands tested.role (Some f) past m) refl));
      opened_are = old.opened_are ∙ sym (counted-past (λ m. stands tested.role (Some f) (e ∷ past) m && is_here (e ∷ past) m) e past (first-out _ (is_here (e ∷ past) (newest e past)) idle)
          ∙ count-among (λ m. stands tested.role (Some f) (e ∷ past) m && is_here (e ∷ past) m) opened (moments past) (λ m h. both (stands tested.role (Some f) (e ∷ past) m) (is_here (e ∷ past) m) (stands tested.role (Some f) past m) (is_here past m) (kept m h) (here m)));
      settled_is = settled_is;
      settled_within = let a = n.opened_is in let b = opened_same in omega (arith, a, b);
    }
  where
    old : CountsResumed p tested (Some f) past
    old = subst (λ b. CountsResumed p tested (cond b (latest_fate tested.role past) (Some f)) past) closed was

    n : IsUsing s tested (Some f) past
    n = subst (λ b. IsUsing s tested (cond b (latest_fate tested.role past) (Some f)) past) closed u

    parts : (resumes f ≡ true) × (binds_by f (at == e.place.position) s.ended e.note ≡ true)
    parts = both_true (resumes f) (binds_by f (at == e.place.position) s.ended e.note) (both_true (settles f (at == e.place.position) s.ended e.note) (index_set_len s.unanswered == 0) settling).0

    rest : is_rest e.note ≡ true
    rest = (both_true (is_rest e.note) ((at == e.place.position) && (accepts f && not s.ended)) parts.1).0

    opened : Moment → Bool
    opened m = stands tested.role (Some f) past m && is_here past m

    adds : (m : Moment) → Among m (moments past) → adds_place tested e past (position m) S06 ≡ stood tested.role past m
    adds m h = adds-stood tested s f at e past true under u (sym settling) m h

    new-now : (m : Moment) → Among m (moments past) → is_new tested (e ∷ past) m ≡ (is_new tested past m && not (stood tested.role past m))
    new-now m h = new-next tested e past m (stood tested.role past m) (adds m h)

    stood-same : (m : Moment) → stood tested.role (e ∷ past) m ≡ stood tested.role past m
    stood-same m = ap (λ b. is_some_and (λ before. stands tested.role (latest_fate tested.role before) before m) (cond b (Some past) (before_latest past))) closed

    opened_same : opened_at (e ∷ past) ≡ opened_at past
    opened_same = ap (λ b. cond b (length past + 1) (opened_at past)) closed

    here : (m : Moment) → is_here (e ∷ past) m ≡ is_here past m
    here m = ap (λ at. nat_le at (position m)) opened_same

    idle : stands tested.role (Some f) (e ∷ past) (newest e past) ≡ false
    idle = newest-idle tested.role f e past (rest-moves e.note rest).0

    -- a REST opens and closes nothing
    kept : (m : Moment) → Among m (moments past) → stands tested.role (Some f) (e ∷ past) m ≡ stands tested.role (Some f) past m
    kept m h = stands-next tested.role f e past m closed (among-within m past h) ∙ ap (λ o. stays tested.role f (cond (accepts f) o None) past m) (rest-moves e.note rest).1 ∙ unmoved (accepts f)
      where
        unmoved : (a : Bool) → stays tested.role f (cond a None None) past m ≡ stands tested.role (Some f) past m
        unmoved true = refl
        unmoved false = refl

    never : (a b : Bool) → (a && (b && not a)) ≡ false
    never true b = and_false b
    never false b = refl

    -- of what is open, that is new now which was opened on the connection
    new-here : (m : Moment) → Among m (moments past) → stands tested.role (Some f) past m ≡ true → (b : Bool) → is_here past m ≡ b → (is_new tested past m && not (stood tested.role past m)) ≡ b
    new-here m h stands_m true t =
        let late = leb-true (opened_at past) (position m) t in
        let within = old.settled_within in
        ap (λ b. b && not (stood tested.role past m)) (old.settled_is m h stands_m ∙ le-leb p.settled (position m) (omega (arith, late, within)))
        ∙ ap not (not_true (stood tested.role past m) (λ s. let lt = stood-before tested.role past m s in absurd (omega (arith, late, lt))))
    new-here m h stands_m false t =
        ap (λ b. is_new tested past m && not b) (stands-stood tested.role f past m parts.0 stands_m (leb-false (opened_at past) (position m) t)) ∙ and_false (is_new tested past m)

    alike : (m : Moment) → Among m (moments past) → (b : Bool) → stands tested.role (Some f) past m ≡ b → (stands tested.role (Some f) past m && is_new tested (e ∷ past) m) ≡ opened m
    alike m h true t = ap (λ b. stands tested.role (Some f) past m && b) (new-now m h ∙ new-here m h t (is_here past m) refl)
    alike m h false t = first-out _ (is_new tested (e ∷ past) m) t ∙ sym (first-out _ (is_here past m) t)

    settled_is : (m : Moment) → Among m (moments (e ∷ past)) → stands tested.role (Some f) (e ∷ past) m ≡ true → is_new tested (e ∷ past) m ≡ nat_le s.opened (position m)
    settled_is m (inl is) stands_m = absurd (let no_more : stands tested.role (Some f) (e ∷ past) m ≡ false = ap (stands tested.role (Some f) (e ∷ past)) is ∙ idle in cc)
    settled_is m (inr h) stands_m = new-now m h ∙ new-here m h (sym (kept m h) ∙ stands_m) (is_here past m) refl ∙ ap (λ o. nat_le o (position m)) (sym n.opened_is)

    turning : Moment → Bool
    turning m = adds_place tested e past (position m) S06 && not (applies tested past (position m) S06)

    sum : p.counted + p.due ≡ places tested (e ∷ past) S06
    sum =
        ap (λ c. c + p.due) old.places_are
        ∙ ap (λ c. places tested past S06 + c) (old.due_are parts.0 ∙ sym (counted-past turning e past (first-out _ (not (applies tested past (length past + 1) S06)) (adds-nothing-next tested e past))
        ∙ count-among turning (λ m. stood tested.role past m && is_new tested past m) (moments past) (λ m h. ap (λ b. b && is_new tested past m) (adds m h))))
        ∙ sym (places-step tested e past S06)

    bound : p.counted + p.due < 4294967296
    bound = let most = places-most tested (e ∷ past) S06 in let placed = under.follows.placed.0 in omega (arith, sum, most, placed, small)

-- ---- any other event

pub go-on-next : (tested : Tested) (s : Inflight) (f : Fate) (at : ℕ) (e : Seen) (past : List Seen) (p q : ResumedPlaces) (opens : Bool) (ended : Option ℕ) → IsUnder tested f at e past → IsUsing s tested (fate_before tested f e past) past
    → (settles f (at == e.place.position) s.ended e.note && (index_set_len s.unanswered == 0)) ≡ false → is_open e.note ≡ false → CountsResumed p tested (fate_before tested f e past) past → e.place.position < 4294967296
    → opens ≡ (accepts f && is_some (opener_of e.note)) → ended ≡ ended_at (value_under s.entries) (moved_on f e.note)
    → q.counted ≡ p.counted → q.due ≡ p.due → q.settled ≡ p.settled
    → (p.fresh < 4294967295 → q.fresh ≡ remaining p.settled opens ended p.fresh) → (p.opened < 4294967295 → q.opened ≡ remaining s.opened opens ended p.opened) → CountsResumed q tested (Some f) (e ∷ past)
go-on-next tested s f at e past p q opens ended under u settling closed was small opens_is ended_is same_counted same_due same_settled fresh_is opened_is = record {
  places_are = same_counted ∙ old.places_are ∙ sym sum;
  due_are = λ r. same_due ∙ old.due_are r ∙ sym (counted-past (λ m. stood tested.role (e ∷ past) m && is_new tested (e ∷ past) m) e past (first-out _ (is_new tested (e ∷ past) (newest e past)) (newest-stood tested.role e past closed))
      ∙ count-among (λ m. stood tested.role (e ∷ past) m && is_new tested (e ∷ past) m) (λ m. stood tested.role past m && is_new tested past m) (moments past) (λ m h. both (stood tested.role (e ∷ past) m) (is_new tested (e ∷ past) m) (stood tested.role past m) (is_new tested past m) (stood-same m) (still m h)));
  fresh_are = fresh_is (below p.fresh (λ m. stands tested.role (Some f) past m && is_new tested past m) old.fresh_are)
      ∙ left p.settled p.fresh (is_new tested past) (is_new tested (e ∷ past)) old.settled_is (newest-new tested e past) still old.fresh_are;
  opened_are = opened_is (below p.opened (λ m. stands tested.role (Some f) past m && is_here past m) old.opened_are)
      ∙ left s.opened p.opened (is_here past) (is_here (e ∷ past)) (λ m h t. ap (λ o. nat_le o (position m)) (sym n.opened_is)) newest-here (λ m h. here m) old.opened_are;
  settled_is = settled_is;
  settled_within = let a = old.settled_within in let b = opened_same in omega (arith, a, b, same_settled);
}
  where
    old : CountsResumed p tested (Some f) past
    old = subst (λ b. CountsResumed p tested (cond b (latest_fate tested.role past) (Some f)) past) closed was

    n : IsUsing s tested (Some f) past
    n = subst (λ b. IsUsing s tested (cond b (latest_fate tested.role past) (Some f)) past) closed u

    ms : List Moment
    ms = session tested.role (Some f) past

    still : (m : Moment) → Among m (moments past) → is_new tested (e ∷ past) m ≡ is_new tested past m
    still m h = new-next tested e past m false (adds-stood tested s f at e past false under u (sym settling) m h) ∙ and-yes (is_new tested past m)

    stood-same : (m : Moment) → stood tested.role (e ∷ past) m ≡ stood tested.role past m
    stood-same m = ap (λ b. is_some_and (λ before. stands tested.role (latest_fate tested.role before) before m) (cond b (Some past) (before_latest past))) closed

    opened_same : opened_at (e ∷ past) ≡ opened_at past
    opened_same = ap (λ b. cond b (length past + 1) (opened_at past)) closed

    here : (m : Moment) → is_here (e ∷ past) m ≡ is_here past m
    here m = ap (λ o. nat_le o (position m)) opened_same

    newest-here : is_here (e ∷ past) (newest e past) ≡ true
    newest-here = let w = opened-within past in let same = opened_same in le-leb (opened_at (e ∷ past)) (length past + 1) (omega (arith, w, same))

    below : (k : ℕ) (test : Moment → Bool) → k ≡ count test (moments past) → k < 4294967295
    below k test is = let most = count-most test past in let placed = under.follows.placed.0 in omega (arith, is, most, placed, small)

    -- what an event ends, by what is kept
    ended-kept : ended ≡ option_map (λ (x : Entry). x.place.position) (option_and_then (λ i. entry_in tested.role i ms) (moved_on f e.note))
    ended-kept = ended_is ∙ go (moved_on f e.note)
      where
        go : (o : Option ℕ) → ended_at (value_under s.entries) o ≡ option_map (λ (x : Entry). x.place.position) (option_and_then (λ i. entry_in tested.role i ms) o)
        go None = refl
        go (Some i) = ap (option_map (λ (x : Entry). x.place.position)) (n.entries_are i)

    left : (from k : ℕ) (test now : Moment → Bool) → ((m : Moment) → Among m (moments past) → stands tested.role (Some f) past m ≡ true → test m ≡ nat_le from (position m)) → now (newest e past) ≡ true
        → ((m : Moment) → Among m (moments past) → now m ≡ test m) → k ≡ count (λ m. stands tested.role (Some f) past m && test m) (moments past)
        → remaining from opens ended k ≡ count (λ m. stands tested.role (Some f) (e ∷ past) m && now m) (moments (e ∷ past))
    left from k test now told newest_now alike k_is =
        ap (λ o. cond opens 1 0 + (k - cond (is_some_and (nat_le from) o) 1 0)) ended-kept
        ∙ ap (λ c. cond opens 1 0 + (c - cond (is_some_and (nat_le from) (option_map (λ (x : Entry). x.place.position) (option_and_then (λ i. entry_in tested.role i ms) (moved_on f e.note)))) 1 0)) k_is
        ∙ ap (λ c. cond opens 1 0 + c) (sym (count-stays tested.role f past under.follows.placed.1 from test told (moved_on f e.note)))
        ∙ ap (λ c. cond opens 1 0 + c) (count-among (λ m. stays tested.role f (moved_on f e.note) past m && test m) (λ m. stands tested.role (Some f) (e ∷ past) m && now m) (moments past)
        (λ m h. both (stays tested.role f (moved_on f e.note) past m) (test m) (stands tested.role (Some f) (e ∷ past) m) (now m) (sym (stands-next tested.role f e past m closed (among-within m past h))) (sym (alike m h))))
        ∙ sym (counted-next (λ m. stands tested.role (Some f) (e ∷ past) m && now m) e past opens
        (both (stands tested.role (Some f) (e ∷ past) (newest e past)) (now (newest e past)) opens true (newest-stands tested.role f e past closed ∙ sym opens_is) newest_now ∙ and-yes opens))

    settled_is : (m : Moment) → Among m (moments (e ∷ past)) → stands tested.role (Some f) (e ∷ past) m ≡ true → is_new tested (e ∷ past) m ≡ nat_le q.settled (position m)
    settled_is m (inl is) stands_m =
        let at : position m ≡ length past + 1 = ap position is in
        let a = old.settled_within in
        let w = opened-within past in
        ap (is_new tested (e ∷ past)) is ∙ newest-new tested e past ∙ sym (le-leb q.settled (position m) (omega (arith, at, a, w, same_settled)))
    settled_is m (inr h) stands_m =
        still m h
        ∙ old.settled_is m h (stays-stands tested.role f (moved_on f e.note) past m (sym (stands-next tested.role f e past m closed (among-within m past h)) ∙ stands_m))
        ∙ ap (λ o. nat_le o (position m)) (sym same_settled)

    turning : Moment → Bool
    turning m = adds_place tested e past (position m) S06 && not (applies tested past (position m) S06)

    add-none : (k : ℕ) → k + 0 ≡ k
    add-none k = omega arith

    sum : places tested (e ∷ past) S06 ≡ places tested past S06
    sum =
        places-step tested e past S06
        ∙ ap (λ c. places tested past S06 + c) (counted-past turning e past (first-out _ (not (applies tested past (length past + 1) S06)) (adds-nothing-next tested e past))
        ∙ count-nothing turning (moments past) (λ m h. first-out _ (not (applies tested past (position m) S06)) (adds-stood tested s f at e past false under u (sym settling) m h)))
        ∙ add-none (places tested past S06)
