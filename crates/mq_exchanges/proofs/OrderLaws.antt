-- An answer that passes over what is due: for O.
use Rattle.std.proofs.Common.{◌≡◌, ℕ, ◌<◌, ◌≤◌, ◌==◌, nat_lt, arith, Bool, true, false, cond, ◌&&◌, ◌||◌, not, List, ◌∷◌, Option, Some, None, refl, ap, sym, ◌∙◌}
use Rattle.std.specs.Prelude.{is_some}
use Rattle.std.proofs.lemmas.Bool.{eq-eqb, eqb-true, ltb-true, lt-ltb, ltb-false}
use Rattle.mq_log.specs.declared.place.Place3.{Place3}
use Rattle.mq_rules.specs.declared.role.Tested.{Tested}
use Rattle.mq_rules.specs.declared.rule.Rule.{Rule}
use Rattle.mq_rules.specs.declared.fate.Fate.{Fate}
use Rattle.mq_rules.specs.declared.note.Seen.{Seen}
use Rattle.mq_rules.specs.Words.{is_some_and, is_id}
use Rattle.mq_rules.specs.Notes.{is_open, is_release}
use Rattle.mq_rules.specs.Moments.{Moment, newest, note, position, is_next, is_same, is_after, some, since, earliest_since, Among, IsDescending, IsEarliestSince, IsPlaced}
use Rattle.mq_rules.specs.Connections.{connection, latest_fate, accepts}
use Rattle.mq_rules.specs.Exchanges.{Exchange, causes, answers, is_other_unanswered, breaks_O}
use Rattle.mq_rules.specs.Rules.{binds, same_rule}
use Rattle.mq_rules.specs.Statements.{statement, in_session}
use Rattle.mq_rules.specs.Faults.{offset_of}
use Rattle.mq_rules.specs.FaultKeys.{FaultMap}
use Rattle.mq_rules.proofs.Exports.{among-some, and_true, both_true, earliest_since-is, earliest_since-there, gains_nothing, moment-placed, same_test, since-stands, some-among, stands-since, there}
use Rattle.mq_exchanges.specs.declared.ordering.Debt.{Debt}
use Rattle.mq_rules.specs.Under.{fate_before, turns_with}
use Rattle.mq_rules.specs.Growing.{Gains}
use Rattle.mq_exchanges.specs.Answering.{IsApart}
use Rattle.mq_exchanges.specs.Owings.{due_of, place_of}
use Rattle.mq_exchanges.specs.Orderings.{from_due, looked_at, is_passed, passes_over, ordered_by, IsQueue}
use Rattle.mq_fates.proofs.Exports.{session-turns_with, gains_judged, connection-descends, held, named}
use Rattle.mq_exchanges.proofs.OwedLaws.{due-moment}
use Rattle.mq_exchanges.proofs.QueueLaws.{passed-earlier, earlier-passed}

-- ---- the first cause without an answer

-- A first moment that stands no later than this one.
pub record HasFirst (starts ends : Moment → Bool) (ms : List Moment) (j : Moment) : Type 0 where
  pub first : Moment
  pub is : earliest_since starts ends ms ≡ Some first
  pub within : position first ≤ position j

pub first-before : (starts ends : Moment → Bool) (ms : List Moment) (j : Moment) → IsDescending ms → Among j ms → starts j ≡ true → since (is_same j) ends ms ≡ true → HasFirst starts ends ms j
first-before starts ends ms j d among passes kept =
    let s = since-stands (is_same j) ends ms d kept in
    let same : position j ≡ position s.at = eqb-true (position j) (position s.at) s.passes in
    let none : (n : Moment) → Among n ms → position j < position n → ends n ≡ false = λ n h lt. s.none_after n h (omega arith) in
    let stands : since starts ends ms ≡ true = stands-since starts ends ms d (record { at = j; there = among; passes = passes; none_after = none }) in
    let f = there (earliest_since starts ends ms) (earliest_since-there starts ends ms ∙ stands) in
    record { first = f.0; is = f.1; within = go f.0 (earliest_since-is starts ends ms f.0 d f.1) none (nat_lt (position j) (position f.0)) refl }
  where
    go : (f : Moment) → IsEarliestSince starts ends ms f → ((n : Moment) → Among n ms → position j < position n → ends n ≡ false) → (b : Bool) → nat_lt (position j) (position f) ≡ b → position f ≤ position j
    go f r none false h = ltb-false (position j) (position f) h
    go f r none true h = absurd (
        let l = r.others_end j among (ltb-true (position j) (position f) h) passes in
        let never : ends l.0 ≡ false = none l.0 l.1 l.2 in
        let ever : ends l.0 ≡ true = l.3 in
        cc)

placed_at : (x : Exchange) (past : List Seen) → IsPlaced past → (i : ℕ) (m : Moment) → due_of x i past ≡ Some m → m.event.place.position ≡ position m
placed_at x past placed i m h = moment-placed past (position m) m placed (due-moment x i past m h)

-- ---- an answer passes over what is due

passed : (x : Exchange) (due : ℕ → Option Place3) (q : List Debt) (n : ℕ) (e : Seen) (past : List Seen) → IsPlaced past → IsQueue due q n → ((i : ℕ) → due i ≡ place_of (due_of x i past)) → (i : ℕ) (first : Moment) → due_of x i past ≡ Some first
    → some (λ j. is_other_unanswered x i (newest e past) j && is_after first j) (connection past) ≡ is_passed i (from_due due q)
passed x due q n e past placed queue are i first is =
    same_test (some test (connection past)) (is_passed i (from_due due q)) (λ h. to (some-among test (connection past) h)) (λ h. from (passed-earlier due q n i first.event.place queue mine h))
  where
    test : Moment → Bool
    test j = is_other_unanswered x i (newest e past) j && is_after first j

    mine : due i ≡ Some first.event.place
    mine = are i ∙ ap place_of is

    spot : first.event.place.position ≡ position first
    spot = placed_at x past placed i first is

    to : (j : Moment) × Among j (connection past) × (test j ≡ true) → is_passed i (from_due due q) ≡ true
    to found =
        let j = found.0 in
        let parts = both_true (is_other_unanswered x i (newest e past) j) (is_after first j) found.2 in
        let h = held (λ other. not (other == i) && since (is_same j) (answers x other) (connection past)) (x.cause (note j)) parts.0 in
        let other = h.0 in
        let both = both_true (not (other == i)) (since (is_same j) (answers x other) (connection past)) h.2 in
        let asks : is_id other (x.cause (note j)) ≡ true = ap (is_id other) h.1 ∙ eq-eqb other other refl in
        let f = first-before (causes x other) (answers x other) (connection past) j (connection-descends past) found.1 asks both.1 in
        let at : f.first.event.place.position ≡ position f.first = placed_at x past placed other f.first f.is in
        let early : position j < position first = ltb-true (position j) (position first) parts.1 in
        let le : position f.first ≤ position j = f.within in
        let mark : first.event.place.position ≡ position first = spot in
        earlier-passed due q n i first.event.place queue mine other f.first.event.place (are other ∙ ap place_of f.is) both.0 (omega arith)

    from : (other : ℕ) × (o : Place3) × (due other ≡ Some o) × (not (other == i) ≡ true) × (o.position < first.event.place.position) → some test (connection past) ≡ true
    from found = go (due_of x found.0 past) refl (sym (are found.0) ∙ found.2)
      where
        go : (d : Option Moment) → due_of x found.0 past ≡ d → place_of d ≡ Some found.1 → some test (connection past) ≡ true
        go None h p = absurd (cc)
        go (Some j) h p =
            let r = earliest_since-is (causes x found.0) (answers x found.0) (connection past) j (connection-descends past) h in
            let kept : since (is_same j) (answers x found.0) (connection past) ≡ true = stands-since (is_same j) (answers x found.0) (connection past) (connection-descends past) (record { at = j; there = r.there; passes = eq-eqb (position j) (position j) refl; none_after = r.none_after }) in
            let at : j.event.place.position ≡ position j = placed_at x past placed found.0 j h in
            let place : j.event.place ≡ found.1 = cc in
            let where_at : found.1.position ≡ position j = ap (λ (y : Place3). y.position) (sym place) ∙ at in
            let lt : found.1.position < first.event.place.position = found.4 in
            let mark : first.event.place.position ≡ position first = spot in
            let early : is_after first j ≡ true = lt-ltb (position j) (position first) (omega arith) in
            let others : is_other_unanswered x i (newest e past) j ≡ true = ap (is_some_and (λ other. not (other == i) && since (is_same j) (answers x other) (connection past))) (named found.0 (x.cause (note j)) r.passes) ∙ and_true (not (found.0 == i)) (since (is_same j) (answers x found.0) (connection past)) found.3 kept in
            among-some test (connection past) j r.there (and_true (is_other_unanswered x i (newest e past) j) (is_after first j) others early)

order-is : (x : Exchange) (due : ℕ → Option Place3) (q : List Debt) (n : ℕ) (e : Seen) (past : List Seen) → IsPlaced past → IsQueue due q n → ((i : ℕ) → due i ≡ place_of (due_of x i past))
    → breaks_O x (newest e past) ≡ passes_over due (x.answer e.note) (looked_at due (x.answer e.note) q)
unfolding breaks_O
order-is x due q n e past placed queue are = go (x.answer e.note)
  where
    broken : ℕ → Bool
    broken i = is_some_and (λ first. some (λ j. is_other_unanswered x i (newest e past) j && is_after first j) (connection past)) (due_of x i past)

    by : (i : ℕ) (o : Option Moment) → due_of x i past ≡ o → is_some_and (λ first. some (λ j. is_other_unanswered x i (newest e past) j && is_after first j) (connection past)) o ≡ (is_some (place_of o) && is_passed i (from_due due q))
    by i None h = refl
    by i (Some first) h = passed x due q n e past placed queue are i first h

    go : (o : Option ℕ) → is_some_and broken o ≡ passes_over due o (looked_at due o q)
    go None = refl
    go (Some i) = by i (due_of x i past) refl ∙ ap (λ o. is_some o && is_passed i (from_due due q)) (sym (are i))

-- ---- the faults

O-turns : (tested : Tested) (rule : Rule) (x : Exchange) → IsApart x → statement tested.role rule ≡ in_session (λ f. breaks_O x) → (f fate : Fate) (due : ℕ → Option Place3) (q : List Debt) (n : ℕ) (e : Seen) (past : List Seen) → IsPlaced past
    → fate_before tested f e past ≡ Some fate → (accepts fate ≡ true → IsQueue due q n) → (accepts fate ≡ true → (i : ℕ) → due i ≡ place_of (due_of x i past))
    → (k : ℕ) → turns_with tested f e past k rule ≡ (is_next past k && (binds rule tested && (accepts f && passes_over due (x.answer e.note) (looked_at due (x.answer e.note) q))))
unfolding breaks_O
O-turns tested rule x packets says f fate due q n e past placed before queue are k =
    session-turns_with tested rule (λ f. breaks_O x) says f e past k ∙ ap (λ b. is_next past k && (binds rule tested && b)) (go (is_open e.note) refl before (accepts f) refl)
  where
    passes : Option ℕ → Bool
    passes o = passes_over due o (looked_at due o q)

    none : is_open e.note ≡ true → x.answer e.note ≡ None
    none n = (packets.none e.note (ap (λ b. b || is_release e.note) n)).1

    empty : x.answer e.note ≡ None → breaks_O x (newest e past) ≡ passes (x.answer e.note)
    empty h = ap (is_some_and (λ i. is_some_and (λ first. some (λ j. is_other_unanswered x i (newest e past) j && is_after first j) (connection past)) (due_of x i past))) h ∙ sym (ap passes h)

    go : (b : Bool) → is_open e.note ≡ b → cond b (latest_fate tested.role past) (Some f) ≡ Some fate → (a : Bool) → accepts f ≡ a → (a && breaks_O x (newest e past)) ≡ (a && passes (x.answer e.note))
    go b w h false c = refl
    go true w h true c = empty (none w)
    go false w h true c =
        let one : f ≡ fate = cc in
        let ok : accepts fate ≡ true = ap accepts (sym one) ∙ c in
        order-is x due q n e past placed (queue ok) (are ok)

pub order-gains : (tested : Tested) (o : Option Rule) (x : Exchange) → IsApart x → ((rule : Rule) → o ≡ Some rule → statement tested.role rule ≡ in_session (λ f. breaks_O x)) → (f fate : Fate) (due : ℕ → Option Place3) (q : List Debt) (n at : ℕ) (e : Seen) (past : List Seen) (m : FaultMap) (bound b : Bool)
    → IsPlaced (e ∷ past) → fate_before tested f e past ≡ Some fate → (is_some o ≡ true → accepts fate ≡ true → IsQueue due q n) → (accepts fate ≡ true → (i : ℕ) → due i ≡ place_of (due_of x i past))
    → bound ≡ is_some_and (λ rule. binds rule tested) o → b ≡ (bound && (accepts f && passes_over due (x.answer e.note) (looked_at due (x.answer e.note) q)))
    → Gains (λ k r. is_some_and (same_rule r) o && turns_with tested f e past k r) tested (e ∷ past) at m (ordered_by o b e.place at m)
order-gains tested None x packets says f fate due q n at e past m bound b placed before queue are binding is = gains_nothing (λ k r. false && turns_with tested f e past k r) tested (e ∷ past) at m (λ k r. refl)
order-gains tested (Some rule) x packets says f fate due q n at e past m bound b placed before queue are binding is =
    gains_judged tested rule f e past at m b (λ m. ap (λ s. offset_of s m) (says rule refl)) placed.0 (λ k.
    O-turns tested rule x packets (says rule refl) f fate due q n e past placed.1 before (queue refl) are k
    ∙ ap (λ c. is_next past k && (c && (accepts f && passes_over due (x.answer e.note) (looked_at due (x.answer e.note) q)))) (sym binding)
    ∙ ap (λ c. is_next past k && c) (sym is))
