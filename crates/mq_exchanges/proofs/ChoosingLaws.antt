-- How often it is put to the test that answers are sent in the order of their causes.
use Rattle.std.proofs.Common.{◌≡◌, ℕ, ◌+◌, ◌<◌, ◌==◌, nat_eq, Bool, true, false, cond, ◌&&◌, ◌||◌, not, List, ◌∷◌, Option, Some, None, refl, ap, sym, ◌∙◌}
use Rattle.std.specs.Prelude.{is_some}
use Rattle.std.proofs.lemmas.Bool.{eq-eqb, eqb-true}
use Rattle.mq_log.specs.declared.place.Place3.{Place3}
use Rattle.mq_rules.specs.declared.role.Tested.{Tested}
use Rattle.mq_rules.specs.declared.fate.Fate.{Fate}
use Rattle.mq_rules.specs.declared.rule.Rule.{Rule}
use Rattle.mq_rules.specs.declared.note.Seen.{Seen}
use Rattle.mq_rules.specs.Words.{is_some_and, is_id}
use Rattle.mq_rules.specs.Notes.{is_open, is_release}
use Rattle.mq_rules.specs.Moments.{Moment, newest, note, position, is_same, some, since, Among}
use Rattle.mq_rules.specs.Connections.{connection, latest_fate, accepts}
use Rattle.mq_rules.specs.Exchanges.{Exchange, causes, answers, is_other_unanswered, applies_O}
use Rattle.mq_rules.specs.Rules.{binds}
use Rattle.mq_rules.specs.Statements.{in_session}
use Rattle.mq_rules.specs.Under.{IsUnder, fate_before}
use Rattle.mq_rules.specs.Occasions.{occasion, places_under}
use Rattle.mq_rules.proofs.Exports.{among-some, and_true, both_true, earliest_since-is, ids-some, same_test, some-among, some-id, stands-since}
use Rattle.mq_exchanges.specs.Answering.{IsApart}
use Rattle.mq_exchanges.specs.Owings.{due_of, place_of}
use Rattle.mq_exchanges.specs.Orderings.{chooses, is_other_due}
use Rattle.mq_fates.proofs.Exports.{counted-session, connection-descends, held, named}
use Rattle.mq_exchanges.proofs.OrderLaws.{first-before}

apart-too : (a b : ℕ) → not (a == b) ≡ true → not (b == a) ≡ true
apart-too a b h = go (b == a) refl
  where
    go : (c : Bool) → (b == a) ≡ c → not c ≡ true
    go false e = refl
    go true e = absurd (let same : (a == b) ≡ true = eq-eqb a b (sym (eqb-true b a e)) in let bad : false ≡ true = ap not (sym same) ∙ h in cc)

-- ---- what is due under another identifier

place-there : (o : Option Moment) → is_some (place_of o) ≡ is_some o
place-there None = refl
place-there (Some m) = refl

others-due : (x : Exchange) (due : ℕ → Option Place3) (i : ℕ) (e : Seen) (past : List Seen) → ((j : ℕ) → due j ≡ place_of (due_of x j past)) → ((j : ℕ) → is_some (due j) ≡ true → j < 65536)
    → some (is_other_unanswered x i (newest e past)) (connection past) ≡ is_other_due due i
others-due x due i e past are within =
    same_test (some test (connection past)) (is_other_due due i)
    (λ h. to (some-among test (connection past) h)) (λ h. from (some-id (λ other. not (nat_eq i other) && is_some (due other)) h))
  where
    test : Moment → Bool
    test j = is_other_unanswered x i (newest e past) j

    to : (j : Moment) × Among j (connection past) × (test j ≡ true) → is_other_due due i ≡ true
    to found =
        let j = found.0 in
        let h = held (λ other. not (other == i) && since (is_same j) (answers x other) (connection past)) (x.cause (note j)) found.2 in
        let other = h.0 in
        let both = both_true (not (other == i)) (since (is_same j) (answers x other) (connection past)) h.2 in
        let asks : is_id other (x.cause (note j)) ≡ true = ap (is_id other) h.1 ∙ eq-eqb other other refl in
        let f = first-before (causes x other) (answers x other) (connection past) j (connection-descends past) found.1 asks both.1 in
        let kept : is_some (due other) ≡ true = ap (λ (p : Option Place3). is_some p) (are other ∙ ap place_of f.is) in
        ids-some (λ o. not (nat_eq i o) && is_some (due o)) other (within other kept) (and_true (not (nat_eq i other)) (is_some (due other)) (apart-too other i both.0) kept)

    from : (other : ℕ) × ((not (nat_eq i other) && is_some (due other)) ≡ true) → some test (connection past) ≡ true
    from found = go (due_of x found.0 past) refl (ap (λ (p : Option Place3). is_some p) (sym (are found.0)) ∙ parts.1)
      where
        parts : (not (nat_eq i found.0) ≡ true) × (is_some (due found.0) ≡ true)
        parts = both_true (not (nat_eq i found.0)) (is_some (due found.0)) found.1

        go : (d : Option Moment) → due_of x found.0 past ≡ d → is_some (place_of d) ≡ true → some test (connection past) ≡ true
        go None h p = absurd (cc)
        go (Some j) h p =
            let r = earliest_since-is (causes x found.0) (answers x found.0) (connection past) j (connection-descends past) h in
            let kept : since (is_same j) (answers x found.0) (connection past) ≡ true = stands-since (is_same j) (answers x found.0) (connection past) (connection-descends past) (record { at = j; there = r.there; passes = eq-eqb (position j) (position j) refl; none_after = r.none_after }) in
            let other : test j ≡ true = ap (is_some_and (λ other. not (other == i) && since (is_same j) (answers x other) (connection past))) (named found.0 (x.cause (note j)) r.passes) ∙ and_true (not (found.0 == i)) (since (is_same j) (answers x found.0) (connection past)) (apart-too i found.0 parts.0) kept in
            among-some test (connection past) j r.there other

-- so an answer is a place by what is due
chooses-is : (x : Exchange) (due : ℕ → Option Place3) (e : Seen) (past : List Seen) → ((j : ℕ) → due j ≡ place_of (due_of x j past)) → ((j : ℕ) → is_some (due j) ≡ true → j < 65536)
    → applies_O x (newest e past) ≡ chooses due (x.answer e.note)
unfolding applies_O
chooses-is x due e past are within = go (x.answer e.note)
  where
    go : (o : Option ℕ) → is_some_and (λ i. is_some (due_of x i past) && some (is_other_unanswered x i (newest e past)) (connection past)) o ≡ chooses due o
    go None = refl
    go (Some i) =
        ap (λ b. b && some (is_other_unanswered x i (newest e past)) (connection past)) (sym (ap (λ (p : Option Place3). is_some p) (are i) ∙ place-there (due_of x i past)))
        ∙ ap (λ b. is_some (due i) && b) (others-due x due i e past are within)

-- ---- the places

pub ordered-places : (tested : Tested) (rule : Rule) (x : Exchange) → IsApart x → occasion tested.role rule ≡ Some (in_session (λ f. applies_O x)) → (f fate : Fate) (due : ℕ → Option Place3) (at : ℕ) (e : Seen) (past : List Seen) (here : Bool) (old new : ℕ)
    → IsUnder tested f at e past → fate_before tested f e past ≡ Some fate → (accepts fate ≡ true → (j : ℕ) → due j ≡ place_of (due_of x j past)) → ((j : ℕ) → is_some (due j) ≡ true → j < 65536)
    → old ≡ places_under tested (fate_before tested f e past) past rule → here ≡ (binds rule tested && (accepts f && chooses due (x.answer e.note)))
    → (old < e.place.position → new ≡ cond here 1 0 + old) → new ≡ places_under tested (Some f) (e ∷ past) rule
unfolding applies_O
ordered-places tested rule x packets says f fate due at e past here old new under before are within was is more =
    counted-session tested rule (λ f. applies_O x) says f at e past here old new under was
    (is ∙ ap (λ b. binds rule tested && b) (sym (go (is_open e.note) refl before (accepts f) refl))) more
  where
    none : is_open e.note ≡ true → x.answer e.note ≡ None
    none n = (packets.none e.note (ap (λ b. b || is_release e.note) n)).1

    empty : x.answer e.note ≡ None → applies_O x (newest e past) ≡ chooses due (x.answer e.note)
    empty h = ap (is_some_and (λ i. is_some (due_of x i past) && some (is_other_unanswered x i (newest e past)) (connection past))) h ∙ sym (ap (chooses due) h)

    go : (b : Bool) → is_open e.note ≡ b → cond b (latest_fate tested.role past) (Some f) ≡ Some fate → (a : Bool) → accepts f ≡ a → (a && applies_O x (newest e past)) ≡ (a && chooses due (x.answer e.note))
    go b n h false c = refl
    go true n h true c = empty (none n)
    go false n h true c =
        let one : f ≡ fate = cc in
        chooses-is x due e past (are (ap accepts (sym one) ∙ c)) within
