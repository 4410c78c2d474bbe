-- What is owed on a connection.
use Rattle.std.proofs.Common.{◌≡◌, ℕ, zero, suc, ◌+◌, ◌<◌, ◌≤◌, ◌==◌, nat_eq, Bool, true, false, cond, ◌&&◌, ◌||◌, not, List, [], ◌∷◌, ◌++◌, length, Option, Some, None, refl, ap, sym, ◌∙◌, subst, arith}
use Rattle.std.specs.Prelude.{is_some}
use Rattle.std.specs.Option.{option_or, option_to_list}
use Rattle.std.proofs.lemmas.Bool.{eqb-true, eq-eqb}
use Rattle.std.proofs.lemmas.Bool.Decides.{nat_tests}
use Rattle.mq_log.specs.declared.place.Place3.{Place3}
use Rattle.mq_rules.specs.declared.role.Tested.{Tested}
use Rattle.mq_rules.specs.declared.rule.Rule.{Rule}
use Rattle.mq_rules.specs.declared.fate.Fate.{Fate}
use Rattle.mq_rules.specs.declared.note.Seen.{Seen}
use Rattle.mq_rules.specs.Words.{is_some_and, is_id}
use Rattle.mq_rules.specs.Notes.{is_open, is_rest, is_release}
use Rattle.mq_rules.specs.Moments.{Moment, newest, note, moment, position, is_same, since, earliest_since, IsPlaced}
use Rattle.mq_rules.specs.Connections.{connection, latest_fate, accepts, ends_binding, is_binding}
use Rattle.mq_rules.specs.Exchanges.{Exchange, causes, answers, first_unanswered, shows_R}
use Rattle.mq_rules.specs.Rules.{binds, same_rule}
use Rattle.mq_rules.specs.Statements.{statement, at_rest}
use Rattle.mq_rules.specs.Faults.{reported, offset_of}
use Rattle.mq_rules.specs.FaultKeys.{FaultMap}
use Rattle.mq_rules.specs.KeptOrder.{found_from, values_of}
use Rattle.mq_rules.proofs.Exports.{both_true, connection-newest as connection-next, differ, moment-newest-of-step as moment-newest, moment-placed, moment-stays, moment-within, not_true, rest-opens-nothing, some-next}
use Rattle.mq_rules.specs.Under.{IsUnder, fate_before, shows_with, turns_with}
use Rattle.mq_rules.specs.Growing.{Gains}
use Rattle.mq_fates.specs.Taking.{ends_by, binds_by}
use Rattle.mq_exchanges.specs.Owings.{due_of, place_of, due_next, IsOwed}
use Rattle.mq_fates.specs.Judgements.{blamed}
use Rattle.mq_exchanges.specs.Answering.{IsApart}
use Rattle.mq_fates.proofs.Exports.{binding-under, place_at, blame_of, gains_blamed, gains_none}

-- ---- what is due, with one event more

due_of-next : (x : Exchange) (i : ℕ) (e : Seen) (past : List Seen) → due_of x i (e ∷ past) ≡ option_or (cond (is_id i (x.answer e.note)) None (cond (is_open e.note) None (due_of x i past))) (cond (is_id i (x.cause e.note)) (Some (newest e past)) None)
due_of-next x i e past = ap (earliest_since (causes x i) (answers x i)) (connection-next e past) ∙ go (is_open e.note)
  where
    go : (b : Bool) → option_or (cond (is_id i (x.answer e.note)) None (earliest_since (causes x i) (answers x i) (cond b [] (connection past)))) (cond (is_id i (x.cause e.note)) (Some (newest e past)) None)
        ≡ option_or (cond (is_id i (x.answer e.note)) None (cond b None (due_of x i past))) (cond (is_id i (x.cause e.note)) (Some (newest e past)) None)
    go true = refl
    go false = refl

places-next : (x : Exchange) (i : ℕ) (e : Seen) (past : List Seen) → place_of (due_of x i (e ∷ past)) ≡ due_next e.note (x.cause e.note) (x.answer e.note) e.place i (place_of (due_of x i past))
places-next x i e past = ap place_of (due_of-next x i e past) ∙ go (is_id i (x.answer e.note)) (is_open e.note) (due_of x i past) (is_id i (x.cause e.note))
  where
    go : (b a : Bool) (o : Option Moment) (c : Bool) → place_of (option_or (cond b None (cond a None o)) (cond c (Some (newest e past)) None)) ≡ option_or (cond b None (cond a None (place_of o))) (cond c (Some e.place) None)
    go true a o true = refl
    go true a o false = refl
    go false true o true = refl
    go false true o false = refl
    go false false (Some m) c = refl
    go false false None true = refl
    go false false None false = refl

-- what is due is a moment of the log
pub due-moment : (x : Exchange) (i : ℕ) (past : List Seen) (d : Moment) → due_of x i past ≡ Some d → moment past (position d) ≡ Some d
due-moment x i [] d h = absurd (cc)
due-moment x i (e ∷ past) d h = go (is_id i (x.answer e.note)) (is_open e.note) (due_of x i past) (λ m p. due-moment x i past m p) refl (is_id i (x.cause e.note)) (sym (due_of-next x i e past) ∙ h)
  where
    new : newest e past ≡ d → moment (e ∷ past) (position d) ≡ Some d
    new same = subst (λ (n : Moment). moment (e ∷ past) (position n) ≡ Some n) same (moment-newest e past)

    go : (b a : Bool) (o : Option Moment) → ((m : Moment) → due_of x i past ≡ Some m → moment past (position m) ≡ Some m) → due_of x i past ≡ o → (c : Bool)
        → option_or (cond b None (cond a None o)) (cond c (Some (newest e past)) None) ≡ Some d → moment (e ∷ past) (position d) ≡ Some d
    go true a o rest p true h = let same : newest e past ≡ d = cc in new same
    go true a o rest p false h = absurd (cc)
    go false true o rest p true h = let same : newest e past ≡ d = cc in new same
    go false true o rest p false h = absurd (cc)
    go false false (Some m) rest p c h = let same : m ≡ d = cc in subst (λ (n : Moment). moment (e ∷ past) (position n) ≡ Some n) same (moment-stays e past (position m) m (rest m p))
    go false false None rest p true h = let same : newest e past ≡ d = cc in new same
    go false false None rest p false h = absurd (cc)

-- m is the first cause of i on the latest connection of these without an answer
abbrev is_due : Exchange → ℕ → List Seen → Moment → Bool
is_due x i past m = is_id i (x.cause (note m)) && (not (is_some (due_of x i m.past)) && since (is_same m) (answers x i) (connection past))

due-is : (x : Exchange) → IsApart x → (i k : ℕ) (past : List Seen) → is_some_and (is_due x i past) (moment past k) ≡ is_some_and (λ d. k == position d) (due_of x i past)
due-is x apart i k [] = refl
due-is x apart i k (e ∷ past) = by_next (k == length past + 1) refl (due-is x apart i k past) ∙ ap at_k (sym (due_of-next x i e past))
  where
    t : Moment
    t = newest e past

    a : Bool
    a = is_open e.note

    b : Bool
    b = is_id i (x.answer e.note)

    c : Bool
    c = is_id i (x.cause e.note)

    o : Option Moment
    o = due_of x i past

    at_k : Option Moment → Bool
    at_k o = is_some_and (λ (d : Moment). k == position d) o

    -- at the newest position
    here : (k == length past + 1) ≡ true → (y : Bool) → b ≡ y → (z : Bool) → a ≡ z → (q : Option Moment) → o ≡ q → (w : Bool) → c ≡ w
        → (w && (not (is_some q) && true)) ≡ at_k (option_or (cond y None (cond z None q)) (cond w (Some t) None))
    here n y h z g q p false u = go y z q p
      where
        go : (y z : Bool) (q : Option Moment) → o ≡ q → false ≡ at_k (option_or (cond y None (cond z None q)) None)
        go true z q p = refl
        go false true q p = refl
        go false false None p = refl
        go false false (Some d) p =
            let le : position d ≤ length past = moment-within past (position d) d (due-moment x i past d p) in
            let at : k ≡ length past + 1 = eqb-true k (length past + 1) n in
            sym (differ k (position d) (λ same. absurd (omega arith)))
    here n true h z g q p true u = absurd (let bad : is_id i (x.answer e.note) ≡ false = apart.apart e.note i u in cc)
    here n false h true g q p true u = absurd (let none : x.cause e.note ≡ None = (apart.none e.note (ap (λ b. b || is_release e.note) g)).0 in let bad : is_id i (x.cause e.note) ≡ false = ap (is_id i) none in cc)
    here n false h false g (Some d) p true u =
        let le : position d ≤ length past = moment-within past (position d) d (due-moment x i past d p) in
        let at : k ≡ length past + 1 = eqb-true k (length past + 1) n in
        sym (differ k (position d) (λ same. absurd (omega arith)))
    here n false h false g None p true u = sym n

    newest_due : (k == length past + 1) ≡ true → is_due x i (e ∷ past) t ≡ at_k (option_or (cond b None (cond a None o)) (cond c (Some t) None))
    newest_due n =
        ap (λ ms. c && (not (is_some o) && since (is_same t) (answers x i) ms)) (connection-next e past)
        ∙ ap (λ y. c && (not (is_some o) && (y || (not b && since (is_same t) (answers x i) (cond a [] (connection past)))))) (eq-eqb (position t) (position t) refl)
        ∙ here n b refl a refl o refl c refl

    -- at an earlier one
    shrunk : (y z u v : Bool) (ms : List Moment) (m : Moment) → (u && (v && (false || (not y && since (is_same m) (answers x i) (cond z [] ms))))) ≡ cond y false (cond z false (u && (v && since (is_same m) (answers x i) ms)))
    shrunk true z true true ms m = refl
    shrunk true z true false ms m = refl
    shrunk true z false v ms m = refl
    shrunk false true true true ms m = refl
    shrunk false true true false ms m = refl
    shrunk false true false v ms m = refl
    shrunk false false u v ms m = refl

    older : (m : Moment) → moment past k ≡ Some m → is_due x i (e ∷ past) m ≡ cond b false (cond a false (is_due x i past m))
    older m at =
        let le : position m ≤ length past = moment-within past k m at in
        ap (λ ms. is_id i (x.cause (note m)) && (not (is_some (due_of x i m.past)) && since (is_same m) (answers x i) ms)) (connection-next e past)
        ∙ ap (λ y. is_id i (x.cause (note m)) && (not (is_some (due_of x i m.past)) && (y || (not b && since (is_same m) (answers x i) (cond a [] (connection past)))))) (differ (position m) (length past + 1) (λ q. absurd (omega arith)))
        ∙ shrunk b a (is_id i (x.cause (note m))) (not (is_some (due_of x i m.past))) (connection past) m

    nothing : (y z : Bool) → cond y false (cond z false false) ≡ false
    nothing true z = refl
    nothing false true = refl
    nothing false false = refl

    each : (q : Option Moment) → moment past k ≡ q → is_some_and (is_due x i (e ∷ past)) q ≡ cond b false (cond a false (is_some_and (is_due x i past) q))
    each None h = sym (nothing b a)
    each (Some m) h = older m h

    later : (k == length past + 1) ≡ false → (y z : Bool) (q : Option Moment) (w : Bool) → cond y false (cond z false (at_k q)) ≡ at_k (option_or (cond y None (cond z None q)) (cond w (Some t) None))
    later n true z q true = sym n
    later n true z q false = refl
    later n false true q true = sym n
    later n false true q false = refl
    later n false false (Some d) w = refl
    later n false false None true = sym n
    later n false false None false = refl

    by_next : (n : Bool) → (k == length past + 1) ≡ n → is_some_and (is_due x i past) (moment past k) ≡ at_k o
        → is_some_and (is_due x i (e ∷ past)) (cond n (Some t) (moment past k)) ≡ at_k (option_or (cond b None (cond a None o)) (cond c (Some t) None))
    by_next true n rest = newest_due n
    by_next false n rest = each (moment past k) refl ∙ ap (λ y. cond b false (cond a false y)) rest ∙ later n b a o c

-- ---- a binding REST shows exactly what is due

of_shown : (x : Exchange) (e : Seen) (past : List Seen) (q : Option Moment) → is_some_and (shows_R x (newest e past)) q ≡ true → (i : ℕ) × (is_some_and (is_due x i past) q ≡ true)
unfolding shows_R
of_shown x e past None h = absurd (cc)
of_shown x e past (Some m) h = go (x.cause (note m)) refl h
  where
    go : (c : Option ℕ) → x.cause (note m) ≡ c → is_some_and (λ i. not (is_some (first_unanswered x i m)) && since (is_same m) (answers x i) (connection past)) c ≡ true → (i : ℕ) × (is_some_and (is_due x i past) (Some m) ≡ true)
    go None q h = absurd (cc)
    go (Some i) q h = (
      i,
      ap (λ c. is_id i c && (not (is_some (first_unanswered x i m)) && since (is_same m) (answers x i) (connection past))) q
          ∙ ap (λ b. b && (not (is_some (first_unanswered x i m)) && since (is_same m) (answers x i) (connection past))) (eq-eqb i i refl) ∙ h,
    )

to_shown : (x : Exchange) (e : Seen) (past : List Seen) (q : Option Moment) (i : ℕ) → is_some_and (is_due x i past) q ≡ true → is_some_and (shows_R x (newest e past)) q ≡ true
unfolding shows_R
to_shown x e past None i h = absurd (cc)
to_shown x e past (Some m) i h = go (x.cause (note m)) (both_true (is_id i (x.cause (note m))) (not (is_some (first_unanswered x i m)) && since (is_same m) (answers x i) (connection past)) h)
  where
    go : (c : Option ℕ) → (is_id i c ≡ true) × ((not (is_some (first_unanswered x i m)) && since (is_same m) (answers x i) (connection past)) ≡ true)
        → is_some_and (λ i. not (is_some (first_unanswered x i m)) && since (is_same m) (answers x i) (connection past)) c ≡ true
    go None h = absurd (let n = h.0 in cc)
    go (Some j) h =
        let same : i ≡ j = eqb-true i j h.0 in
        ap (λ j. not (is_some (first_unanswered x j m)) && since (is_same m) (answers x j) (connection past)) (sym same) ∙ h.1

shown-due : (x : Exchange) → IsApart x → (e : Seen) (past : List Seen) (k : ℕ) → is_some_and (shows_R x (newest e past)) (moment past k) ≡ true → (i : ℕ) × (d : Moment) × (due_of x i past ≡ Some d) × (k ≡ position d)
shown-due x apart e past k h =
    let shown = of_shown x e past (moment past k) h in
    go shown.0 (due_of x shown.0 past) refl (sym (due-is x apart shown.0 k past) ∙ shown.1)
  where
    go : (i : ℕ) (o : Option Moment) → due_of x i past ≡ o → is_some_and (λ (d : Moment). k == position d) o ≡ true → (i : ℕ) × (d : Moment) × (due_of x i past ≡ Some d) × (k ≡ position d)
    go i None p h = absurd (cc)
    go i (Some d) p h = (i, d, p, eqb-true k (position d) h)

due-shown : (x : Exchange) → IsApart x → (e : Seen) (past : List Seen) (i : ℕ) (d : Moment) → due_of x i past ≡ Some d → is_some_and (shows_R x (newest e past)) (moment past (position d)) ≡ true
due-shown x apart e past i d h = to_shown x e past (moment past (position d)) i
    (due-is x apart i (position d) past ∙ ap (is_some_and (λ (n : Moment). position d == position n)) h ∙ eq-eqb (position d) (position d) refl)

-- ---- what is due, in the order of the identifiers

found-value : (k : ℕ) (due : ℕ → Option Place3) (start n : ℕ) (p : Place3) → place_at k (found_from due start n) ≡ Some p → (i : ℕ) × (due i ≡ Some p) × (k ≡ p.position)
unfolding found_from
found-value k due start zero p h = absurd (cc)
found-value k due start (suc n) p h = go (due start) refl h (found-value k due (start + 1) n p)
  where
    rest : List Place3
    rest = found_from due (start + 1) n

    here : (q : Place3) (b : Bool) → due start ≡ Some q → (k == q.position) ≡ b → cond b (Some q) (place_at k rest) ≡ Some p → (place_at k rest ≡ Some p → (i : ℕ) × (due i ≡ Some p) × (k ≡ p.position)) → (i : ℕ) × (due i ≡ Some p) × (k ≡ p.position)
    here q true is at h further = let same : q ≡ p = cc in (start, is ∙ h, eqb-true k q.position at ∙ ap (λ (x : Place3). x.position) same)
    here q false is at h further = further h

    go : (o : Option Place3) → due start ≡ o → place_at k (option_to_list o ++ rest) ≡ Some p → (place_at k rest ≡ Some p → (i : ℕ) × (due i ≡ Some p) × (k ≡ p.position)) → (i : ℕ) × (due i ≡ Some p) × (k ≡ p.position)
    go None is h further = further h
    go (Some q) is h further = here q (k == q.position) is refl h further

value-found : (k i : ℕ) (due : ℕ → Option Place3) (start n : ℕ) (p : Place3) → due i ≡ Some p → k ≡ p.position → start ≤ i → i < start + n → is_some (place_at k (found_from due start n)) ≡ true
unfolding found_from
value-found k i due start zero p h at low high = absurd (omega (arith, low, high))
value-found k i due start (suc n) p h at low high = go (nat_eq start i) refl (λ more. value-found k i due (start + 1) n p h at more (omega (arith, high)))
  where
    rest : List Place3
    rest = found_from due (start + 1) n

    over : (o : Option Place3) → is_some (place_at k rest) ≡ true → is_some (place_at k (option_to_list o ++ rest)) ≡ true
    over None there = there
    over (Some q) there = pick (k == q.position)
      where
        pick : (b : Bool) → is_some (cond b (Some q) (place_at k rest)) ≡ true
        pick true = refl
        pick false = there

    go : (b : Bool) → nat_eq start i ≡ b → (start + 1 ≤ i → is_some (place_at k rest) ≡ true) → is_some (place_at k (option_to_list (due start) ++ rest)) ≡ true
    go true same further =
        ap (λ o. is_some (place_at k (option_to_list o ++ rest))) (ap due (eqb-true start i same) ∙ h)
        ∙ ap (λ b. is_some (cond b (Some p) (place_at k rest))) (eq-eqb k p.position at)
    go false other further = over (due start) (further (grind (arith, nat_tests)))

value-key : (k : ℕ) (due : ℕ → Option Place3) (p : Place3) → place_at k (values_of due) ≡ Some p → (i : ℕ) × (due i ≡ Some p) × (k ≡ p.position)
unfolding values_of
value-key k due p h = found-value k due 0 65536 p h

key-value : (k i : ℕ) (due : ℕ → Option Place3) (p : Place3) → due i ≡ Some p → k ≡ p.position → i < 65536 → is_some (place_at k (values_of due)) ≡ true
unfolding values_of
key-value k i due p h at lt = value-found k i due 0 65536 p h at (omega arith) (omega (arith, lt))

-- ---- the faults

R-turns : (tested : Tested) (rule : Rule) (x : Exchange) → statement tested.role rule ≡ at_rest (shows_R x) → (f : Fate) (e : Seen) (past : List Seen) (k : ℕ)
    → turns_with tested f e past k rule ≡ (binds rule tested && (is_binding tested.role (newest e past) && is_some_and (shows_R x (newest e past)) (moment past k)))
unfolding turns_with
R-turns tested rule x says f e past k = ap (λ s. binds rule tested && shows_with tested.role f s e past k) says

-- what is blamed at the place of a moment that is shown
blamed-there : (tested : Tested) (rule : Rule) (at : ℕ) (p : Place3) (d : Moment) (o : Option Moment) (shown : Bool) → offset_of (statement tested.role rule) (Some d) ≡ None → p ≡ d.event.place → o ≡ Some d → shown ≡ true
    → Some (record { decided = at; record_no = p.record_no; offset = None }) ≡ cond shown (Some (reported tested.role o rule at)) None
blamed-there tested rule at p d o shown none same found is =
    ap (λ (y : Place3). Some (record { decided = at; record_no = y.record_no; offset = None })) same
    ∙ ap (λ q. Some (record { decided = at; record_no = d.event.place.record_no; offset = q })) (sym none)
    ∙ ap (λ q. Some (reported tested.role q rule at)) (sym found)
    ∙ ap (λ b. cond b (Some (reported tested.role o rule at)) None) (sym is)

due-blamed : (tested : Tested) (rule : Rule) (x : Exchange) → IsApart x → statement tested.role rule ≡ at_rest (shows_R x) → (f : Fate) (at : ℕ) (e : Seen) (past : List Seen) (due : ℕ → Option Place3)
    → IsPlaced past → ((i : ℕ) → is_some (due i) ≡ true → i < 65536) → ((i : ℕ) → due i ≡ place_of (due_of x i past)) → binds rule tested ≡ true → is_binding tested.role (newest e past) ≡ true
    → (k : ℕ) → blame_of at (place_at k (values_of due)) ≡ cond (turns_with tested f e past k rule) (Some (reported tested.role (moment (e ∷ past) k) rule at)) None
due-blamed tested rule x apart says f at e past due placed within are bound binding k =
    go (place_at k (values_of due)) refl ∙ ap (λ b. cond b (Some (reported tested.role (moment (e ∷ past) k) rule at)) None) (sym simple)
  where
    shown : Bool
    shown = is_some_and (shows_R x (newest e past)) (moment past k)

    simple : turns_with tested f e past k rule ≡ shown
    simple = R-turns tested rule x says f e past k ∙ ap (λ b. b && (is_binding tested.role (newest e past) && shown)) bound ∙ ap (λ b. b && shown) binding

    offset_none : (o : Option Moment) → offset_of (statement tested.role rule) o ≡ None
    offset_none o = ap (λ s. offset_of s o) says

    of_place : (p : Place3) (i : ℕ) (o : Option Moment) → due_of x i past ≡ o → Some p ≡ place_of o → k ≡ p.position → Some (record { decided = at; record_no = p.record_no; offset = None }) ≡ cond shown (Some (reported tested.role (moment (e ∷ past) k) rule at)) None
    of_place p i None q h spot = absurd (cc)
    of_place p i (Some d) q h spot =
        let here : moment past (position d) ≡ Some d = due-moment x i past d q in
        let same : p ≡ d.event.place = cc in
        let there : k ≡ position d = spot ∙ ap (λ (y : Place3). y.position) same ∙ moment-placed past (position d) d placed here in
        blamed-there tested rule at p d (moment (e ∷ past) k) shown (offset_none (Some d)) same (moment-stays e past k d (ap (moment past) there ∙ here))
        (ap (λ n. is_some_and (shows_R x (newest e past)) (moment past n)) there ∙ due-shown x apart e past i d q)

    go : (o : Option Place3) → place_at k (values_of due) ≡ o → blame_of at o ≡ cond shown (Some (reported tested.role (moment (e ∷ past) k) rule at)) None
    go None h = ap (λ b. cond b (Some (reported tested.role (moment (e ∷ past) k) rule at)) None) (sym (not_true shown (λ t.
        let s = shown-due x apart e past k t in
        let here : moment past (position s.1) ≡ Some s.1 = due-moment x s.0 past s.1 s.2 in
        let found : due s.0 ≡ Some s.1.event.place = are s.0 ∙ ap place_of s.2 in
        let has = key-value k s.0 due s.1.event.place found (s.3 ∙ sym (moment-placed past (position s.1) s.1 placed here)) (within s.0 (ap is_some found)) in
        absurd (cc))))
    go (Some p) h = let v = value-key k due p h in of_place p v.0 (due_of x v.0 past) refl (sym v.1 ∙ are v.0) v.2

pub owed-gains : (tested : Tested) (rule : Rule) (x : Exchange) → IsApart x → statement tested.role rule ≡ at_rest (shows_R x) → (f fate : Fate) (ended : Bool) (due : ℕ → Option Place3) (at : ℕ) (e : Seen) (past : List Seen) (m : FaultMap) (bound rests : Bool)
    → IsUnder tested f at e past → ((i : ℕ) → is_some (due i) ≡ true → i < 65536) → IsOwed x fate ended due tested (fate_before tested f e past) past → bound ≡ binds rule tested
    → rests ≡ (bound && binds_by f (at == e.place.position) ended e.note)
    → Gains (λ k r. same_rule r rule && turns_with tested f e past k r) tested (e ∷ past) at m (cond rests (blamed rule at (values_of due) m) m)
owed-gains tested rule x apart says f fate ended due at e past m bound rests under within o b r = go rests refl
  where
    binding : is_binding tested.role (newest e past) ≡ binds_by f (at == e.place.position) ended e.note
    binding = binding-under tested f at e past under ∙ ap (λ t. binds_by f (at == e.place.position) t e.note) (sym o.is_ended)

    is : rests ≡ (binds rule tested && is_binding tested.role (newest e past))
    is = r ∙ ap (λ t. t && binds_by f (at == e.place.position) ended e.note) b ∙ ap (λ t. binds rule tested && t) (sym binding)

    none : (a b c : Bool) → (a && b) ≡ false → (a && (b && c)) ≡ false
    none true true c h = absurd (cc)
    none true false c h = refl
    none false b c h = refl

    -- a REST is of a connection that was begun before
    same : is_rest e.note ≡ true → fate ≡ f
    same rest = pick (is_open e.note) (rest-opens-nothing e.note rest) o.same_fate
      where
        pick : (b : Bool) → b ≡ false → cond b (latest_fate tested.role past) (Some f) ≡ Some fate → fate ≡ f
        pick true h q = absurd (cc)
        pick false h q = cc

    go : (t : Bool) → rests ≡ t → Gains (λ k r. same_rule r rule && turns_with tested f e past k r) tested (e ∷ past) at m (cond t (blamed rule at (values_of due) m) m)
    go false h = gains_none tested rule f e past at m (λ k. R-turns tested rule x says f e past k ∙ none (binds rule tested) (is_binding tested.role (newest e past)) (is_some_and (shows_R x (newest e past)) (moment past k)) (sym is ∙ h))
    go true h =
        let parts = both_true (binds rule tested) (is_binding tested.role (newest e past)) (sym is ∙ h) in
        let by = both_true (is_rest e.note) ((at == e.place.position) && (accepts f && not ended)) (sym binding ∙ parts.1) in
        let accepted : accepts f ≡ true = (both_true (accepts f) (not ended) (both_true (at == e.place.position) (accepts f && not ended) by.1).1).0 in
        gains_blamed tested rule f e past at (values_of due) m (due-blamed tested rule x apart says f at e past due under.follows.placed.1 within (o.due_are (ap accepts (same by.0) ∙ accepted)) parts.0 parts.1)

-- ---- the state

pub owed-next : (tested : Tested) (x : Exchange) (f fate : Fate) (at : ℕ) (ended now : Bool) (due next : ℕ → Option Place3) (e : Seen) (past : List Seen) → IsApart x → IsUnder tested f at e past
    → IsOwed x fate ended due tested (fate_before tested f e past) past → now ≡ (ends_by e.note || (not (is_open e.note) && ended))
    → (accepts f ≡ true → (i : ℕ) → next i ≡ due_next e.note (x.cause e.note) (x.answer e.note) e.place i (due i))
    → IsOwed x f now next tested (Some f) (e ∷ past)
owed-next tested x f fate at ended now due next e past apart under o is grown = record {
  same_fate = refl;
  is_ended = is ∙ ap (λ t. ends_by e.note || (not (is_open e.note) && t)) o.is_ended ∙ sym (some-next ends_binding e past);
  due_are = λ accepted i. grown accepted i ∙ go i (is_open e.note) refl o.same_fate accepted ∙ sym (places-next x i e past);
}
  where
    go : (i : ℕ) (b : Bool) → is_open e.note ≡ b → cond b (latest_fate tested.role past) (Some f) ≡ Some fate → accepts f ≡ true
        → due_next e.note (x.cause e.note) (x.answer e.note) e.place i (due i) ≡ due_next e.note (x.cause e.note) (x.answer e.note) e.place i (place_of (due_of x i past))
    go i true h same accepted =
        ap (λ b. option_or (cond (is_id i (x.answer e.note)) None (cond b None (due i))) (cond (is_id i (x.cause e.note)) (Some e.place) None)) h
        ∙ sym (ap (λ b. option_or (cond (is_id i (x.answer e.note)) None (cond b None (place_of (due_of x i past)))) (cond (is_id i (x.cause e.note)) (Some e.place) None)) h)
    go i false h same accepted =
        let one : f ≡ fate = cc in
        ap (λ q. option_or (cond (is_id i (x.answer e.note)) None (cond (is_open e.note) None q)) (cond (is_id i (x.cause e.note)) (Some e.place) None)) (o.due_are (ap accepts (sym one) ∙ accepted) i)
