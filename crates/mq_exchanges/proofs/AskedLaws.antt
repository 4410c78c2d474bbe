-- What an answer answers, under a fate: for A.
use Rattle.std.proofs.Common.{◌≡◌, ℕ, ◌+◌, ◌<◌, ◌≤◌, ◌==◌, length, arith, Bool, true, false, cond, ◌&&◌, ◌||◌, not, List, [], ◌∷◌, Option, Some, None, refl, ap, sym, ◌∙◌, inl, inr}
use Rattle.std.specs.Prelude.{is_some, option_map}
use Rattle.std.proofs.lemmas.Bool.{eq-eqb, lt-ltb, le-ltb}
use Rattle.mq_rules.specs.declared.role.Role.{Role}
use Rattle.mq_rules.specs.declared.role.Tested.{Tested}
use Rattle.mq_rules.specs.declared.fate.Fate.{Fate}
use Rattle.mq_rules.specs.declared.rule.Rule.{Rule}
use Rattle.mq_rules.specs.declared.note.Note.{Note}
use Rattle.mq_rules.specs.declared.note.Seen.{Seen}
use Rattle.mq_rules.specs.Words.{is_some_and, is_id}
use Rattle.mq_rules.specs.Notes.{is_open, is_release}
use Rattle.mq_rules.specs.Moments.{Moment, since, is_next, Among, newest}
use Rattle.mq_rules.specs.Connections.{begun, number, latest_fate, accepts, begins, voided, any_accepted, has_session, session, surprises, couldnt_know}
use Rattle.mq_rules.specs.Folds.{session_since, gained}
use Rattle.mq_rules.specs.Exchanges.{Exchange, causes, answers, breaks_A}
use Rattle.mq_rules.specs.Rules.{binds, same_rule}
use Rattle.mq_rules.specs.Faults.{offset_of}
use Rattle.mq_rules.specs.FaultKeys.{FaultMap}
use Rattle.mq_rules.specs.Statements.{statement, in_session, if_early}
use Rattle.mq_rules.proofs.Exports.{and_false, begun-closed, begun-open-of-given as begun-open, both_true, differ, session-members, session_since-next}
use Rattle.mq_rules.specs.Under.{fate_before, turns_with, IsUnder}
use Rattle.mq_rules.specs.Growing.{Gains}
use Rattle.mq_fates.specs.Judgements.{judged_by}
use Rattle.mq_exchanges.specs.Answering.{IsApart}
use Rattle.mq_exchanges.specs.Askings.{caused, owed, is_before, answered_next, is_unasked, IsAsked}
use Rattle.mq_fates.proofs.Exports.{session-turns_with, gains_judged, numbers, and-out, excused-known}
use Rattle.mq_fates.specs.Knowing.{excused}

abbrev pub owed_next : Fate → Note → Bool → Bool → Bool → Bool → Bool
owed_next f n s t all old = cond (is_open n) (not (begins (Some f)) && all) (cond (accepts f) (s || (not t && old)) old)

since-never : (starts ends : Moment → Bool) (ms : List Moment) → ((m : Moment) → Among m ms → ends m ≡ false) → since starts ends ms ≡ since starts (λ j. false) ms
since-never starts ends [] h = refl
since-never starts ends (m ∷ ms) h = ap (λ b. starts m || (not b && since starts ends ms)) (h m (inl refl)) ∙ ap (λ b. starts m || b) (since-never starts ends ms (λ n a. h n (inr a)))

-- no answer is on a connection that hasn't begun
fresh : (role : Role) (x : Exchange) (i c : ℕ) (taken : Option Fate) (past : List Seen) → begun past < c → session_since role (causes x i) (λ j. answers x i j && (number j == c)) taken past ≡ caused role x i taken past
fresh role x i c taken past lt = since-never (causes x i) (λ j. answers x i j && (number j == c)) (session role taken past) (λ m a.
    let le : number m ≤ begun past = numbers past m (session-members role taken past m a).0 in
    ap (λ b. answers x i m && b) (differ (number m) c (λ is. omega arith)) ∙ and_false (answers x i m))

pub owed-next : (tested : Tested) (x : Exchange) → IsApart x → (i : ℕ) (f : Fate) (e : Seen) (past : List Seen)
    → owed tested.role x i (Some f) (e ∷ past)
    ≡ owed_next f e.note (is_id i (x.cause e.note)) (is_id i (x.answer e.note)) (caused tested.role x i (fate_before tested f e past) past) (owed tested.role x i (fate_before tested f e past) past)
owed-next tested x packets i f e past =
    session_since-next tested.role (causes x i) (λ j. answers x i j && (number j == begun (e ∷ past))) (Some f) e past
    ∙ ap (λ b. gained (has_session tested.role (Some f) e past) s (t && b) (cond (is_open e.note) (not (begins (Some f)) && with_number (begun (e ∷ past)) (latest_fate tested.role past)) (with_number (begun (e ∷ past)) (Some f)))) (eq-eqb (begun (e ∷ past)) (begun (e ∷ past)) refl)
    ∙ ap (λ b. gained (has_session tested.role (Some f) e past) s b (cond (is_open e.note) (not (begins (Some f)) && with_number (begun (e ∷ past)) (latest_fate tested.role past)) (with_number (begun (e ∷ past)) (Some f)))) (whole t)
    ∙ go (is_open e.note) refl
  where
    s : Bool
    s = is_id i (x.cause e.note)

    t : Bool
    t = is_id i (x.answer e.note)

    with_number : ℕ → Option Fate → Bool
    with_number c o = session_since tested.role (causes x i) (λ j. answers x i j && (number j == c)) o past

    whole : (b : Bool) → (b && true) ≡ b
    whole true = refl
    whole false = refl

    idle : (is_open e.note || is_release e.note) ≡ true → (b y : Bool) → gained b s t y ≡ y
    idle n true y = let none = packets.none e.note n in ap (λ o. is_id i o || (not t && y)) none.0 ∙ ap (λ o. not (is_id i o) && y) none.1
    idle n false y = refl

    or_true : (b : Bool) → (b || true) ≡ true
    or_true true = refl
    or_true false = refl

    apart : (a r y z : Bool) → is_release e.note ≡ r → gained (a || (r && y)) s t z ≡ gained a s t z
    apart true r y z n = refl
    apart false true true z n = idle (ap (λ b. is_open e.note || b) n ∙ or_true (is_open e.note)) true z
    apart false true false z n = refl
    apart false false y z n = refl

    go : (b : Bool) → is_open e.note ≡ b → gained (has_session tested.role (Some f) e past) s t (cond b (not (begins (Some f)) && with_number (begun (e ∷ past)) (latest_fate tested.role past)) (with_number (begun (e ∷ past)) (Some f)))
        ≡ cond b (not (begins (Some f)) && caused tested.role x i (cond b (latest_fate tested.role past) (Some f)) past) (cond (accepts f) (s || (not t && owed tested.role x i (cond b (latest_fate tested.role past) (Some f)) past)) (owed tested.role x i (cond b (latest_fate tested.role past) (Some f)) past))
    go true n =
        let more : begun (e ∷ past) ≡ 1 + begun past = begun-open e past n in
        idle (ap (λ b. b || is_release e.note) n) (has_session tested.role (Some f) e past) (not (begins (Some f)) && with_number (begun (e ∷ past)) (latest_fate tested.role past))
        ∙ ap (λ b. not (begins (Some f)) && b) (fresh tested.role x i (begun (e ∷ past)) (latest_fate tested.role past) past (omega arith))
    go false n =
        apart (accepts f) (is_release e.note) (voided (Some f) && any_accepted tested.role (Some f) past) (with_number (begun (e ∷ past)) (Some f)) refl
        ∙ ap (λ c. gained (accepts f) s t (with_number c (Some f))) (begun-closed e past n)

-- the pairs
pub A-turns : (tested : Tested) (rule : Rule) (x : Exchange) (early : Bool) → IsApart x → statement tested.role rule ≡ in_session (if_early early tested.role (breaks_A x tested.role)) → (f : Fate) (at : ℕ) (e : Seen) (past : List Seen)
    → IsUnder tested f at e past → (k : ℕ) → turns_with tested f e past k rule
    ≡ (is_next past k && excused (early && surprises f) (at == e.place.position) (binds rule tested && (accepts f && is_some_and (λ i. not (owed tested.role x i (fate_before tested f e past) past)) (x.answer e.note))))
unfolding breaks_A
A-turns tested rule x early packets says f at e past under k =
    session-turns_with tested rule (if_early early tested.role (breaks_A x tested.role)) says f e past k ∙ ap (λ b. is_next past k && b) (by_early early)
  where
    same : (p q : ℕ → Bool) (o : Option ℕ) → ((i : ℕ) → p i ≡ q i) → is_some_and p o ≡ is_some_and q o
    same p q None h = refl
    same p q (Some i) h = h i

    there_in : (p : ℕ → Bool) (o : Option ℕ) → is_some_and p o ≡ true → is_some o ≡ true
    there_in p None h = absurd (cc)
    there_in p (Some i) h = refl

    lacks : ℕ → ℕ → Bool
    lacks c i = not (since (causes x i) (λ j. answers x i j && (number j == c)) (session tested.role (Some f) past))

    unowed : ℕ → Bool
    unowed i = not (owed tested.role x i (fate_before tested f e past) past)

    go : (b : Bool) → is_open e.note ≡ b → is_some_and (lacks (begun (e ∷ past))) (x.answer e.note) ≡ is_some_and (λ i. not (owed tested.role x i (cond b (latest_fate tested.role past) (Some f)) past)) (x.answer e.note)
    go true n =
        let none = (packets.none e.note (ap (λ b. b || is_release e.note) n)).1 in
        ap (is_some_and (lacks (begun (e ∷ past)))) none ∙ sym (ap (is_some_and (λ i. not (owed tested.role x i (latest_fate tested.role past) past))) none)
    go false n = same (lacks (begun (e ∷ past))) (lacks (begun past)) (x.answer e.note) (λ i. ap (λ c. lacks c i) (begun-closed e past n))

    found : breaks_A x tested.role f (newest e past) ≡ is_some_and unowed (x.answer e.note)
    found = go (is_open e.note) refl

    always : (b : Bool) → b ≡ (b && true)
    always true = refl
    always false = refl

    by_early : (b : Bool) → (binds rule tested && (accepts f && if_early b tested.role (breaks_A x tested.role) f (newest e past)))
        ≡ excused (b && surprises f) (at == e.place.position) (binds rule tested && (accepts f && is_some_and unowed (x.answer e.note)))
    by_early false = ap (λ b. binds rule tested && (accepts f && b)) found ∙ always (binds rule tested && (accepts f && is_some_and unowed (x.answer e.note)))
    by_early true =
        and-out (binds rule tested) (accepts f) (breaks_A x tested.role f (newest e past)) (not (couldnt_know tested.role f (newest e past)))
        ∙ ap (λ b. (binds rule tested && (accepts f && b)) && not (couldnt_know tested.role f (newest e past))) found
        ∙ excused-known tested f at e past (surprises f) (binds rule tested && (accepts f && is_some_and unowed (x.answer e.note))) under
        (λ t. packets.needs e.note (there_in unowed (x.answer e.note)
        (both_true (accepts f) (is_some_and unowed (x.answer e.note)) (both_true (binds rule tested) (accepts f && is_some_and unowed (x.answer e.note)) t).1).1))

-- ---- what is kept

-- the same without answers
caused-next : (tested : Tested) (x : Exchange) → IsApart x → (i : ℕ) (f : Fate) (e : Seen) (past : List Seen)
    → caused tested.role x i (Some f) (e ∷ past)
    ≡ cond (is_open e.note) (not (begins (Some f)) && caused tested.role x i (fate_before tested f e past) past) (cond (accepts f) (is_id i (x.cause e.note) || caused tested.role x i (fate_before tested f e past) past) (caused tested.role x i (fate_before tested f e past) past))
caused-next tested x packets i f e past = session_since-next tested.role (causes x i) (λ j. false) (Some f) e past ∙ go (is_open e.note) refl
  where
    s : Bool
    s = is_id i (x.cause e.note)

    then : Option Fate → Bool
    then o = caused tested.role x i o past

    idle : (is_open e.note || is_release e.note) ≡ true → (b y : Bool) → gained b s false y ≡ y
    idle n true y = ap (λ o. is_id i o || y) (packets.none e.note n).0
    idle n false y = refl

    or_true : (b : Bool) → (b || true) ≡ true
    or_true true = refl
    or_true false = refl

    apart : (a r y z : Bool) → is_release e.note ≡ r → gained (a || (r && y)) s false z ≡ gained a s false z
    apart true r y z n = refl
    apart false true true z n = idle (ap (λ b. is_open e.note || b) n ∙ or_true (is_open e.note)) true z
    apart false true false z n = refl
    apart false false y z n = refl

    go : (b : Bool) → is_open e.note ≡ b → gained (has_session tested.role (Some f) e past) s false (cond b (not (begins (Some f)) && then (latest_fate tested.role past)) (then (Some f)))
        ≡ cond b (not (begins (Some f)) && then (cond b (latest_fate tested.role past) (Some f))) (cond (accepts f) (s || then (cond b (latest_fate tested.role past) (Some f))) (then (cond b (latest_fate tested.role past) (Some f))))
    go true n = idle (ap (λ b. b || is_release e.note) n) (has_session tested.role (Some f) e past) (not (begins (Some f)) && then (latest_fate tested.role past))
    go false n = apart (accepts f) (is_release e.note) (voided (Some f) && any_accepted tested.role (Some f) past) (then (Some f)) refl

-- a cause stays in the session until that starts over
pub caused-more : (tested : Tested) (x : Exchange) → IsApart x → (i : ℕ) (f : Fate) (e : Seen) (past : List Seen) → (is_open e.note && begins (Some f)) ≡ false
    → caused tested.role x i (fate_before tested f e past) past ≡ true → caused tested.role x i (Some f) (e ∷ past) ≡ true
caused-more tested x packets i f e past on there =
    caused-next tested x packets i f e past
    ∙ go (is_open e.note) (begins (Some f)) (accepts f) (is_id i (x.cause e.note)) (caused tested.role x i (fate_before tested f e past) past) on there
  where
    go : (o b a c k : Bool) → (o && b) ≡ false → k ≡ true → cond o (not b && k) (cond a (c || k) k) ≡ true
    go true true a c k on h = absurd (cc)
    go true false a c k on h = h
    go false b true true k on h = refl
    go false b true false k on h = h
    go false b false c k on h = h

-- a cause on an accepted connection is in the session
pub caused-new : (tested : Tested) (x : Exchange) → IsApart x → (i : ℕ) (f : Fate) (e : Seen) (past : List Seen) → accepts f ≡ true → is_id i (x.cause e.note) ≡ true → caused tested.role x i (Some f) (e ∷ past) ≡ true
caused-new tested x packets i f e past ok starts = caused-next tested x packets i f e past ∙ go (is_open e.note) refl
  where
    k : Bool
    k = caused tested.role x i (fate_before tested f e past) past

    go : (b : Bool) → is_open e.note ≡ b → cond b (not (begins (Some f)) && k) (cond (accepts f) (is_id i (x.cause e.note) || k) k) ≡ true
    go true n = absurd (let none : x.cause e.note ≡ None = (packets.none e.note (ap (λ b. b || is_release e.note) n)).0 in let bad : is_id i (x.cause e.note) ≡ false = ap (is_id i) none in cc)
    go false n = ap (λ a. cond a (is_id i (x.cause e.note) || k) k) ok ∙ ap (λ c. c || k) starts

-- an answer is taken in, and then an OPEN or a cause
pub answered-then : (x : Exchange) → IsApart x → (f : Fate) (n : Note) (at i : ℕ) (old : Option ℕ)
    → answered_next f n (x.cause n) None 0 i (cond (accepts f && is_id i (x.answer n)) (option_map (λ _. at) old) old) ≡ answered_next f n (x.cause n) (x.answer n) at i old
answered-then x packets f n at i old = go (is_open n) refl
  where
    go : (b : Bool) → is_open n ≡ b
        → cond b (cond (begins (Some f)) None (cond (accepts f && is_id i (x.answer n)) (option_map (λ _. at) old) old)) (cond (accepts f) (cond (is_id i (x.cause n)) (Some 0) (cond (accepts f && is_id i (x.answer n)) (option_map (λ _. at) old) old)) (cond (accepts f && is_id i (x.answer n)) (option_map (λ _. at) old) old))
        ≡ cond b (cond (begins (Some f)) None old) (cond (accepts f) (cond (is_id i (x.cause n)) (Some 0) (cond (is_id i (x.answer n)) (option_map (λ _. at) old) old)) old)
    go true opens =
        let gives : x.answer n ≡ None = (packets.none n (ap (λ b. b || is_release n) opens)).1 in
        ap (λ o. cond (begins (Some f)) None (cond (accepts f && is_id i o) (option_map (λ _. at) old) old)) gives ∙ ap (λ b. cond (begins (Some f)) None (cond b (option_map (λ _. at) old) old)) (and_false (accepts f))
    go false opens = by (accepts f)
      where
        by : (a : Bool) → cond a (cond (is_id i (x.cause n)) (Some 0) (cond (a && is_id i (x.answer n)) (option_map (λ _. at) old) old)) (cond (a && is_id i (x.answer n)) (option_map (λ _. at) old) old)
            ≡ cond a (cond (is_id i (x.cause n)) (Some 0) (cond (is_id i (x.answer n)) (option_map (λ _. at) old) old)) old
        by true = refl
        by false = refl

pub asked-next : (tested : Tested) (x : Exchange) (f fate : Fate) (opened now : ℕ) (answered next : ℕ → Option ℕ) (e : Seen) (past : List Seen) → IsApart x → e.place.position ≡ length past + 1
    → IsAsked x fate opened answered tested (fate_before tested f e past) past → now ≡ cond (is_open e.note) e.place.position opened
    → ((i : ℕ) → next i ≡ answered_next f e.note (x.cause e.note) (x.answer e.note) e.place.position i (answered i))
    → IsAsked x f now next tested (Some f) (e ∷ past)
asked-next tested x f fate opened now answered next e past packets placed q is grown = record {
  same_fate = refl;
  counted = positive (is_open e.note) is;
  opened_within = within (is_open e.note) is;
  answered_within = λ i s h. kept i s (is_open e.note) (begins (Some f)) (accepts f) (is_id i (x.cause e.note)) (is_id i (x.answer e.note)) (answered i) refl (sym (grown i) ∙ h);
  caused_are = λ i.
      ap is_some (grown i) ∙ some_kept (is_open e.note) (begins (Some f)) (accepts f) (is_id i (x.cause e.note)) (is_id i (x.answer e.note)) (answered i)
      ∙ ap (λ b. cond (is_open e.note) (not (begins (Some f)) && b) (cond (accepts f) (is_id i (x.cause e.note) || b) b)) (q.caused_are i) ∙ sym (caused-next tested x packets i f e past);
  owed_are = λ i.
      ap (is_before now) (grown i)
      ∙ ap (λ n. is_before n (answered_next f e.note (x.cause e.note) (x.answer e.note) e.place.position i (answered i))) is
      ∙ before_kept i (is_open e.note) (begins (Some f)) (accepts f) (is_id i (x.cause e.note)) (is_id i (x.answer e.note)) (answered i) refl
      ∙ ap (λ b. cond (is_open e.note) (not (begins (Some f)) && b) (cond (accepts f) (is_id i (x.cause e.note) || (not (is_id i (x.answer e.note)) && is_before opened (answered i))) (is_before opened (answered i)))) (q.caused_are i)
      ∙ ap (owes_then i) (q.owed_are i) ∙ sym (owed-next tested x packets i f e past ∙ plain i);
}
  where
    owes_then : ℕ → Bool → Bool
    owes_then i b = cond (is_open e.note) (not (begins (Some f)) && caused tested.role x i (fate_before tested f e past) past) (cond (accepts f) (is_id i (x.cause e.note) || (not (is_id i (x.answer e.note)) && b)) b)

    plain : (i : ℕ) → owed_next f e.note (is_id i (x.cause e.note)) (is_id i (x.answer e.note)) (caused tested.role x i (fate_before tested f e past) past) (owed tested.role x i (fate_before tested f e past) past) ≡ owes_then i (owed tested.role x i (fate_before tested f e past) past)
    plain i = refl

    positive : (b : Bool) → now ≡ cond b e.place.position opened → 0 < now
    positive true h = omega arith
    positive false h = let c = q.counted in omega arith

    within : (b : Bool) → now ≡ cond b e.place.position opened → now ≤ length (e ∷ past) + 1
    within true h = omega arith
    within false h = let c = q.opened_within in omega arith

    kept : (i s : ℕ) (b g a c t : Bool) (o : Option ℕ) → answered i ≡ o → cond b (cond g None o) (cond a (cond c (Some 0) (cond t (option_map (λ s. e.place.position) o) o)) o) ≡ Some s → s ≤ length (e ∷ past)
    kept i s b g a c t o p h = go b g a c t o p h
      where
        old : (m : ℕ) → answered i ≡ Some m → m ≡ s → s ≤ length (e ∷ past)
        old m p h = let w = q.answered_within i m p in omega arith

        go : (b g a c t : Bool) (o : Option ℕ) → answered i ≡ o → cond b (cond g None o) (cond a (cond c (Some 0) (cond t (option_map (λ s. e.place.position) o) o)) o) ≡ Some s → s ≤ length (e ∷ past)
        go true true a c t o p h = absurd (cc)
        go true false a c t None p h = absurd (cc)
        go true false a c t (Some m) p h = let same : m ≡ s = cc in old m p same
        go false g true true t o p h = let same : 0 ≡ s = cc in omega arith
        go false g true false true None p h = absurd (cc)
        go false g true false true (Some m) p h = let same : e.place.position ≡ s = cc in omega arith
        go false g true false false None p h = absurd (cc)
        go false g true false false (Some m) p h = let same : m ≡ s = cc in old m p same
        go false g false c t None p h = absurd (cc)
        go false g false c t (Some m) p h = let same : m ≡ s = cc in old m p same

    some_kept : (b g a c t : Bool) (o : Option ℕ) → is_some (cond b (cond g None o) (cond a (cond c (Some 0) (cond t (option_map (λ s. e.place.position) o) o)) o)) ≡ cond b (not g && is_some o) (cond a (c || is_some o) (is_some o))
    some_kept true true a c t o = refl
    some_kept true false a c t o = refl
    some_kept false g true true t o = refl
    some_kept false g true false true None = refl
    some_kept false g true false true (Some m) = refl
    some_kept false g true false false o = refl
    some_kept false g false c t o = refl

    before_kept : (i : ℕ) (b g a c t : Bool) (o : Option ℕ) → answered i ≡ o
        → is_before (cond b e.place.position opened) (cond b (cond g None o) (cond a (cond c (Some 0) (cond t (option_map (λ s. e.place.position) o) o)) o))
        ≡ cond b (not g && is_some o) (cond a (c || (not t && is_before opened o)) (is_before opened o))
    before_kept i true true a c t o p = refl
    before_kept i true false a c t None p = refl
    before_kept i true false a c t (Some m) p = let w = q.answered_within i m p in lt-ltb m e.place.position (omega arith)
    before_kept i false g true true t o p = lt-ltb 0 opened q.counted
    before_kept i false g true false true None p = refl
    before_kept i false g true false true (Some m) p = let w = q.opened_within in le-ltb e.place.position opened (omega arith)
    before_kept i false g true false false o p = refl
    before_kept i false g false c t o p = refl

-- the faults
pub asked-gains : (tested : Tested) (rule : Rule) (x : Exchange) (early : Bool) → IsApart x → statement tested.role rule ≡ in_session (if_early early tested.role (breaks_A x tested.role)) → (f fate : Fate) (opened : ℕ) (answered : ℕ → Option ℕ) (at : ℕ)
    (e : Seen) (past : List Seen) (m : FaultMap) (bound b : Bool)
    → IsUnder tested f at e past → IsAsked x fate opened answered tested (fate_before tested f e past) past → bound ≡ binds rule tested
    → b ≡ excused (early && surprises f) (at == e.place.position) (bound && is_unasked f opened (x.answer e.note) answered)
    → Gains (λ k r. same_rule r rule && turns_with tested f e past k r) tested (e ∷ past) at m (judged_by b rule e.place at m)
asked-gains tested rule x early packets says f fate opened answered at e past m bound b under q binding is =
    gains_judged tested rule f e past at m b (λ m. ap (λ s. offset_of s m) says) under.follows.placed.0 (λ k.
    A-turns tested rule x early packets says f at e past under k
    ∙ ap (λ c. is_next past k && excused (early && surprises f) (at == e.place.position) (binds rule tested && (accepts f && c))) (sym (same (x.answer e.note)))
    ∙ ap (λ c. is_next past k && excused (early && surprises f) (at == e.place.position) (c && is_unasked f opened (x.answer e.note) answered)) (sym binding)
    ∙ ap (λ c. is_next past k && c) (sym is))
  where
    same : (o : Option ℕ) → is_some_and (λ i. not (is_before opened (answered i))) o ≡ is_some_and (λ i. not (owed tested.role x i (fate_before tested f e past) past)) o
    same None = refl
    same (Some i) = ap not (q.owed_are i)
