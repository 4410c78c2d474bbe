-- The places of a statement on sessions, where the latest connection is taken to have a fate.
use Rattle.std.proofs.Common.{◌≡◌, ℕ, ◌+◌, ◌≤◌, ◌==◌, arith, Bool, true, false, cond, ◌&&◌, ◌||◌, not, List, [], ◌∷◌, length, Option, Some, None, refl, ap, sym, ◌∙◌}
use Rattle.std.proofs.lemmas.Bool.{eqb-true, eq-eqb}
use Rattle.mq_rules.specs.declared.role.Role.{Role}
use Rattle.mq_rules.specs.declared.role.Tested.{Tested}
use Rattle.mq_rules.specs.declared.fate.Fate.{Fate}
use Rattle.mq_rules.specs.declared.rule.Rule.{Rule}
use Rattle.mq_rules.specs.declared.note.Seen.{Seen}
use Rattle.mq_rules.specs.Words.{is_some_and}
use Rattle.mq_rules.specs.Notes.{is_open}
use Rattle.mq_rules.specs.Moments.{Moment, newest, position, moments, moment, is_next, count}
use Rattle.mq_rules.specs.Connections.{number, begun, fate, fate_under, latest_fate, accepts, is_binding}
use Rattle.mq_rules.specs.Rules.{binds}
use Rattle.mq_rules.specs.Statements.{Statement, on_bytes, on_past, in_session, at_release, at_rest, by_later, is_so_under, where_accepted, is_so}
use Rattle.mq_rules.specs.Under.{fate_before, is_by_session, shows_with}
use Rattle.mq_rules.specs.Occasions.{occasion, occurs, applies, places, applies_under, places_under, comes_with, adds_place_with}
use Rattle.mq_rules.proofs.BoolLaws.{and_false, or_false, and-over, and-past, differ}
use Rattle.mq_rules.proofs.StepLaws.{moment-beyond, moment-next, rest-step}
use Rattle.mq_rules.proofs.GivenLaws.{number-within}
use Rattle.mq_rules.proofs.FatedLaws.{going-fates, opened-fates}
use Rattle.mq_rules.proofs.PlacesLaws.{count-most, count-same, count-either, from-zero, occurs-nowhere}

-- ---- the fates

-- where the latest connection is taken to have the fate that it has, all have theirs
known-fates : (role : Role) (log : List Seen) (c : ℕ) → fate_under role (latest_fate role log) log c ≡ fate role c log
known-fates role log c = go (c == begun log) refl
  where
    go : (b : Bool) → (c == begun log) ≡ b → cond b (latest_fate role log) (fate role c log) ≡ fate role c log
    go true t = sym (ap (λ n. fate role n log) (eqb-true c (begun log) t))
    go false t = refl

-- a connection of before keeps the fate that it was taken to have
before-fates : (tested : Tested) (c : ℕ) (f : Fate) (e : Seen) (past : List Seen) → c ≤ begun past → fate_under tested.role (Some f) (e ∷ past) c ≡ fate_under tested.role (fate_before tested f e past) past c
before-fates tested c f e past le = go (is_open e.note) refl
  where
    go : (b : Bool) → is_open e.note ≡ b → fate_under tested.role (Some f) (e ∷ past) c ≡ fate_under tested.role (cond b (latest_fate tested.role past) (Some f)) past c
    go true h = opened-fates tested.role c f e past h le ∙ sym (known-fates tested.role past c)
    go false h = going-fates tested.role c f e past h

-- ---- one event more

-- what was so at the moments of before is, and the event is judged under the fate
under-one : (tested : Tested) (test : Fate → Moment → Bool) (f : Fate) (e : Seen) (past : List Seen) (k : ℕ)
    → is_some_and (λ m. is_so_under test m (fate_under tested.role (Some f) (e ∷ past) (number m))) (moment (e ∷ past) k)
    ≡ (is_some_and (λ m. is_so_under test m (fate_under tested.role (fate_before tested f e past) past (number m))) (moment past k) || (is_next past k && test f (newest e past)))
under-one tested test f e past k = go (is_next past k) refl
  where
    now : Moment → Bool
    now m = is_so_under test m (fate_under tested.role (Some f) (e ∷ past) (number m))

    old : Moment → Bool
    old m = is_so_under test m (fate_under tested.role (fate_before tested f e past) past (number m))

    own : (o : Option Fate) → cond (begun (e ∷ past) == begun (e ∷ past)) (Some f) o ≡ Some f
    own o = ap (λ b. cond b (Some f) o) (eq-eqb (begun (e ∷ past)) (begun (e ∷ past)) refl)

    each : (o : Option Moment) → moment past k ≡ o → is_some_and now o ≡ is_some_and old o
    each None at = refl
    each (Some m) at = ap (is_so_under test m) (before-fates tested (number m) f e past (number-within past k m at))

    go : (b : Bool) → is_next past k ≡ b → is_some_and now (cond b (Some (newest e past)) (moment past k)) ≡ (is_some_and old (moment past k) || (b && test f (newest e past)))
    go true h =
        ap (is_so_under test (newest e past)) (own (fate tested.role (begun (e ∷ past)) (e ∷ past)))
        ∙ sym (ap (λ o. is_some_and old o || test f (newest e past)) (moment-next past k h))
    go false h = each (moment past k) refl ∙ sym (or_false (is_some_and old (moment past k)))

-- a statement of a session of any shape
so-step : (tested : Tested) (s : Statement) (f : Fate) (e : Seen) (past : List Seen) (k : ℕ) → is_by_session s ≡ true
    → is_so tested.role (fate_under tested.role (Some f) (e ∷ past)) s (e ∷ past) k
    ≡ (is_so tested.role (fate_under tested.role (fate_before tested f e past) past) s past k || shows_with tested.role f s e past k)
so-step tested (on_bytes rule) f e past k by = absurd (cc)
so-step tested (on_past test) f e past k by = absurd (cc)
so-step tested (in_session test) f e past k by = under-one tested (where_accepted test) f e past k
so-step tested (at_release test) f e past k by = under-one tested test f e past k
so-step tested (at_rest test) f e past k by = rest-step tested.role test e past k
so-step tested (by_later test) f e past k by = absurd (cc)

-- what is put to the test with one event more was so already, or turns out so
pub applies-under-step : (tested : Tested) (f : Fate) (e : Seen) (past : List Seen) (k : ℕ) (rule : Rule) (s : Statement) → occasion tested.role rule ≡ Some s → is_by_session s ≡ true
    → applies_under tested (Some f) (e ∷ past) k rule ≡ (applies_under tested (fate_before tested f e past) past k rule || adds_place_with tested f e past k rule)
unfolding applies_under adds_place_with
applies-under-step tested f e past k rule s says by =
    ap (λ o. binds rule tested && occurs tested.role now o (e ∷ past) k) says
    ∙ ap (λ b. binds rule tested && b) (so-step tested s f e past k by)
    ∙ and-over (binds rule tested) (is_so tested.role old s past k) (shows_with tested.role f s e past k)
    ∙ ap (λ o. (binds rule tested && occurs tested.role old o past k) || (binds rule tested && comes_with tested.role f o e past k)) (sym says)
  where
    now : ℕ → Option Fate
    now = fate_under tested.role (Some f) (e ∷ past)

    old : ℕ → Option Fate
    old = fate_under tested.role (fate_before tested f e past) past

-- the position of the next event isn't a place yet
unmet : (tested : Tested) (f : Option Fate) (past : List Seen) (rule : Rule) → applies_under tested f past (length past + 1) rule ≡ false
unfolding applies_under
unmet tested f past rule =
    ap (λ b. binds rule tested && b) (occurs-nowhere tested.role (fate_under tested.role f past) (occasion tested.role rule) past (length past + 1) (moment-beyond past (length past + 1) (omega arith)))
    ∙ and_false (binds rule tested)

-- ---- places

-- as the latest connection's own fate says, they are those of the log
pub places-known : (tested : Tested) (log : List Seen) (rule : Rule) → places_under tested (latest_fate tested.role log) log rule ≡ places tested log rule
unfolding places places_under applies applies_under
places-known tested log rule =
    count-same (λ m. binds rule tested && occurs tested.role (fate_under tested.role (latest_fate tested.role log) log) (occasion tested.role rule) log (position m))
    (λ m. binds rule tested && occurs tested.role (λ c. fate tested.role c log) (occasion tested.role rule) log (position m))
    log
    (λ m le. ap (λ fates. binds rule tested && occurs tested.role fates (occasion tested.role rule) log (position m)) (λ i c. known-fates tested.role log c i))

pub places-under-start : (tested : Tested) (f : Option Fate) (rule : Rule) → places_under tested f [] rule ≡ 0
unfolding places_under
places-under-start tested f rule = refl

pub places-under-most : (tested : Tested) (f : Option Fate) (log : List Seen) (rule : Rule) → places_under tested f log rule ≤ length log
unfolding places_under
places-under-most tested f log rule = count-most (λ m. applies_under tested f log (position m) rule) log

-- with one event more, the places that there were and those that it adds
pub places-under-step : (tested : Tested) (f : Fate) (e : Seen) (past : List Seen) (rule : Rule) (s : Statement) → occasion tested.role rule ≡ Some s → is_by_session s ≡ true
    → places_under tested (Some f) (e ∷ past) rule ≡ places_under tested (fate_before tested f e past) past rule
    + count (λ m. adds_place_with tested f e past (position m) rule && not (applies_under tested (fate_before tested f e past) past (position m) rule)) (moments (e ∷ past))
unfolding places_under
places-under-step tested f e past rule s says by =
    count-same (λ m. applies_under tested (Some f) (e ∷ past) (position m) rule) (λ m. old m || adds m) (e ∷ past) (λ m le. applies-under-step tested f e past (position m) rule s says by)
    ∙ count-either old adds (moments (e ∷ past))
    ∙ ap (λ b. (cond b 1 0 + count old (moments past)) + count (λ m. adds m && not (old m)) (moments (e ∷ past))) (unmet tested (fate_before tested f e past) past rule)
    ∙ ap (λ n. n + count (λ m. adds m && not (old m)) (moments (e ∷ past))) (from-zero (count old (moments past)))
  where
    old : Moment → Bool
    old m = applies_under tested (fate_before tested f e past) past (position m) rule

    adds : Moment → Bool
    adds m = adds_place_with tested f e past (position m) rule

-- at most the event itself may be one more
pub places-under-once : (tested : Tested) (rule : Rule) (s : Statement) → occasion tested.role rule ≡ Some s → is_by_session s ≡ true → (f : Fate) (e : Seen) (past : List Seen) (here : Bool)
    → ((k : ℕ) → adds_place_with tested f e past k rule ≡ (is_next past k && here))
    → places_under tested (Some f) (e ∷ past) rule ≡ cond here 1 0 + places_under tested (fate_before tested f e past) past rule
unfolding places_under
places-under-once tested rule s says by f e past here once =
    ap (λ b. cond b 1 0 + count now (moments past)) newest-is
    ∙ ap (λ n. cond here 1 0 + n) (count-same now old past older-is)
  where
    now : Moment → Bool
    now m = applies_under tested (Some f) (e ∷ past) (position m) rule

    old : Moment → Bool
    old m = applies_under tested (fate_before tested f e past) past (position m) rule

    newest-is : now (newest e past) ≡ here
    newest-is =
        applies-under-step tested f e past (length past + 1) rule s says by
        ∙ ap (λ b. b || adds_place_with tested f e past (length past + 1) rule) (unmet tested (fate_before tested f e past) past rule)
        ∙ once (length past + 1)
        ∙ ap (λ b. b && here) (eq-eqb (length past + 1) (length past + 1) refl)

    older-is : (m : Moment) → position m ≤ length past → now m ≡ old m
    older-is m le =
        applies-under-step tested f e past (position m) rule s says by
        ∙ ap (λ b. old m || b) (once (position m))
        ∙ ap (λ b. old m || (b && here)) (differ (position m) (length past + 1) (λ is. omega arith))
        ∙ or_false (old m)

-- a statement that is judged at once
pub places-session : (tested : Tested) (rule : Rule) (test : Fate → Moment → Bool) → occasion tested.role rule ≡ Some (in_session test) → (f : Fate) (e : Seen) (past : List Seen)
    → places_under tested (Some f) (e ∷ past) rule ≡ cond (binds rule tested && (accepts f && test f (newest e past))) 1 0 + places_under tested (fate_before tested f e past) past rule
unfolding adds_place_with
places-session tested rule test says f e past = places-under-once tested rule (in_session test) says refl f e past (binds rule tested && (accepts f && test f (newest e past))) once
  where
    once : (k : ℕ) → adds_place_with tested f e past k rule ≡ (is_next past k && (binds rule tested && (accepts f && test f (newest e past))))
    once k = ap (λ o. binds rule tested && comes_with tested.role f o e past k) says ∙ and-past (binds rule tested) (is_next past k) (accepts f && test f (newest e past))

pub places-release : (tested : Tested) (rule : Rule) (test : Fate → Moment → Bool) → occasion tested.role rule ≡ Some (at_release test) → (f : Fate) (e : Seen) (past : List Seen)
    → places_under tested (Some f) (e ∷ past) rule ≡ cond (binds rule tested && test f (newest e past)) 1 0 + places_under tested (fate_before tested f e past) past rule
unfolding adds_place_with
places-release tested rule test says f e past = places-under-once tested rule (at_release test) says refl f e past (binds rule tested && test f (newest e past)) once
  where
    once : (k : ℕ) → adds_place_with tested f e past k rule ≡ (is_next past k && (binds rule tested && test f (newest e past)))
    once k = ap (λ o. binds rule tested && comes_with tested.role f o e past k) says ∙ and-past (binds rule tested) (is_next past k) (test f (newest e past))
