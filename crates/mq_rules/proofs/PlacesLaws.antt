-- The places of a statement in a log that grows.
use Rattle.std.proofs.Common.{◌≡◌, ℕ, ◌+◌, ◌≤◌, arith, Bool, true, false, cond, ◌&&◌, ◌||◌, not, List, [], ◌∷◌, length, Option, Some, None, refl, ap, ◌∙◌}
use Rattle.std.proofs.lemmas.Bool.{eq-eqb}
use Rattle.mq_rules.specs.declared.role.Role.{Role}
use Rattle.mq_rules.specs.declared.role.Tested.{Tested}
use Rattle.mq_rules.specs.declared.fate.Fate.{Fate}
use Rattle.mq_rules.specs.declared.rule.Rule.{Rule}
use Rattle.mq_rules.specs.declared.note.Seen.{Seen}
use Rattle.mq_rules.specs.Moments.{Moment, newest, position, moments, moment, is_next, count}
use Rattle.mq_rules.specs.Connections.{fate}
use Rattle.mq_rules.specs.Rules.{binds}
use Rattle.mq_rules.specs.Statements.{Statement, on_past}
use Rattle.mq_rules.specs.Occasions.{occasion, occurs, applies, places, comes, adds_place}
use Rattle.mq_rules.proofs.BoolLaws.{and_false, and-over, and-past, or_false, differ}
use Rattle.mq_rules.proofs.StepLaws.{moment-beyond, false-step, false-nowhere}

-- ---- what is put to the test

occurs-step : (role : Role) (o : Option Statement) (e : Seen) (past : List Seen) (k : ℕ)
    → occurs role (λ c. fate role c (e ∷ past)) o (e ∷ past) k ≡ (occurs role (λ c. fate role c past) o past k || comes role o e past k)
occurs-step role None e past k = refl
occurs-step role (Some s) e past k = false-step role s e past k

-- what is put to the test with one event more was so already, or turns out so
pub applies-step : (tested : Tested) (e : Seen) (past : List Seen) (k : ℕ) (rule : Rule) → applies tested (e ∷ past) k rule ≡ (applies tested past k rule || adds_place tested e past k rule)
unfolding applies adds_place
applies-step tested e past k rule =
    ap (λ b. binds rule tested && b) (occurs-step tested.role (occasion tested.role rule) e past k)
    ∙ and-over (binds rule tested) (occurs tested.role (λ c. fate tested.role c past) (occasion tested.role rule) past k) (comes tested.role (occasion tested.role rule) e past k)

pub occurs-nowhere : (role : Role) (fates : ℕ → Option Fate) (o : Option Statement) (log : List Seen) (k : ℕ) → moment log k ≡ None → occurs role fates o log k ≡ false
occurs-nowhere role fates None log k none = refl
occurs-nowhere role fates (Some s) log k none = false-nowhere role fates s log k none

-- a position without a moment is no place
pub applies-nowhere : (tested : Tested) (log : List Seen) (k : ℕ) (rule : Rule) → moment log k ≡ None → applies tested log k rule ≡ false
unfolding applies
applies-nowhere tested log k rule none =
    ap (λ b. binds rule tested && b) (occurs-nowhere tested.role (λ c. fate tested.role c log) (occasion tested.role rule) log k none) ∙ and_false (binds rule tested)

-- the position of the next event isn't one yet
pub unmet : (tested : Tested) (past : List Seen) (rule : Rule) → applies tested past (length past + 1) rule ≡ false
unmet tested past rule = applies-nowhere tested past (length past + 1) rule (moment-beyond past (length past + 1) (omega arith))

-- ---- counting moments

pub count-most : (test : Moment → Bool) (log : List Seen) → count test (moments log) ≤ length log
count-most test [] = omega arith
count-most test (e ∷ past) = go (test (newest e past)) (count-most test past)
  where
    go : (b : Bool) → count test (moments past) ≤ length past → cond b 1 0 + count test (moments past) ≤ length (e ∷ past)
    go true h = omega arith
    go false h = omega arith

pub count-none : (test : Moment → Bool) (ms : List Moment) → ((m : Moment) → test m ≡ false) → count test ms ≡ 0
count-none test [] none = refl
count-none test (m ∷ ms) none = ap (λ b. cond b 1 0 + count test ms) (none m) ∙ ap (λ n. 0 + n) (count-none test ms none)

pub count-same : (a b : Moment → Bool) (log : List Seen) → ((m : Moment) → position m ≤ length log → a m ≡ b m) → count a (moments log) ≡ count b (moments log)
count-same a b [] same = refl
count-same a b (e ∷ past) same =
    ap (λ t. cond t 1 0 + count a (moments past)) (same (newest e past) (omega arith))
    ∙ ap (λ n. cond (b (newest e past)) 1 0 + n) (count-same a b past (λ m le. same m (omega arith)))

pub count-either : (a b : Moment → Bool) (ms : List Moment) → count (λ m. a m || b m) ms ≡ count a ms + count (λ m. b m && not (a m)) ms
count-either a b [] = refl
count-either a b (m ∷ ms) = go (a m) (b m) (count-either a b ms)
  where
    go : (x y : Bool) → count (λ m. a m || b m) ms ≡ count a ms + count (λ m. b m && not (a m)) ms
        → cond (x || y) 1 0 + count (λ m. a m || b m) ms ≡ (cond x 1 0 + count a ms) + (cond (y && not x) 1 0 + count (λ m. b m && not (a m)) ms)
    go true true h = omega arith
    go true false h = omega arith
    go false true h = omega arith
    go false false h = omega arith

pub from-zero : (n : ℕ) → 0 + n ≡ n
from-zero n = omega arith

-- ---- places

pub places-start : (tested : Tested) (rule : Rule) → places tested [] rule ≡ 0
unfolding places
places-start tested rule = refl

pub places-most : (tested : Tested) (log : List Seen) (rule : Rule) → places tested log rule ≤ length log
unfolding places
places-most tested log rule = count-most (λ m. applies tested log (position m) rule) log

-- with one event more, the places that there were and those that it adds
pub places-step : (tested : Tested) (e : Seen) (past : List Seen) (rule : Rule) → places tested (e ∷ past) rule
    ≡ places tested past rule + count (λ m. adds_place tested e past (position m) rule && not (applies tested past (position m) rule)) (moments (e ∷ past))
unfolding places
places-step tested e past rule =
    count-same (λ m. applies tested (e ∷ past) (position m) rule) (λ m. old m || adds m) (e ∷ past) (λ m le. applies-step tested e past (position m) rule)
    ∙ count-either old adds (moments (e ∷ past))
    ∙ ap (λ b. (cond b 1 0 + count old (moments past)) + count (λ m. adds m && not (old m)) (moments (e ∷ past))) (unmet tested past rule)
    ∙ ap (λ n. n + count (λ m. adds m && not (old m)) (moments (e ∷ past))) (from-zero (count old (moments past)))
  where
    old : Moment → Bool
    old m = applies tested past (position m) rule

    adds : Moment → Bool
    adds m = adds_place tested e past (position m) rule

-- at most the event itself may be one more
pub places-once : (tested : Tested) (rule : Rule) (e : Seen) (past : List Seen) (here : Bool) → ((k : ℕ) → adds_place tested e past k rule ≡ (is_next past k && here))
    → places tested (e ∷ past) rule ≡ cond here 1 0 + places tested past rule
unfolding places
places-once tested rule e past here once =
    ap (λ b. cond b 1 0 + count now (moments past)) newest-is
    ∙ ap (λ n. cond here 1 0 + n) (count-same now (λ m. applies tested past (position m) rule) past older-is)
  where
    now : Moment → Bool
    now m = applies tested (e ∷ past) (position m) rule

    newest-is : now (newest e past) ≡ here
    newest-is =
        applies-step tested e past (length past + 1) rule
        ∙ ap (λ b. b || adds_place tested e past (length past + 1) rule) (unmet tested past rule)
        ∙ once (length past + 1)
        ∙ ap (λ b. b && here) (eq-eqb (length past + 1) (length past + 1) refl)

    older-is : (m : Moment) → position m ≤ length past → now m ≡ applies tested past (position m) rule
    older-is m le =
        applies-step tested e past (position m) rule
        ∙ ap (λ b. applies tested past (position m) rule || b) (once (position m))
        ∙ ap (λ b. applies tested past (position m) rule || (b && here)) (differ (position m) (length past + 1) (λ is. omega arith))
        ∙ or_false (applies tested past (position m) rule)

-- ---- places and faults

-- a statement that doesn't bind the tested end has none
pub places-unbound : (tested : Tested) (log : List Seen) (rule : Rule) → binds rule tested ≡ false → places tested log rule ≡ 0
unfolding places applies
places-unbound tested log rule unbound =
    count-none (λ m. binds rule tested && occurs tested.role (λ c. fate tested.role c log) (occasion tested.role rule) log (position m)) (moments log)
    (λ m. ap (λ b. b && occurs tested.role (λ c. fate tested.role c log) (occasion tested.role rule) log (position m)) unbound)

-- ---- statements on the past of a connection

pub places-past : (tested : Tested) (rule : Rule) (test : Moment → Bool) (e : Seen) (past : List Seen) → occasion tested.role rule ≡ Some (on_past test)
    → places tested (e ∷ past) rule ≡ cond (binds rule tested && test (newest e past)) 1 0 + places tested past rule
unfolding adds_place
places-past tested rule test e past says = places-once tested rule e past (binds rule tested && test (newest e past)) once
  where
    once : (k : ℕ) → adds_place tested e past k rule ≡ (is_next past k && (binds rule tested && test (newest e past)))
    once k = ap (λ o. binds rule tested && comes tested.role o e past k) says ∙ and-past (binds rule tested) (is_next past k) (test (newest e past))
