-- Causes on the latest connection, which a REST puts to the test all at once.
use Rattle.std.proofs.Common.{◌≡◌, ℕ, ◌+◌, ◌≤◌, ◌==◌, arith, Bool, true, false, cond, ◌&&◌, ◌||◌, not, List, [], ◌∷◌, length, Option, Some, None, refl, ap, sym, ◌∙◌}
use Rattle.std.proofs.lemmas.Bool.{eq-eqb}
use Rattle.std.specs.Prelude.{is_some}
use Rattle.mq_rules.specs.declared.role.Tested.{Tested}
use Rattle.mq_rules.specs.declared.fate.Fate.{Fate}
use Rattle.mq_rules.specs.declared.rule.Rule.{Rule}
use Rattle.mq_rules.specs.declared.note.Seen.{Seen}
use Rattle.mq_rules.specs.Words.{is_some_and}
use Rattle.mq_rules.specs.Notes.{is_open}
use Rattle.mq_rules.specs.Moments.{Moment, newest, position, moments, moment, is_next, is_same, some, count}
use Rattle.mq_rules.specs.Connections.{connection, fate, fate_under, is_binding}
use Rattle.mq_rules.specs.Exchanges.{Exchange, applies_R}
use Rattle.mq_rules.specs.Rules.{binds}
use Rattle.mq_rules.specs.Statements.{at_rest}
use Rattle.mq_rules.specs.Occasions.{occasion, occurs, applies, places, comes, adds_place, applies_under, places_under, is_first, is_first_here, waiting}
use Rattle.mq_rules.proofs.BoolLaws.{and_false, differ}
use Rattle.mq_rules.proofs.ConnLaws.{connection-next}
use Rattle.mq_rules.proofs.StepLaws.{moment-beyond, moment-newest, moment-older, moment-within}
use Rattle.mq_rules.proofs.PlacesLaws.{applies-step, applies-nowhere, count-either, count-most, count-none, count-same, from-zero, places-once}

-- what a REST that binds puts to the test doesn't depend on the fate of the latest connection
pub places-at-rest : (tested : Tested) (f : Option Fate) (log : List Seen) (rule : Rule) (test : Moment → Moment → Bool) → occasion tested.role rule ≡ Some (at_rest test) → places_under tested f log rule ≡ places tested log rule
unfolding places places_under applies applies_under
places-at-rest tested f log rule test says =
    count-same (λ m. binds rule tested && occurs tested.role under (occasion tested.role rule) log (position m)) (λ m. binds rule tested && occurs tested.role own (occasion tested.role rule) log (position m)) log
    (λ m le. ap (λ o. binds rule tested && occurs tested.role under o log (position m)) says ∙ sym (ap (λ o. binds rule tested && occurs tested.role own o log (position m)) says))
  where
    under : ℕ → Option Fate
    under = fate_under tested.role f log

    own : ℕ → Option Fate
    own c = fate tested.role c log

-- with one event more a position is a place if it was, or if the event is a REST that binds and a first cause on its connection stands there
rest-step-at : (tested : Tested) (rule : Rule) (x : Exchange) (e : Seen) (past : List Seen) (k : ℕ) → occasion tested.role rule ≡ Some (at_rest (applies_R x)) → binds rule tested ≡ true
    → applies tested (e ∷ past) k rule ≡ (applies tested past k rule || (is_binding tested.role (newest e past) && is_first_here x past k))
unfolding adds_place applies_R
rest-step-at tested rule x e past k says bound =
    applies-step tested e past k rule
    ∙ ap (λ o. applies tested past k rule || (binds rule tested && comes tested.role o e past k)) says
    ∙ ap (λ b. applies tested past k rule || (b && (is_binding tested.role (newest e past) && is_first_here x past k))) bound

-- a REST that binds puts to the test all that waits
pub places-rest : (tested : Tested) (rule : Rule) (x : Exchange) (e : Seen) (past : List Seen) → occasion tested.role rule ≡ Some (at_rest (applies_R x)) → binds rule tested ≡ true → is_binding tested.role (newest e past) ≡ true
    → places tested (e ∷ past) rule ≡ places tested past rule + waiting tested rule x past
unfolding places waiting
places-rest tested rule x e past says bound rests =
    ap (λ t. cond t 1 0 + count (λ m. now (position m)) (moments past)) (at (length past + 1) ∙ ap (λ b. b || is_first_here x past (length past + 1)) (applies-nowhere tested past (length past + 1) rule beyond)
    ∙ ap (is_some_and (λ m. is_first x m && some (is_same m) (connection past))) beyond)
    ∙ from-zero (count (λ m. now (position m)) (moments past))
    ∙ count-same (λ m. now (position m)) (λ m. old (position m) || is_first_here x past (position m)) past (λ m le. at (position m))
    ∙ count-either (λ m. old (position m)) (λ m. is_first_here x past (position m)) (moments past)
  where
    now : ℕ → Bool
    now k = applies tested (e ∷ past) k rule

    old : ℕ → Bool
    old k = applies tested past k rule

    beyond : moment past (length past + 1) ≡ None
    beyond = moment-beyond past (length past + 1) (omega arith)

    at : (k : ℕ) → now k ≡ (old k || is_first_here x past k)
    at k = rest-step-at tested rule x e past k says bound ∙ ap (λ b. old k || (b && is_first_here x past k)) rests

-- no other event does
pub places-awake : (tested : Tested) (rule : Rule) (test : Moment → Moment → Bool) (e : Seen) (past : List Seen) → occasion tested.role rule ≡ Some (at_rest test) → is_binding tested.role (newest e past) ≡ false
    → places tested (e ∷ past) rule ≡ places tested past rule
unfolding adds_place
places-awake tested rule test e past says awake = places-once tested rule e past false
    (λ k. ap (λ o. binds rule tested && comes tested.role o e past k) says
    ∙ ap (λ b. binds rule tested && (b && is_some_and (test (newest e past)) (moment past k))) awake ∙ and_false (binds rule tested) ∙ sym (and_false (is_next past k)))
    ∙ from-zero (places tested past rule)

-- ---- what waits

none-count : (a : Moment → Bool) (log : List Seen) → ((m : Moment) → position m ≤ length log → a m ≡ false) → count a (moments log) ≡ 0
none-count a log none = count-same a (λ m. false) log none ∙ count-none (λ m. false) (moments log) (λ m. refl)

-- a position of before isn't the next one
older-next : (past : List Seen) (k : ℕ) → k ≤ length past → is_next past k ≡ false
older-next past k le = differ k (length past + 1) (λ is. omega arith)

-- at an earlier position, with one event more
older-here : (x : Exchange) (e : Seen) (past : List Seen) (k : ℕ) → k ≤ length past → is_first_here x (e ∷ past) k ≡ (not (is_open e.note) && is_first_here x past k)
older-here x e past k le =
    ap (is_some_and (λ m. is_first x m && some (is_same m) (connection (e ∷ past)))) (moment-older e past k (older-next past k le))
    ∙ each (moment past k) refl
  where
    there : (m : Moment) → position m ≤ length past → (b : Bool) → (is_same m (newest e past) || some (is_same m) (cond b [] (connection past))) ≡ (not b && some (is_same m) (connection past))
    there m le b = ap (λ t. t || some (is_same m) (cond b [] (connection past))) (differ (position m) (length past + 1) (λ q. omega arith)) ∙ by b
      where
        by : (b : Bool) → some (is_same m) (cond b [] (connection past)) ≡ (not b && some (is_same m) (connection past))
        by true = refl
        by false = refl

    last : (a b c : Bool) → (a && (b && c)) ≡ (b && (a && c))
    last true true c = refl
    last true false c = refl
    last false true c = refl
    last false false c = refl

    each : (o : Option Moment) → moment past k ≡ o → is_some_and (λ m. is_first x m && some (is_same m) (connection (e ∷ past))) o ≡ (not (is_open e.note) && is_some_and (λ m. is_first x m && some (is_same m) (connection past)) o)
    each None at = sym (and_false (not (is_open e.note)))
    each (Some m) at =
        ap (λ ms. is_first x m && some (is_same m) ms) (connection-next e past)
        ∙ ap (λ t. is_first x m && t) (there m (moment-within past k m at) (is_open e.note))
        ∙ last (is_first x m) (not (is_open e.note)) (some (is_same m) (connection past))

-- with one event more: the event, if it is such a cause; and what waited, unless it is an OPEN, or a REST that binds
pub waiting-next : (tested : Tested) (rule : Rule) (x : Exchange) (e : Seen) (past : List Seen) → occasion tested.role rule ≡ Some (at_rest (applies_R x)) → binds rule tested ≡ true
    → waiting tested rule x (e ∷ past) ≡ cond (is_first x (newest e past)) 1 0 + cond (is_open e.note || is_binding tested.role (newest e past)) 0 (waiting tested rule x past)
unfolding waiting
waiting-next tested rule x e past says bound =
    ap (λ t. cond t 1 0 + count (λ m. now (position m)) (moments past)) newest_waits
    ∙ ap (λ n. cond (is_first x (newest e past)) 1 0 + n) (go (is_open e.note) refl (is_binding tested.role (newest e past)) refl)
  where
    now : ℕ → Bool
    now k = is_first_here x (e ∷ past) k && not (applies tested (e ∷ past) k rule)

    old : ℕ → Bool
    old k = is_first_here x past k && not (applies tested past k rule)

    step : (k : ℕ) → applies tested (e ∷ past) k rule ≡ (applies tested past k rule || (is_binding tested.role (newest e past) && is_first_here x past k))
    step k = rest-step-at tested rule x e past k says bound

    beyond : moment past (length past + 1) ≡ None
    beyond = moment-beyond past (length past + 1) (omega arith)

    newest_waits : now (length past + 1) ≡ is_first x (newest e past)
    newest_waits =
        ap (λ o. is_some_and (λ m. is_first x m && some (is_same m) (connection (e ∷ past))) o && not (applies tested (e ∷ past) (length past + 1) rule)) (moment-newest e past)
        ∙ ap (λ ms. (is_first x (newest e past) && some (is_same (newest e past)) ms) && not (applies tested (e ∷ past) (length past + 1) rule)) (connection-next e past)
        ∙ ap (λ t. (is_first x (newest e past) && (t || some (is_same (newest e past)) (cond (is_open e.note) [] (connection past)))) && not (applies tested (e ∷ past) (length past + 1) rule)) (eq-eqb (length past + 1) (length past + 1) refl)
        ∙ ap (λ t. (is_first x (newest e past) && true) && not t) unmet
        ∙ last (is_first x (newest e past))
      where
        unmet : applies tested (e ∷ past) (length past + 1) rule ≡ false
        unmet = step (length past + 1)
            ∙ ap (λ o. o || (is_binding tested.role (newest e past) && is_first_here x past (length past + 1))) (applies-nowhere tested past (length past + 1) rule beyond)
            ∙ ap (λ o. is_binding tested.role (newest e past) && is_some_and (λ m. is_first x m && some (is_same m) (connection past)) o) beyond
            ∙ and_false (is_binding tested.role (newest e past))

        last : (a : Bool) → ((a && true) && true) ≡ a
        last true = refl
        last false = refl

    same : (k : ℕ) → k ≤ length past → now k ≡ ((not (is_open e.note) && is_first_here x past k) && not (applies tested past k rule || (is_binding tested.role (newest e past) && is_first_here x past k)))
    same k le = ap (λ t. t && not (applies tested (e ∷ past) k rule)) (older-here x e past k le) ∙ ap (λ t. (not (is_open e.note) && is_first_here x past k) && not t) (step k)

    rested : (a b : Bool) → (b && not (a || b)) ≡ false
    rested true true = refl
    rested true false = refl
    rested false true = refl
    rested false false = refl

    awake : (a b : Bool) → (b && not (a || false)) ≡ (b && not a)
    awake true b = refl
    awake false b = refl

    go : (o : Bool) → is_open e.note ≡ o → (r : Bool) → is_binding tested.role (newest e past) ≡ r → count (λ m. now (position m)) (moments past) ≡ cond (o || r) 0 (count (λ m. old (position m)) (moments past))
    go true opens r rests = none-count (λ m. now (position m)) past (λ m le. same (position m) le ∙ ap (λ t. (not t && is_first_here x past (position m)) && not (applies tested past (position m) rule || (is_binding tested.role (newest e past) && is_first_here x past (position m)))) opens)
    go false opens true rests = none-count (λ m. now (position m)) past (λ m le. same (position m) le
        ∙ ap (λ t. (not t && is_first_here x past (position m)) && not (applies tested past (position m) rule || (is_binding tested.role (newest e past) && is_first_here x past (position m)))) opens
        ∙ ap (λ t. is_first_here x past (position m) && not (applies tested past (position m) rule || (t && is_first_here x past (position m)))) rests
        ∙ rested (applies tested past (position m) rule) (is_first_here x past (position m)))
    go false opens false rests = count-same (λ m. now (position m)) (λ m. old (position m)) past (λ m le. same (position m) le
        ∙ ap (λ t. (not t && is_first_here x past (position m)) && not (applies tested past (position m) rule || (is_binding tested.role (newest e past) && is_first_here x past (position m)))) opens
        ∙ ap (λ t. is_first_here x past (position m) && not (applies tested past (position m) rule || (t && is_first_here x past (position m)))) rests
        ∙ awake (applies tested past (position m) rule) (is_first_here x past (position m)))

pub waiting-most : (tested : Tested) (rule : Rule) (x : Exchange) (log : List Seen) → waiting tested rule x log ≤ length log
unfolding waiting
waiting-most tested rule x log = count-most (λ m. is_first_here x log (position m) && not (applies tested log (position m) rule)) log
