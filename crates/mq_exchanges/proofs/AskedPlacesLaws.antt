-- How often it is put to the test that each answer was asked for.
use Rattle.std.proofs.Common.{◌≡◌, ℕ, ◌+◌, ◌<◌, ◌==◌, Bool, true, false, cond, ◌&&◌, not, List, ◌∷◌, Option, Some, refl, ap, sym, ◌∙◌}
use Rattle.std.specs.Prelude.{is_some}
use Rattle.mq_rules.specs.declared.role.Tested.{Tested}
use Rattle.mq_rules.specs.declared.fate.Fate.{Fate}
use Rattle.mq_rules.specs.declared.rule.Rule.{Rule}
use Rattle.mq_rules.specs.declared.note.Seen.{Seen}
use Rattle.mq_rules.specs.Moments.{newest}
use Rattle.mq_rules.specs.Connections.{accepts, surprises, couldnt_know}
use Rattle.mq_rules.specs.Exchanges.{Exchange, applies_A}
use Rattle.mq_rules.specs.Rules.{binds}
use Rattle.mq_rules.specs.Statements.{in_session, if_early}
use Rattle.mq_rules.specs.Under.{IsUnder, fate_before}
use Rattle.mq_rules.specs.Occasions.{occasion, places_under}
use Rattle.mq_rules.proofs.Exports.{both_true}
use Rattle.mq_exchanges.specs.Answering.{IsApart}
use Rattle.mq_fates.specs.Knowing.{excused}
use Rattle.mq_fates.proofs.Exports.{counted-session, and-out, excused-known}

-- the event is a place where an answer is sent, unless the end couldn't know of what it answers
pub asked-places : (tested : Tested) (rule : Rule) (x : Exchange) (early : Bool) → IsApart x → occasion tested.role rule ≡ Some (in_session (if_early early tested.role (λ f. applies_A x)))
    → (f : Fate) (at : ℕ) (e : Seen) (past : List Seen) (here : Bool) (old new : ℕ) → IsUnder tested f at e past → old ≡ places_under tested (fate_before tested f e past) past rule
    → here ≡ excused (early && surprises f) (at == e.place.position) (binds rule tested && (accepts f && is_some (x.answer e.note)))
    → (old < e.place.position → new ≡ cond here 1 0 + old) → new ≡ places_under tested (Some f) (e ∷ past) rule
unfolding applies_A
asked-places tested rule x early packets says f at e past here old new under was is more =
    counted-session tested rule (if_early early tested.role (λ f. applies_A x)) says f at e past here old new under was (is ∙ sym (by_early early)) more
  where
    answers : Bool
    answers = is_some (x.answer e.note)

    always : (b : Bool) → b ≡ (b && true)
    always true = refl
    always false = refl

    by_early : (b : Bool) → (binds rule tested && (accepts f && if_early b tested.role (λ f. applies_A x) f (newest e past)))
        ≡ excused (b && surprises f) (at == e.place.position) (binds rule tested && (accepts f && answers))
    by_early false = always (binds rule tested && (accepts f && answers))
    by_early true =
        and-out (binds rule tested) (accepts f) answers (not (couldnt_know tested.role f (newest e past)))
        ∙ excused-known tested f at e past (surprises f) (binds rule tested && (accepts f && answers)) under
        (λ t. packets.needs e.note (both_true (accepts f) answers (both_true (binds rule tested) (accepts f && answers) t).1).1)
