-- Events that are held add no places of a statement on sessions.
use Rattle.std.proofs.Common.{◌≡◌, ℕ, Bool, true, false, ◌&&◌, List, [], ◌∷◌, ◌++◌, Option, Some, None, refl, ap, sym, ◌∙◌}
use Rattle.mq_rules.specs.declared.role.Tested.{Tested}
use Rattle.mq_rules.specs.declared.rule.Rule.{Rule}
use Rattle.mq_rules.specs.declared.note.Seen.{Seen}
use Rattle.mq_rules.specs.Words.{is_some_and}
use Rattle.mq_rules.specs.Moments.{newest, moment, is_next}
use Rattle.mq_rules.specs.Connections.{latest_fate}
use Rattle.mq_rules.specs.Rules.{binds}
use Rattle.mq_rules.specs.Statements.{Statement, on_bytes, on_past, in_session, at_release, at_rest, by_later, where_accepted}
use Rattle.mq_rules.specs.Occasions.{occasion, places, comes, adds_place}
use Rattle.mq_rules.proofs.Exports.{and_false, from-zero, places-once}
use Rattle.mq_fates.specs.Holding.{AreHeld}
use Rattle.mq_fates.specs.Placings.{is_on_sessions}
use Rattle.mq_fates.proofs.HoldLaws.{shows-nothing, unbound-after}

-- on an undecided connection none turns out
undecided-adds : (tested : Tested) (rule : Rule) (e : Seen) (past : List Seen) (k : ℕ) → is_on_sessions (occasion tested.role rule) ≡ true → latest_fate tested.role (e ∷ past) ≡ None → adds_place tested e past k rule ≡ false
unfolding adds_place
undecided-adds tested rule e past k on none = go (occasion tested.role rule) on
  where
    go : (o : Option Statement) → is_on_sessions o ≡ true → (binds rule tested && comes tested.role o e past k) ≡ false
    go None h = absurd (cc)
    go (Some (on_bytes bytes)) h = absurd (cc)
    go (Some (on_past test)) h = absurd (cc)
    go (Some (by_later test)) h = absurd (cc)
    go (Some (in_session test)) h = ap (λ b. binds rule tested && b) (shows-nothing tested.role (where_accepted test) e past k none) ∙ and_false (binds rule tested)
    go (Some (at_release test)) h = ap (λ b. binds rule tested && b) (shows-nothing tested.role test e past k none) ∙ and_false (binds rule tested)
    go (Some (at_rest test)) h = ap (λ b. binds rule tested && (b && is_some_and (test (newest e past)) (moment past k))) (unbound-after tested.role e past none) ∙ and_false (binds rule tested)

undecided-places : (tested : Tested) (rule : Rule) (e : Seen) (past : List Seen) → is_on_sessions (occasion tested.role rule) ≡ true → latest_fate tested.role (e ∷ past) ≡ None → places tested (e ∷ past) rule ≡ places tested past rule
undecided-places tested rule e past on none =
    places-once tested rule e past false (λ k. undecided-adds tested rule e past k on none ∙ sym (and_false (is_next past k)))
    ∙ from-zero (places tested past rule)

-- so those that are held have none
pub held-places : (tested : Tested) (rule : Rule) (hs base : List Seen) → is_on_sessions (occasion tested.role rule) ≡ true → AreHeld tested.role hs base → places tested (hs ++ base) rule ≡ places tested base rule
held-places tested rule [] base on held = refl
held-places tested rule (e ∷ hs) base on held = undecided-places tested rule e (hs ++ base) on held.1 ∙ held-places tested rule hs base on held.2
