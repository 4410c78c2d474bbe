-- How often B01 and B02 are put to the test.
use Rattle.std.proofs.Common.{◌≡◌, ℕ, ◌+◌, ◌<◌, Bool, true, false, cond, ◌&&◌, ◌||◌, List, ◌∷◌, Option, Some, refl, ap, sym, ◌∙◌}
use Rattle.mq_rules.specs.declared.role.Tested.{Tested}
use Rattle.mq_rules.specs.declared.fate.Fate.{Fate}
use Rattle.mq_rules.specs.declared.rule.Rule.{Rule}
use Rattle.mq_rules.specs.declared.rule.Rule.TheVariants.{B01, B02}
use Rattle.mq_rules.specs.declared.note.Seen.{Seen}
use Rattle.mq_rules.specs.Notes.{is_acknowledged}
use Rattle.mq_rules.specs.Connections.{accepts}
use Rattle.mq_rules.specs.Subscriptions.{Standing, applies_B01, applies_B02}
use Rattle.mq_rules.specs.Rules.{binds, same_rule}
use Rattle.mq_rules.specs.Under.{IsUnder, fate_before}
use Rattle.mq_rules.specs.Occasions.{places_under}
use Rattle.mq_subscriptions.specs.Standings.{Waits, IsStanding, delivers_so}
use Rattle.mq_fates.proofs.Exports.{counted-session, places-same}
use Rattle.mq_subscriptions.proofs.DeliveryLaws.{binds-B02, delivered}

pub B01-places : (tested : Tested) (fate f : Fate) (settled : List Standing) (waiting : List Waits) (sharing : Bool) (topics : ℕ → Option (List ℕ)) (at : ℕ) (e : Seen) (past : List Seen) (bound here : Bool) (old new : ℕ) → IsUnder tested f at e past
    → IsStanding fate settled waiting sharing topics tested (fate_before tested f e past) past → bound ≡ binds B01 tested
    → old ≡ places_under tested (fate_before tested f e past) past B01 → here ≡ (bound && (accepts f && delivers_so e.note sharing topics (λ p topic. true)))
    → (old < e.place.position → new ≡ cond here 1 0 + old) → new ≡ places_under tested (Some f) (e ∷ past) B01
unfolding applies_B01
B01-places tested fate f settled waiting sharing topics at e past bound here old new under s judged was is more =
    counted-session tested B01 (applies_B01 tested.role) refl f at e past here old new under was
    (is
    ∙ ap (λ b. b && (accepts f && delivers_so e.note sharing topics (λ p topic. true))) judged
    ∙ ap (λ t. binds B01 tested && (accepts f && t)) (sym (delivered tested fate f settled waiting sharing topics e past (λ p topic. true) (λ p topic. true) under.follows.on_connections.0 s (λ same p topic. refl)))) more

pub B02-places : (tested : Tested) (fate f : Fate) (settled : List Standing) (waiting : List Waits) (sharing : Bool) (topics : ℕ → Option (List ℕ)) (at : ℕ) (e : Seen) (past : List Seen) (bound here : Bool) (old new : ℕ) → IsUnder tested f at e past
    → IsStanding fate settled waiting sharing topics tested (fate_before tested f e past) past → bound ≡ binds B01 tested
    → old ≡ places_under tested (fate_before tested f e past) past B02 → here ≡ (bound && (accepts f && delivers_so e.note sharing topics (λ p topic. is_acknowledged p.qos)))
    → (old < e.place.position → new ≡ cond here 1 0 + old) → new ≡ places_under tested (Some f) (e ∷ past) B02
unfolding applies_B02
B02-places tested fate f settled waiting sharing topics at e past bound here old new under s judged was is more =
    counted-session tested B02 (applies_B02 tested.role) refl f at e past here old new under was
    (is
    ∙ ap (λ b. b && (accepts f && delivers_so e.note sharing topics (λ p topic. is_acknowledged p.qos))) (judged ∙ sym (binds-B02 tested.role tested.releases tested.further))
    ∙ ap (λ t. binds B02 tested && (accepts f && t)) (sym (delivered tested fate f settled waiting sharing topics e past (λ p topic. is_acknowledged p.qos) (λ p topic. is_acknowledged p.qos) under.follows.on_connections.0 s (λ same p topic. refl)))) more

-- what is counted of the two is what is asked of one of them
pub delivery-picked : (tested : Tested) (taken : Option Fate) (past : List Seen) (delivered acknowledged : ℕ) (rule : Rule) → delivered ≡ places_under tested taken past B01 → acknowledged ≡ places_under tested taken past B02
    → (same_rule rule B01 || same_rule rule B02) ≡ true → cond (same_rule rule B01) delivered acknowledged ≡ places_under tested taken past rule
delivery-picked tested taken past delivered acknowledged rule one two judged = go (same_rule rule B01) refl judged
  where
    go : (a : Bool) → same_rule rule B01 ≡ a → (a || same_rule rule B02) ≡ true → cond a delivered acknowledged ≡ places_under tested taken past rule
    go true is h = places-same tested taken past B01 rule delivered one is
    go false is h = places-same tested taken past B02 rule acknowledged two h
