-- How often L1, L2 and L3 are put to the test.
use Rattle.std.proofs.Common.{◌≡◌, ℕ, ◌+◌, ◌<◌, ◌==◌, arith, Bool, true, false, cond, ◌&&◌, ◌||◌, List, ◌∷◌, length, Option, Some, refl, ap, sym, ◌∙◌}
use Rattle.std.specs.Prelude.{is_some}
use Rattle.mq_rules.specs.declared.role.Role.{Role}
use Rattle.mq_rules.specs.declared.role.Tested.{Tested}
use Rattle.mq_rules.specs.declared.fate.Fate.{Fate}
use Rattle.mq_rules.specs.declared.rule.Rule.{Rule}
use Rattle.mq_rules.specs.declared.rule.Rule.TheVariants.{L1, L2, L3}
use Rattle.mq_rules.specs.declared.note.Seen.{Seen}
use Rattle.mq_rules.specs.Words.{is_some_and}
use Rattle.mq_rules.specs.Notes.{released_id, sent_as, success_pubcomp_in}
use Rattle.mq_rules.specs.Moments.{Moment, newest, note}
use Rattle.mq_rules.specs.Connections.{accepts, is_placed_release}
use Rattle.mq_rules.specs.Releases.{applies_L1, applies_L2, applies_L3}
use Rattle.mq_rules.specs.Rules.{binds, same_rule}
use Rattle.mq_rules.specs.Statements.{at_release, where_placed}
use Rattle.mq_rules.specs.Under.{IsUnder, fate_before}
use Rattle.mq_rules.specs.Occasions.{occasion, places_under}
use Rattle.mq_rules.proofs.Exports.{both_true, places-release, places-under-most, release-needs}
use Rattle.mq_fates.specs.Knowing.{is_placed}
use Rattle.mq_exchanges.specs.Releasing.{needs_release, IsReleasing}
use Rattle.mq_fates.proofs.Exports.{counted-session, places-same, and-apart, placed-known}
use Rattle.mq_exchanges.proofs.ReleaseLaws.{binds-L1, binds-L2, binds-L3, open-unseen, same-found}

-- one that is judged at a RELEASE: the event is a place, or isn't
counted-release : (tested : Tested) (rule : Rule) (test : Fate → Moment → Bool) → occasion tested.role rule ≡ Some (at_release test) → (f : Fate) (at : ℕ) (e : Seen) (past : List Seen) (here : Bool) (old new : ℕ)
    → IsUnder tested f at e past → old ≡ places_under tested (fate_before tested f e past) past rule → here ≡ (binds rule tested && test f (newest e past))
    → (old < e.place.position → new ≡ cond here 1 0 + old) → new ≡ places_under tested (Some f) (e ∷ past) rule
counted-release tested rule test says f at e past here old new under was is more =
    let most = places-under-most tested (fate_before tested f e past) past rule in
    let placed = under.follows.placed.0 in
    more (omega arith)
    ∙ ap (λ n. cond here 1 0 + n) was
    ∙ ap (λ b. cond b 1 0 + places_under tested (fate_before tested f e past) past rule) is
    ∙ sym (places-release tested rule test says f e past)

-- a RELEASE whose session is known
release-places : (tested : Tested) (rule : Rule) (applies : Moment → Bool) → occasion tested.role rule ≡ Some (at_release (where_placed tested.role (λ f. applies))) → (releases : Bool) → binds rule tested ≡ releases
    → (f : Fate) (at : ℕ) (e : Seen) (past : List Seen) (here : Bool) (old new : ℕ) → applies (newest e past) ≡ is_some (released_id e.note) → IsUnder tested f at e past → old ≡ places_under tested (fate_before tested f e past) past rule
    → here ≡ ((releases && is_some (released_id e.note)) && is_placed f (at == e.place.position)) → (old < e.place.position → new ≡ cond here 1 0 + old) → new ≡ places_under tested (Some f) (e ∷ past) rule
release-places tested rule applies says releases bound f at e past here old new tries under was is more =
    counted-release tested rule (where_placed tested.role (λ f. applies)) says f at e past here old new under was
    (is
    ∙ sym (placed-known tested f at e past (releases && is_some (released_id e.note)) under (λ t. release-needs e.note (both_true releases (is_some (released_id e.note)) t).1))
    ∙ sym (and-apart releases (is_some (released_id e.note)) (is_placed_release tested.role f (newest e past)))
    ∙ ap (λ b. b && (is_some (released_id e.note) && is_placed_release tested.role f (newest e past))) (sym bound)
    ∙ ap (λ b. binds rule tested && (b && is_placed_release tested.role f (newest e past))) (sym tries)) more

pub L1-places : (tested : Tested) (releases : Bool) (f : Fate) (at : ℕ) (e : Seen) (past : List Seen) (here : Bool) (old new : ℕ) → releases ≡ tested.releases → IsUnder tested f at e past
    → old ≡ places_under tested (fate_before tested f e past) past L1 → here ≡ ((releases && is_some (released_id e.note)) && is_placed f (at == e.place.position))
    → (old < e.place.position → new ≡ cond here 1 0 + old) → new ≡ places_under tested (Some f) (e ∷ past) L1
unfolding applies_L1
L1-places tested releases f at e past here old new same under was is more =
    release-places tested L1 applies_L1 refl releases (binds-L1 tested.role tested.releases tested.further ∙ sym same) f at e past here old new refl under was is more

pub L2-places : (tested : Tested) (releases : Bool) (f : Fate) (at : ℕ) (e : Seen) (past : List Seen) (here : Bool) (old new : ℕ) → releases ≡ tested.releases → IsUnder tested f at e past
    → old ≡ places_under tested (fate_before tested f e past) past L2 → here ≡ ((releases && is_some (released_id e.note)) && is_placed f (at == e.place.position))
    → (old < e.place.position → new ≡ cond here 1 0 + old) → new ≡ places_under tested (Some f) (e ∷ past) L2
unfolding applies_L2
L2-places tested releases f at e past here old new same under was is more =
    release-places tested L2 applies_L2 refl releases (binds-L2 tested.role tested.releases tested.further ∙ sym same) f at e past here old new refl under was is more

-- an exchange is completed whose message needs a RELEASE
pub L3-places : (tested : Tested) (role : Role) (releases : Bool) (fate f : Fate) (any : Bool) (brought released due : ℕ → Bool) (at : ℕ) (e : Seen) (past : List Seen) (here : Bool) (old new : ℕ)
    → IsReleasing role releases fate any brought released due tested (fate_before tested f e past) past → IsUnder tested f at e past
    → old ≡ places_under tested (fate_before tested f e past) past L3 → here ≡ (releases && (accepts f && is_some_and due (sent_as success_pubcomp_in e.note)))
    → (old < e.place.position → new ≡ cond here 1 0 + old) → new ≡ places_under tested (Some f) (e ∷ past) L3
unfolding applies_L3
L3-places tested role releases fate f any brought released due at e past here old new r under was is more =
    counted-session tested L3 (applies_L3 tested.role) refl f at e past here old new under was
    (is
    ∙ ap (λ b. releases && (accepts f && b)) (same-found tested f e past due needs_release (sent_as success_pubcomp_in e.note) (λ h. (open-unseen e.note h).2) r.due_are)
    ∙ ap (λ b. b && (accepts f && applies_L3 tested.role f (newest e past))) (r.same_releases ∙ sym (binds-L3 tested.role tested.releases tested.further))) more

-- what is counted of the three is what is asked of one of them
pub release-picked : (tested : Tested) (taken : Option Fate) (past : List Seen) (released completed : ℕ) (rule : Rule) → released ≡ places_under tested taken past L1 → released ≡ places_under tested taken past L2
    → completed ≡ places_under tested taken past L3 → ((same_rule rule L1 || same_rule rule L2) || same_rule rule L3) ≡ true → cond (same_rule rule L3) completed released ≡ places_under tested taken past rule
release-picked tested taken past released completed rule one two three judged = go (same_rule rule L3) refl (same_rule rule L1) refl (same_rule rule L2) refl judged
  where
    go : (c : Bool) → same_rule rule L3 ≡ c → (a : Bool) → same_rule rule L1 ≡ a → (b : Bool) → same_rule rule L2 ≡ b → ((a || b) || c) ≡ true → cond c completed released ≡ places_under tested taken past rule
    go true l3 a l1 b l2 h = places-same tested taken past L3 rule completed three l3
    go false l3 true l1 b l2 h = places-same tested taken past L1 rule released one l1
    go false l3 false l1 true l2 h = places-same tested taken past L2 rule released two l2
    go false l3 false l1 false l2 h = absurd (cc)
