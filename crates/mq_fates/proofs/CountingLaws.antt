-- How often one statement is put to the test.
use Rattle.std.proofs.Common.{◌≡◌, ℕ, ◌+◌, ◌<◌, arith, Bool, true, false, cond, ◌&&◌, ◌||◌, List, ◌∷◌, Option, Some, refl, ap, sym, ◌∙◌}
use denote.Enum.Bare.{same_true}
use Rattle.mq_rules.specs.contracts.rule.Rule.{the_type}
use Rattle.mq_rules.specs.declared.role.Tested.{Tested}
use Rattle.mq_rules.specs.declared.fate.Fate.{Fate}
use Rattle.mq_rules.specs.declared.rule.Rule.{Rule}
use Rattle.mq_rules.specs.declared.note.Seen.{Seen}
use Rattle.mq_rules.specs.Moments.{Moment, newest}
use Rattle.mq_rules.specs.Connections.{accepts}
use Rattle.mq_rules.specs.Rules.{binds, same_rule}
use Rattle.mq_rules.specs.Statements.{in_session}
use Rattle.mq_rules.specs.Under.{IsUnder, fate_before}
use Rattle.mq_rules.specs.Occasions.{occasion, places_under}
use Rattle.mq_rules.proofs.Exports.{places-session, places-under-most}

-- what is counted of a statement, and asked of the same one
pub places-same : (tested : Tested) (f : Option Fate) (log : List Seen) (one rule : Rule) (n : ℕ) → n ≡ places_under tested f log one → same_rule rule one ≡ true → n ≡ places_under tested f log rule
places-same tested f log one rule n is same = is ∙ ap (places_under tested f log) (sym (same_true the_type tt rule one same))

-- what is counted of the statements of two watchers is what is asked of one of them
pub either-picked : (a b first : Bool) (x y n : ℕ) → first ≡ a → (a ≡ true → x ≡ n) → (b ≡ true → y ≡ n) → (a || b) ≡ true → cond first x y ≡ n
either-picked true b first x y n is one two h = ap (λ t. cond t x y) is ∙ one refl
either-picked false b first x y n is one two h = ap (λ t. cond t x y) is ∙ two h

-- one that is judged at once: the event is a place, or isn't
pub counted-session : (tested : Tested) (rule : Rule) (test : Fate → Moment → Bool) → occasion tested.role rule ≡ Some (in_session test) → (f : Fate) (at : ℕ) (e : Seen) (past : List Seen) (here : Bool) (old new : ℕ)
    → IsUnder tested f at e past → old ≡ places_under tested (fate_before tested f e past) past rule → here ≡ (binds rule tested && (accepts f && test f (newest e past)))
    → (old < e.place.position → new ≡ cond here 1 0 + old) → new ≡ places_under tested (Some f) (e ∷ past) rule
counted-session tested rule test says f at e past here old new under was is more =
    let most = places-under-most tested (fate_before tested f e past) past rule in
    let placed = under.follows.placed.0 in
    more (omega arith)
    ∙ ap (λ n. cond here 1 0 + n) was
    ∙ ap (λ b. cond b 1 0 + places_under tested (fate_before tested f e past) past rule) is
    ∙ sym (places-session tested rule test says f e past)

pub none-counted : (n : ℕ) → n ≡ cond false 1 0 + n
none-counted n = omega arith
