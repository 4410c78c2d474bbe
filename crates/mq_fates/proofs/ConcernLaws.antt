-- Words for events that don't concern a watcher.
use Rattle.std.proofs.Common.{◌≡◌, ℕ, Bool, true, false, cond, ◌&&◌, ◌||◌, List, ◌∷◌, Option, Some, None, refl, ap, sym, ◌∙◌}
use Rattle.std.specs.Prelude.{is_some}
use Rattle.mq_rules.specs.declared.role.Tested.{Tested}
use Rattle.mq_rules.specs.declared.rule.Rule.{Rule}
use Rattle.mq_rules.specs.declared.fate.Fate.{Fate}
use Rattle.mq_rules.specs.declared.note.Seen.{Seen}
use Rattle.mq_rules.specs.Words.{only}
use Rattle.mq_rules.specs.Notes.{is_open}
use Rattle.mq_rules.specs.Connections.{latest_fate}
use Rattle.mq_rules.specs.Under.{fate_before, turns_with}
use Rattle.mq_rules.proofs.Exports.{and_false, gains_either}
use Rattle.mq_fates.specs.Concerns.{Passes}

pub nothing : {A : Type 0} (o : Option A) → is_some o ≡ false → o ≡ None
nothing None h = refl
nothing (Some a) h = absurd (cc)

pub same_cond : {A : Type 0} (b : Bool) (a : A) → cond b a a ≡ a
same_cond true a = refl
same_cond false a = refl

pub only-none : {A : Type 0} (b : Bool) → only {A = A} b None ≡ None
only-none true = refl
only-none false = refl

pub some-same : (f g : Fate) → Some f ≡ Some g → f ≡ g
some-same f g h = cc

-- two conditions that fail
pub and2_false : (a b c : Bool) → c ≡ false → (a && (b && c)) ≡ false
and2_false a b c h = ap (λ t. a && (b && t)) h ∙ ap (λ t. a && t) (and_false b) ∙ and_false a

-- two watchers pass it together
pub neither : (a b : Bool) → (a || b) ≡ false → (a ≡ false) × (b ≡ false)
neither true b h = absurd (cc)
neither false b h = (refl, h)

pub both_pass : (P Q : List Seen → Type 0) (a b : Rule → Bool) (tested : Tested) (f : Fate) (at : ℕ) (e : Seen) (past : List Seen) → Passes P a tested f at e past → Passes Q b tested f at e past
    → Passes (λ log. P log × Q log) (λ r. a r || b r) tested f at e past
both_pass P Q a b tested f at e past p q = record {
  stays = (p.stays, q.stays);
  shows = λ m. gains_either a b (turns_with tested f e past) tested (e ∷ past) at m m m (p.shows m) (q.shows m);
}

-- where no connection begins, the fate before the event is that of its connection
pub closed-before : (tested : Tested) (f : Fate) (e : Seen) (past : List Seen) → is_open e.note ≡ false → Some f ≡ fate_before tested f e past
closed-before tested f e past h = sym (ap (λ b. cond b (latest_fate tested.role past) (Some f)) h)
