-- The next event of a connection whose fate is known before it.
use Rattle.std.proofs.Common.{◌≡◌, ℕ, ◌+◌, ◌<◌, arith, Bool, false, cond, ◌&&◌, List, ◌∷◌, length, Option, Some, None, refl, ap, sym, subst, ◌∙◌}
use Rattle.mq_rules.specs.declared.role.Tested.{Tested}
use Rattle.mq_rules.specs.declared.fate.Fate.{Fate}
use Rattle.mq_rules.specs.declared.rule.Rule.{Rule}
use Rattle.mq_rules.specs.declared.note.Seen.{Seen}
use Rattle.mq_rules.specs.Words.{is_some_and}
use Rattle.mq_rules.specs.Notes.{is_open}
use Rattle.mq_rules.specs.Connections.{latest_fate}
use Rattle.mq_rules.specs.FaultKeys.{FaultMap}
use Rattle.mq_rules.proofs.Exports.{gains_same, latest_fate-open, not_true, within_same}
use Rattle.mq_rules.specs.Under.{Follows, IsUnder, IsKnown, fate_before, turns_with, turns_known}
use Rattle.mq_rules.specs.Growing.{Gains, GainsWithin}

-- no OPEN leaves the latest connection decided
pub decided-closed : (tested : Tested) (f : Fate) (e : Seen) (past : List Seen) → latest_fate tested.role (e ∷ past) ≡ Some f → is_open e.note ≡ false
decided-closed tested f e past h = not_true (is_open e.note) (λ t. let none : latest_fate tested.role (e ∷ past) ≡ None = latest_fate-open tested.role e past t in absurd (cc))

-- what a book's step needs to know of the fate that it keeps
pub record Knows (tested : Tested) (f : Fate) (taken : Option Fate) (e : Seen) (past : List Seen) : Type 0 where
  pub under : IsUnder tested f e.place.position e past
  pub before : taken ≡ fate_before tested f e past
  pub after : Some f ≡ latest_fate tested.role (e ∷ past)
  pub position : length past + 1 ≡ e.place.position

pub knows : (tested : Tested) (f : Fate) (taken : Option Fate) (e : Seen) (past : List Seen) → Follows tested e past → IsKnown tested taken e past → taken ≡ Some f → Knows tested f taken e past
knows tested f taken e past follows known is = record {
  under = record { follows = follows; fits = λ g h. (one g h, refl); later = λ h. absurd (let bad : Some f ≡ None = after ∙ h in cc) };
  before = is ∙ ap (λ b. cond b (latest_fate tested.role past) (Some f)) (sym (decided-closed tested f e past (sym after)));
  after = after;
  position = sym follows.placed.0;
}
  where
    after : Some f ≡ latest_fate tested.role (e ∷ past)
    after = sym is ∙ known.same ∙ sym known.latest

    one : (g : Fate) → latest_fate tested.role (e ∷ past) ≡ Some g → g ≡ f
    one g h = let both : Some f ≡ Some g = after ∙ h in cc

pub known-turns : (tested : Tested) (f : Fate) (judges : Rule → Bool) (e : Seen) (past : List Seen) → Some f ≡ latest_fate tested.role (e ∷ past)
    → (k : ℕ) (r : Rule) → (judges r && turns_with tested f e past k r) ≡ (judges r && turns_known tested e past k r)
known-turns tested f judges e past after k r = ap (λ o. judges r && is_some_and (λ f. turns_with tested f e past k r) o) after

pub known-gains : (tested : Tested) (f : Fate) (taken : Option Fate) (judges : Rule → Bool) (e : Seen) (past : List Seen) (old new : FaultMap) → Knows tested f taken e past
    → Gains (λ k r. judges r && turns_with tested f e past k r) tested (e ∷ past) e.place.position old new → Gains (λ k r. judges r && turns_known tested e past k r) tested (e ∷ past) (length past + 1) old new
known-gains tested f taken judges e past old new k g =
    gains_same (λ k r. judges r && turns_with tested f e past k r) (λ k r. judges r && turns_known tested e past k r) tested (e ∷ past) (length past + 1) old new (known-turns tested f judges e past k.after)
    (subst (λ n. Gains (λ k r. judges r && turns_with tested f e past k r) tested (e ∷ past) n old new) (sym k.position) g)

pub known-within : (tested : Tested) (f : Fate) (taken : Option Fate) (judges : Rule → Bool) (e : Seen) (past : List Seen) (old new : FaultMap) → Knows tested f taken e past
    → GainsWithin (λ k r. judges r && turns_with tested f e past k r) tested (e ∷ past) e.place.position old new → GainsWithin (λ k r. judges r && turns_known tested e past k r) tested (e ∷ past) (length past + 1) old new
known-within tested f taken judges e past old new k g =
    within_same (λ k r. judges r && turns_with tested f e past k r) (λ k r. judges r && turns_known tested e past k r) tested (e ∷ past) (length past + 1) old new (known-turns tested f judges e past k.after)
    (subst (λ n. GainsWithin (λ k r. judges r && turns_with tested f e past k r) tested (e ∷ past) n old new) (sym k.position) g)

-- ---- the other way round

-- an event that is decided at its own position, and begins no connection, comes on one whose fate is known before it
pub record Given (tested : Tested) (f : Fate) (at : ℕ) (e : Seen) (past : List Seen) : Type 0 where
  pub known : IsKnown tested (fate_before tested f e past) e past
  pub after : latest_fate tested.role (e ∷ past) ≡ Some f
  pub position : length past + 1 ≡ at

pub given : (tested : Tested) (f : Fate) (at : ℕ) (e : Seen) (past : List Seen) → IsUnder tested f at e past → at ≡ e.place.position → is_open e.note ≡ false → Given tested f at e past
given tested f at e past under own closed = record {
  known = record { fate = f; latest = after; same = ap (λ b. cond b (latest_fate tested.role past) (Some f)) closed };
  after = after;
  position = sym under.follows.placed.0 ∙ sym own;
}
  where
    decide : (o : Option Fate) → latest_fate tested.role (e ∷ past) ≡ o → latest_fate tested.role (e ∷ past) ≡ Some f
    decide (Some g) is = is ∙ ap Some (under.fits g is).0
    decide None is = let later = under.later is in absurd (omega (arith, later, own))

    after : latest_fate tested.role (e ∷ past) ≡ Some f
    after = decide (latest_fate tested.role (e ∷ past)) refl

pub given-gains : (tested : Tested) (f : Fate) (judges : Rule → Bool) (at : ℕ) (e : Seen) (past : List Seen) (old new : FaultMap) → Given tested f at e past
    → Gains (λ k r. judges r && turns_known tested e past k r) tested (e ∷ past) (length past + 1) old new → Gains (λ k r. judges r && turns_with tested f e past k r) tested (e ∷ past) at old new
given-gains tested f judges at e past old new k g =
    gains_same (λ k r. judges r && turns_known tested e past k r) (λ k r. judges r && turns_with tested f e past k r) tested (e ∷ past) at old new (λ i r. sym (known-turns tested f judges e past (sym k.after) i r))
    (subst (λ n. Gains (λ k r. judges r && turns_known tested e past k r) tested (e ∷ past) n old new) k.position g)

pub given-within : (tested : Tested) (f : Fate) (judges : Rule → Bool) (at : ℕ) (e : Seen) (past : List Seen) (old new : FaultMap) → Given tested f at e past
    → GainsWithin (λ k r. judges r && turns_known tested e past k r) tested (e ∷ past) (length past + 1) old new → GainsWithin (λ k r. judges r && turns_with tested f e past k r) tested (e ∷ past) at old new
given-within tested f judges at e past old new k g =
    within_same (λ k r. judges r && turns_known tested e past k r) (λ k r. judges r && turns_with tested f e past k r) tested (e ∷ past) at old new (λ i r. sym (known-turns tested f judges e past (sym k.after) i r))
    (subst (λ n. GainsWithin (λ k r. judges r && turns_known tested e past k r) tested (e ∷ past) n old new) k.position g)
