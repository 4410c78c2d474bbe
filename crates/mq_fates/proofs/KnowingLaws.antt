-- What an end couldn't know before the CONNACK.
use Rattle.std.proofs.Common.{◌≡◌, ℕ, ◌<◌, ◌==◌, Bool, true, false, ◌&&◌, not, List, ◌∷◌, Option, Some, None, refl, ap, sym, ◌∙◌, arith}
use Rattle.std.specs.Prelude.{is_none}
use Rattle.std.specs.Option.{option_or}
use Rattle.std.proofs.lemmas.Bool.{eq-eqb}
use Rattle.mq_rules.specs.declared.role.Tested.{Tested}
use Rattle.mq_rules.specs.declared.fate.Fate.{Fate}
use Rattle.mq_rules.specs.declared.note.Seen.{Seen}
use Rattle.mq_rules.specs.Notes.{needs_session}
use Rattle.mq_rules.specs.Moments.{newest}
use Rattle.mq_rules.specs.Connections.{latest_fate, comes_early, is_placed_release, is_untold, begins}
use Rattle.mq_rules.specs.Under.{IsUnder}
use Rattle.mq_rules.proofs.Exports.{differ, latest_fate-same, session-gives, session-opens}
use Rattle.mq_fates.specs.Knowing.{excused, is_placed}

-- what needs a session comes early exactly if its connection is decided later
pub early-known : (tested : Tested) (f : Fate) (at : ℕ) (e : Seen) (past : List Seen) → IsUnder tested f at e past → needs_session e.note ≡ true → comes_early tested.role (newest e past) ≡ not (at == e.place.position)
early-known tested f at e past under needs = go (latest_fate tested.role past) refl
  where
    same : latest_fate tested.role (e ∷ past) ≡ latest_fate tested.role past
    same = latest_fate-same tested.role e past (session-opens e.note needs) ∙ ap (option_or (latest_fate tested.role past)) (session-gives tested.role e past needs) ∙ plain (latest_fate tested.role past)
      where
        plain : (o : Option Fate) → option_or o None ≡ o
        plain None = refl
        plain (Some g) = refl

    go : (o : Option Fate) → latest_fate tested.role past ≡ o → is_none o ≡ not (at == e.place.position)
    go None is =
        let later : e.place.position < at = under.later (same ∙ is) in
        sym (ap not (differ at e.place.position (λ q. omega arith)))
    go (Some g) is = sym (ap not (eq-eqb at e.place.position (under.fits g (same ∙ is)).1))

-- so it is excused by that
pub excused-known : (tested : Tested) (f : Fate) (at : ℕ) (e : Seen) (past : List Seen) (surprising broken : Bool) → IsUnder tested f at e past → (broken ≡ true → needs_session e.note ≡ true)
    → (broken && not (surprising && comes_early tested.role (newest e past))) ≡ excused surprising (at == e.place.position) broken
excused-known tested f at e past surprising false under needs = refl
excused-known tested f at e past surprising true under needs = ap (λ b. not (surprising && b)) (early-known tested f at e past under (needs refl))

-- and a RELEASE is placed by it
pub placed-known : (tested : Tested) (f : Fate) (at : ℕ) (e : Seen) (past : List Seen) (broken : Bool) → IsUnder tested f at e past → (broken ≡ true → needs_session e.note ≡ true)
    → (broken && is_placed_release tested.role f (newest e past)) ≡ (broken && is_placed f (at == e.place.position))
placed-known tested f at e past false under needs = refl
placed-known tested f at e past true under needs = ap (λ b. not (is_untold f) && not (begins (Some f) && b)) (early-known tested f at e past under (needs refl))

-- nothing is excused at an event that is known
not_early : (surprising broken : Bool) (n : ℕ) → excused surprising (n == n) broken ≡ broken
not_early surprising broken n = ap (λ k. broken && not (surprising && not k)) (eq-eqb n n refl) ∙ go surprising broken
  where
    go : (s b : Bool) → (b && not (s && false)) ≡ b
    go true true = refl
    go true false = refl
    go false true = refl
    go false false = refl

pub excused-late : (surprising broken : Bool) (n : ℕ) → broken ≡ excused surprising (n == n) broken
excused-late surprising broken n = sym (not_early surprising broken n)

-- what is excused apart from what is judged
pub and-out : (a b c d : Bool) → (a && (b && (c && d))) ≡ ((a && (b && c)) && d)
and-out true true c d = refl
and-out true false c d = refl
and-out false b c d = refl

pub and-apart : (a b c : Bool) → (a && (b && c)) ≡ ((a && b) && c)
and-apart true b c = refl
and-apart false b c = refl
