-- What fails on sessions fails among the events before those that are held.
use Rattle.std.proofs.Common.{◌≡◌, ℕ, ◌+◌, ◌≤◌, arith, true, false, ◌&&◌, ◌||◌, List, [], ◌∷◌, ◌++◌, length, Option, Some, None, refl, ap, sym, subst, ◌∙◌}
use Rattle.std.specs.Prelude.{is_some}
use Rattle.mq_rules.specs.declared.role.Role.{Role}
use Rattle.mq_rules.specs.declared.role.Tested.{Tested}
use Rattle.mq_rules.specs.declared.rule.Rule.{Rule}
use Rattle.mq_rules.specs.declared.note.Seen.{Seen}
use Rattle.mq_rules.specs.Moments.{Moment, moment}
use Rattle.mq_rules.specs.Connections.{begun, number, fate, latest_fate}
use Rattle.mq_rules.specs.Statements.{fails}
use Rattle.mq_rules.specs.Steps.{turns}
use Rattle.mq_rules.specs.Under.{is_on_session}
use Rattle.mq_rules.proofs.Exports.{fails-nowhere, fails-step, fate-elsewhere, moment-beginning, moment-stays, moment-within, number-within, or_false, there}
use Rattle.mq_fates.specs.Holding.{AreHeld, IsSettled, settled}
use Rattle.mq_fates.proofs.HoldLaws.{held-number, undecided-turns}

-- ---- what held events leave as it is

-- an event that leaves its connection undecided adds nothing that fails
undecided-fails : (tested : Tested) (e : Seen) (past : List Seen) (k : ℕ) (r : Rule) → is_on_session tested r ≡ true → latest_fate tested.role (e ∷ past) ≡ None → fails tested (e ∷ past) k r ≡ fails tested past k r
undecided-fails tested e past k r on none =
    let never : turns tested e past k r ≡ false = sym (ap (λ b. b && turns tested e past k r) on) ∙ undecided-turns tested e past none k r in
    fails-step tested e past k r ∙ ap (λ b. fails tested past k r || b) never ∙ or_false (fails tested past k r)

-- so those that are held add nothing
held-fails : (tested : Tested) (hs base : List Seen) (k : ℕ) (r : Rule) → is_on_session tested r ≡ true → AreHeld tested.role hs base → fails tested (hs ++ base) k r ≡ fails tested base k r
held-fails tested [] base k r on held = refl
held-fails tested (e ∷ hs) base k r on held = undecided-fails tested e (hs ++ base) k r on held.1 ∙ held-fails tested hs base k r on held.2

-- a moment stays
held-moment : (hs base : List Seen) (k : ℕ) (m : Moment) → moment base k ≡ Some m → moment (hs ++ base) k ≡ Some m
held-moment [] base k m at = at
held-moment (e ∷ hs) base k m at = moment-stays e (hs ++ base) k m (held-moment hs base k m at)

-- and the fate of a connection that had begun before
held-fate : (role : Role) (c : ℕ) (hs base : List Seen) → AreHeld role hs base → c ≤ begun base → fate role c (hs ++ base) ≡ fate role c base
held-fate role c [] base held le = refl
held-fate role c (e ∷ hs) base held le =
    let one : begun (e ∷ (hs ++ base)) ≡ 1 + begun base = held-number role e hs base held in
    fate-elsewhere role c e (hs ++ base) (omega arith) ∙ held-fate role c hs base held.2 le

-- ---- what fails

-- it fails at a moment that is there
failed-there : (tested : Tested) (log : List Seen) (k : ℕ) (r : Rule) → fails tested log k r ≡ true → is_some (moment log k) ≡ true
failed-there tested log k r h = go (moment log k) refl
  where
    go : (o : Option Moment) → moment log k ≡ o → is_some o ≡ true
    go (Some m) is = refl
    go None is = absurd (let none : fails tested log k r ≡ false = fails-nowhere tested log k r is in cc)

pub failed-settled : (tested : Tested) (hs past : List Seen) (k : ℕ) (r : Rule) → past ≡ hs ++ settled tested.role past → AreHeld tested.role hs (settled tested.role past)
    → is_on_session tested r ≡ true → fails tested past k r ≡ true → IsSettled tested past k
failed-settled tested hs past k r joined held on h = record {
  within = subst (λ n. n ≤ length base) (sym (moment-beginning base k at.0 at.1).at) (moment-within base k at.0 at.1);
  same_moment = now ∙ sym at.1;
  same_fate = λ m is.
      let before : moment base k ≡ Some m = at.1 ∙ sym now ∙ is in
      ap (fate tested.role (number m)) joined ∙ held-fate tested.role (number m) hs base held (number-within base k m before);
}
  where
    base : List Seen
    base = settled tested.role past

    at : (m : Moment) × (moment base k ≡ Some m)
    at = there (moment base k) (failed-there tested base k r (sym (held-fails tested hs base k r on held) ∙ ap (λ log. fails tested log k r) (sym joined) ∙ h))

    now : moment past k ≡ Some at.0
    now = ap (λ log. moment log k) joined ∙ held-moment hs base k at.0 at.1
