-- The CONNACKs of RESTs: before any event, and with one event more.
use Rattle.std.proofs.Common.{◌≡◌, ◌≤◌, ◌+◌, ◌&&◌, ℕ, Bool, true, false, cond, nat_eq, arith, List, [], ◌∷◌, length, Option, Some, None, refl, ap, sym, ◌∙◌}
use Rattle.std.specs.Prelude.{is_some, option_map}
use Rattle.std.specs.Option.{option_and_then}
use Rattle.std.specs.List.{list_any}
use Rattle.std.specs.FinMap.{entries}
use Rattle.std.proofs.lemmas.Bool.{eqb-true, eq-eqb}
use Rattle.indexmap.specs.IndexMap.{get}
use Rattle.mq_rules.specs.declared.role.Role.{Role}
use Rattle.mq_rules.specs.declared.note.Seen.{Seen}
use Rattle.mq_rules.specs.FaultKeys.{FaultMap}
use Rattle.mq_rules.specs.Moments.{position, newest}
use Rattle.mq_rules.proofs.Exports.{moment-newest, moment-older}
use Rattle.mq_evidence.specs.declared.rests.Rests.{Rests}
use Rattle.mq_evidence.specs.Rests.{connack_of, shows_at}
use Rattle.mq_evidence.specs.Evidence.{connack_at}
use Rattle.mq_trail.specs.Resting.{IsResting, connack_before_at}

-- before any event there is no REST
pub resting-nothing : (r : Rests) (wanted faults : FaultMap) (role : Role) → wanted ≡ faults → ((p : ℕ) → is_some (get nat_eq r.connacks p) ≡ list_any (shows_at p) (entries faults))
    → IsResting r wanted role []
resting-nothing r wanted faults role own kept = record {
  kept = λ p. kept p ∙ sym (ap (λ (w : FaultMap). list_any (shows_at p) (entries w)) own);
  connacks_are = λ p least within is. absurd (apart p least within);
}
  where
    apart : (p : ℕ) → 1 ≤ p → p ≤ 0 → ⊥
    apart p least within = omega (arith, least, within)

-- with one event more
pub resting-next : (old new : Rests) (wanted : FaultMap) (role : Role) (e : Seen) (past : List Seen) (at : ℕ) (connack : Option ℕ) → at ≡ length past + 1
    → connack ≡ option_map position (connack_at role (newest e past))
    → ((p : ℕ) → get nat_eq new.connacks p ≡ cond (nat_eq at p && is_some (get nat_eq old.connacks p)) (Some connack) (get nat_eq old.connacks p))
    → IsResting old wanted role past → IsResting new wanted role (e ∷ past)
resting-next old new wanted role e past at connack is came grown before = record {
  kept = λ p. same p ∙ before.kept p;
  connacks_are = λ p least within kept. go p least (fits p within) kept (nat_eq at p) refl;
}
  where
    still : (b : Bool) (o : Option (Option ℕ)) → is_some (cond (b && is_some o) (Some connack) o) ≡ is_some o
    still true None = refl
    still true (Some c) = refl
    still false o = refl

    same : (p : ℕ) → is_some (get nat_eq new.connacks p) ≡ is_some (get nat_eq old.connacks p)
    same p = ap is_some (grown p) ∙ still (nat_eq at p) (get nat_eq old.connacks p)

    fits : (p : ℕ) → p ≤ length (e ∷ past) → p ≤ length past + 1
    fits p h = omega arith

    go : (p : ℕ) → 1 ≤ p → p ≤ length past + 1 → is_some (get nat_eq new.connacks p) ≡ true → (b : Bool) → nat_eq at p ≡ b → connack_of (get nat_eq new.connacks p) ≡ connack_before_at role (e ∷ past) p
    go p least within kept true here =
        let own : p ≡ length past + 1 = sym (eqb-true at p here) ∙ is in
        ap connack_of (grown p)
        ∙ ap (λ b. connack_of (cond (b && is_some (get nat_eq old.connacks p)) (Some connack) (get nat_eq old.connacks p))) here
        ∙ ap (λ b. connack_of (cond b (Some connack) (get nat_eq old.connacks p))) (sym (same p) ∙ kept)
        ∙ came
        ∙ sym (ap (λ o. option_and_then (λ t. option_map position (connack_at role t)) o) (moment-newest e past p own))
    go p least within kept false here =
        let le : p ≤ length past = below (length past) p (λ t. absurd (let x = eq-eqb at p (is ∙ sym t) in cc)) within in
        ap connack_of (grown p)
        ∙ ap (λ b. connack_of (cond (b && is_some (get nat_eq old.connacks p)) (Some connack) (get nat_eq old.connacks p))) here
        ∙ before.connacks_are p least le (sym (same p) ∙ kept)
        ∙ sym (ap (λ o. option_and_then (λ t. option_map position (connack_at role t)) o) (moment-older e past p le))
      where
        below : (n p : ℕ) → (p ≡ n + 1 → ⊥) → p ≤ n + 1 → p ≤ n
        below n p d h = omega arith
