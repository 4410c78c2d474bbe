-- Events that don't concern the watcher of the send quota.
use Rattle.std.proofs.Common.{◌≡◌, ℕ, ◌+◌, ◌-◌, false, cond, ◌&&◌, ◌||◌, List, ◌∷◌, Option, Some, None, ap, sym, subst, ◌∙◌}
use Rattle.std.specs.Prelude.{is_some, nat_le, unwrap_or}
use Rattle.std.specs.Option.{option_or}
use Rattle.mq_rules.specs.declared.role.Tested.{Tested}
use Rattle.mq_rules.specs.declared.rule.Rule.TheVariants.{S07}
use Rattle.mq_rules.specs.declared.fate.Fate.{Fate}
use Rattle.mq_rules.specs.declared.note.Seen.{Seen}
use Rattle.mq_rules.specs.Notes.{is_open, delivery_of, closer_of}
use Rattle.mq_rules.specs.Connections.{accepts}
use Rattle.mq_rules.specs.Rules.{same_rule}
use Rattle.mq_rules.specs.FaultKeys.{FaultMap}
use Rattle.mq_rules.specs.Under.{IsUnder, fate_before, turns_with}
use Rattle.mq_rules.specs.Growing.{Gains}
use Rattle.mq_rules.proofs.Exports.{and_false, option_or-none}
use Rattle.mq_inflight.specs.declared.quota.Quota.{Quota}
use Rattle.mq_inflight.specs.Concerns.{concerns_quota}
use Rattle.mq_fates.specs.Taking.{announced}
use Rattle.mq_inflight.specs.Quotas.{may_count, IsQuota}
use Rattle.mq_inflight.proofs.QuotaLaws.{quota-next, quota-gains}
use Rattle.mq_fates.proofs.Exports.{closed-before, neither, nothing, same_cond, some-same}

pub quota-passes : (tested : Tested) (s : Quota) (f : Fate) (at : ℕ) (e : Seen) (past : List Seen) → concerns_quota tested e.note ≡ false → IsUnder tested f at e past → IsQuota s tested (fate_before tested f e past) past
    → IsQuota s tested (Some f) (e ∷ past) × ((m : FaultMap) → Gains (λ k r. same_rule r S07 && turns_with tested f e past k r) tested (e ∷ past) at m m)
quota-passes tested s f at e past h under was =
    let n = e.note in
    let h1 = neither (is_open n) (is_some (announced tested.role n) || (is_some (delivery_of n) || is_some (closer_of n))) h in
    let h2 = neither (is_some (announced tested.role n)) (is_some (delivery_of n) || is_some (closer_of n)) h1.1 in
    let h3 = neither (is_some (delivery_of n)) (is_some (closer_of n)) h2.1 in
    let q : IsQuota s tested (Some f) past = subst (λ (t : Option Fate). IsQuota s tested t past) (sym (closed-before tested f e past h1.0)) was in
    let quiet : announced s.role n ≡ None = ap (λ r. announced r n) q.same_role ∙ nothing (announced tested.role n) h2.0 in
    let next : IsQuota (record { role = s.role; fate = f; peer = s.peer; in_flight = s.in_flight }) tested (Some f) (e ∷ past) =
    quota-next tested s (Some f) f e past s.peer s.in_flight at q under
    (sym (ap (λ o. option_or (cond (is_open n) None s.peer) o) quiet ∙ ap (λ b. option_or (cond b None s.peer) None) h1.0 ∙ option_or-none s.peer))
    (λ below. sym (
    ap (λ b. cond b 0 (cond (may_count s.role s.peer) (cond (is_some (delivery_of n)) (s.in_flight + 1) (cond (is_some (closer_of n)) (s.in_flight - 1) s.in_flight)) s.in_flight)) h1.0
    ∙ ap (λ b. cond (may_count s.role s.peer) (cond b (s.in_flight + 1) (cond (is_some (closer_of n)) (s.in_flight - 1) s.in_flight)) s.in_flight) h3.0
    ∙ ap (λ b. cond (may_count s.role s.peer) (cond b (s.in_flight - 1) s.in_flight) s.in_flight) h3.1
    ∙ same_cond (may_count s.role s.peer) s.in_flight)) in (
      subst (λ (g : Fate). IsQuota (record { role = s.role; fate = g; peer = s.peer; in_flight = s.in_flight }) tested (Some f) (e ∷ past)) (some-same f s.fate q.same_fate) next,
      λ m. quota-gains tested s f (Some f) at e past m false under q
          (sym (ap (λ b. accepts f && (b && (may_count s.role s.peer && nat_le (unwrap_or s.peer 65535) s.in_flight))) h3.0 ∙ and_false (accepts f))),
    )
