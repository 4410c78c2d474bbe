-- What is kept of the latest connection, and what was found by it, with one event more.
use Rattle.std.proofs.Common.{◌≡◌, ℕ, ◌+◌, ◌≤◌, ◌==◌, arith, Bool, true, false, List, [], ◌∷◌, length, Option, Some, None, refl, ap, sym, ◌∙◌}
use Rattle.std.specs.Prelude.{is_some, unwrap_or, option_map}
use Rattle.std.specs.Option.{option_or}
use Rattle.std.specs.FinMap.{entries}
use Rattle.std.proofs.lemmas.Bool.{eqb-true, eq-eqb}
use Rattle.mq_rules.specs.declared.role.Tested.{Tested}
use Rattle.mq_rules.specs.declared.rule.Rule.{Rule}
use Rattle.mq_rules.specs.declared.note.Seen.{Seen}
use Rattle.mq_rules.specs.FaultKeys.{FaultMap, fault_at}
use Rattle.mq_rules.specs.Words.{only}
use Rattle.mq_rules.specs.Moments.{newest}
use Rattle.mq_rules.proofs.Exports.{moment-newest, moment-older}
use Rattle.mq_rules.specs.declared.evidence.Evidence.{Evidence}
use Rattle.mq_rules.specs.Evidence.{nothing}
use Rattle.mq_evidence.specs.Evidence.{found, reason}
use Rattle.mq_evidence.specs.Stretches.{advanced}
use Rattle.mq_evidence.specs.Trailing.{explained_at}
use Rattle.mq_evidence.specs.ConnectionTrails.{latest_connection, connection_turn, is_on_connection, connection_evidence, IsConnectionExplained}
use Rattle.mq_evidence.proofs.CounterLaws.{connection-longer}
use Rattle.mq_evidence.proofs.ExplainLaws.{unlisted, wanted-listed}

-- the latest connection, where the event turns it
pub connection-advanced : (p : ℕ) (e : Seen) (past : List Seen) → advanced (connection_turn p e.note) (newest e past) (latest_connection past) ≡ latest_connection (e ∷ past)
connection-advanced p e past = ap (λ ms. record { earlier = []; session = []; connection = ms }) (connection-longer e past)

evidence-older : (tested : Tested) (e : Seen) (past : List Seen) (k : ℕ) (r : Rule) → k ≤ length past → connection_evidence tested (e ∷ past) k r ≡ connection_evidence tested past k r
evidence-older tested e past k r within = ap (λ o. unwrap_or (option_map (λ m. found (reason tested.role r) None None m) o) nothing) (moment-older e past k within)

evidence-newest : (tested : Tested) (e : Seen) (past : List Seen) (k : ℕ) (r : Rule) → k ≡ length past + 1
    → connection_evidence tested (e ∷ past) k r ≡ found (reason tested.role r) None None (newest e past)
evidence-newest tested e past k r is = ap (λ o. unwrap_or (option_map (λ m. found (reason tested.role r) None None m) o) nothing) (moment-newest e past k is)

pub connection-explained-next : (tested : Tested) (e : Seen) (past : List Seen) (wanted : FaultMap) (old new : ℕ → Rule → Option Evidence) → IsConnectionExplained wanted old tested past
    → ((k : ℕ) (r : Rule) → new k r ≡ option_or (explained_at (is_on_connection tested.role) (entries wanted) (length past + 1) k r (found (reason tested.role r) None None (newest e past))) (old k r))
    → IsConnectionExplained wanted new tested (e ∷ past)
connection-explained-next tested e past wanted old new before added = λ k r begun within finds there. go k r begun finds there (k == length past + 1) refl (fits k within)
  where
    fits : (k : ℕ) → k ≤ length (e ∷ past) → k ≤ length past + 1
    fits k h = omega arith

    Ev : Rule → Evidence
    Ev r = found (reason tested.role r) None None (newest e past)

    below : (k n : ℕ) → (k == n + 1) ≡ false → k ≤ n + 1 → k ≤ n
    below k n h le = strict (λ same. absurd (let t = eq-eqb k (n + 1) same in cc)) le
      where
        strict : (k ≡ n + 1 → ⊥) → k ≤ n + 1 → k ≤ n
        strict d le = omega arith

    go : (k : ℕ) (r : Rule) → 1 ≤ k → is_on_connection tested.role r ≡ true → is_some (fault_at wanted k r) ≡ true → (b : Bool) → (k == length past + 1) ≡ b → k ≤ length past + 1
        → new k r ≡ Some (connection_evidence tested (e ∷ past) k r)
    go k r begun finds there true at within =
        let is : k ≡ length past + 1 = eqb-true k (length past + 1) at in
        added k r
        ∙ ap (λ p. option_or (explained_at (is_on_connection tested.role) (entries wanted) p k r (Ev r)) (old k r)) (sym is)
        ∙ ap (λ b. option_or (only b (Some (Ev r))) (old k r)) (wanted-listed (is_on_connection tested.role) wanted k r finds there)
        ∙ ap (λ x. Some x) (sym (evidence-newest tested e past k r is))
    go k r begun finds there false at within =
        let le : k ≤ length past = below k (length past) at within in
        added k r
        ∙ ap (λ b. option_or (only b (Some (Ev r))) (old k r))
        (unlisted (is_on_connection tested.role) (length past + 1) k r (λ same. absurd (let t = eq-eqb k (length past + 1) (sym same) in cc)) (entries wanted))
        ∙ before k r begun le finds there
        ∙ ap (λ x. Some x) (sym (evidence-older tested e past k r le))
