-- Known faults stay, whatever comes after them.
use Rattle.std.proofs.Common.{◌≡◌, ℕ, ◌+◌, ◌≤◌, Bool, true, false, cond, nat_lt, List, [], ◌∷◌, ◌++◌, length, map, Option, Some, None, refl, sym, ap, ◌∙◌, arith, append_assoc, append-nil}
use Rattle.std.specs.Option.{option_or}
use Rattle.std.proofs.lemmas.Bool.{ltb-true, ltb-false}
use Rattle.mq_log.specs.Context.{context, placed_for, put}
use Rattle.mq_log.specs.Events.{Placed, events}
use Rattle.mq_log.proofs.Exports.{events-kept}
use Rattle.mq_rules.specs.declared.note.Seen.{Seen}
use Rattle.mq_rules.specs.declared.role.Further.{Further}
use Rattle.mq_rules.specs.declared.role.Tested.{Tested}
use Rattle.mq_rules.specs.declared.rule.Rule.{Rule}
use Rattle.mq_rules.specs.declared.fault.Fault.{Fault}
use Rattle.mq_rules.specs.Notes.{tested_by, seen, seen_in}
use Rattle.mq_rules.specs.Moments.{moment}
use Rattle.mq_rules.specs.Steps.{turns}
use Rattle.mq_rules.specs.FaultKeys.{FaultMap, fault_at}
use Rattle.mq_rules.specs.Faults.{reported, fault_in}
use Rattle.mq_rules.proofs.Exports.{fault_in-start, fault_in-step}
use Rattle.mq_judge.specs.Judging.{AreFaultsOf}
use Rattle.mq_judge.proofs.JudgeLaws.{tested-stays, unseen}

-- the fault of a pair is the same with more events
stays-in : (tested : Tested) (newer past : List Seen) (k : ℕ) (rule : Rule) (fault : Fault) → fault_in tested past k rule ≡ Some fault → fault_in tested (newer ++ past) k rule ≡ Some fault
stays-in tested [] past k rule fault h = h
stays-in tested (e ∷ newer) past k rule fault h =
    fault_in-step tested e (newer ++ past) k rule
    ∙ ap (λ o. option_or o (cond (turns tested e (newer ++ past) k rule) (Some (reported tested.role (moment (e ∷ (newer ++ past)) k) rule (length (newer ++ past) + 1))) None))
    (stays-in tested newer past k rule fault h)

-- a longer log has the same events, and newer ones
byte-more : (log : List ℕ) (byte : ℕ) → (newer : List Seen) × (seen_in (log ++ byte ∷ []) ≡ newer ++ seen_in log)
unfolding seen_in
byte-more log byte =
    let more = go (placed_for (context log) byte) in
    (more.0, ap (map seen) (events-kept log byte) ∙ more.1)
  where
    go : (completed : Option Placed) → (newer : List Seen) × (map seen (put completed (events log)) ≡ newer ++ map seen (events log))
    go None = ([], refl)
    go (Some p) = (seen p ∷ [], refl)

seen-more : (log more : List ℕ) → (newer : List Seen) × (seen_in (log ++ more) ≡ newer ++ seen_in log)
seen-more log [] = ([], ap seen_in (append-nil log))
seen-more log (byte ∷ more) =
    let here = byte-more log byte in
    let later = seen-more (log ++ byte ∷ []) more in (
      later.0 ++ here.0,
      ap seen_in (sym (append_assoc log (byte ∷ []) more)) ∙ later.1 ∙ ap (λ s. later.0 ++ s) here.1 ∙ sym (append_assoc later.0 here.0 (seen_in log)),
    )

pub known-stays : (further : Further) (log more : List ℕ) (known later : FaultMap) → AreFaultsOf further log known → AreFaultsOf further (log ++ more) later
    → (k : ℕ) (rule : Rule) (fault : Fault) → fault_at known k rule ≡ Some fault → fault_at later k rule ≡ Some fault
known-stays further log more known later are are_later k rule fault h = go (nat_lt (length log) 8) refl
  where
    go : (b : Bool) → nat_lt (length log) 8 ≡ b → fault_at later k rule ≡ Some fault
    go true short =
        let few = ltb-true (length log) 8 short in
        let none : seen_in log ≡ [] = unseen log (omega (arith, few)) in
        absurd (let bad : None ≡ Some fault = sym (are k rule ∙ ap (λ s. fault_in (tested_by further log) s k rule) none ∙ fault_in-start (tested_by further log) k rule) ∙ h in cc)
    go false long =
        let many = ltb-false (length log) 8 long in
        are_later k rule
        ∙ ap (λ t. fault_in t (seen_in (log ++ more)) k rule) (tested-stays further log more many)
        ∙ ap (λ s. fault_in (tested_by further log) s k rule) (seen-more log more).1
        ∙ stays-in (tested_by further log) (seen-more log more).0 (seen_in log) k rule fault (sym (are k rule) ∙ h)
