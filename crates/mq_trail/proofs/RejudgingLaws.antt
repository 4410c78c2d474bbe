-- The faults of a log that is judged again, from one event to the next.
use Rattle.std.proofs.Common.{◌≡◌, ◌↔◌, ◌+◌, ℕ, Bool, true, false, true≢false, List, [], ◌∷◌, length, refl, sym, subst, ap, ◌∙◌, add-one}
use Rattle.std.specs.Option.{option_or}
use Rattle.std.specs.FinMap as map
use Rattle.mq_rules.specs.declared.role.Tested.{Tested}
use Rattle.mq_rules.specs.declared.note.Seen.{Seen}
use Rattle.mq_rules.specs.Steps.{turns}
use Rattle.mq_rules.specs.FaultKeys.{FaultMap, fault_at, key_cmp}
use Rattle.mq_rules.specs.Growing.{added, Gains}
use Rattle.mq_rules.specs.declared.rule.Rule.{Rule}
use Rattle.mq_rules.specs.Faults.{listed_faults}
use Rattle.mq_rules.proofs.Exports.{entries-listed, fault_in-start, fault_in-step}
use Rattle.mq_choice.specs.Choices.{AreChosenFaults}
use Rattle.mq_trail.specs.Rejudging.{HasFound}

-- no events have no faults
pub found-nothing : (tested : Tested) (faults : FaultMap) → faults ≡ map.empty → HasFound 0 faults tested []
found-nothing tested faults e = record {
  each = λ k rule. ap (λ m. fault_at m k rule) e ∙ map.get-empty key_cmp (record { position = k; rule = rule }) ∙ sym (fault_in-start tested k rule);
  counted = refl;
}

-- the faults with one event more
pub found-next : (count position : ℕ) (tested : Tested) (e : Seen) (past : List Seen) (old new : FaultMap) → position ≡ length past + 1
    → Gains (turns tested e past) tested (e ∷ past) (length past + 1) old new → HasFound count old tested past → HasFound position new tested (e ∷ past)
found-next count position tested e past old new at g found = record {
  each = λ k rule.
      g.each k rule
      ∙ ap (λ o. option_or o (added (turns tested e past) tested (e ∷ past) (length past + 1) k rule)) (found.each k rule)
      ∙ sym (fault_in-step tested e past k rule);
  counted = at ∙ add-one (length past);
}

-- ---- the faults of chosen statements among those that were found

-- those of a verdict are the same
pub these-same : (chosen : Rule → Bool) (tested : Tested) (past : List Seen) (mine others : FaultMap) (same : Bool) → (same ≡ true) ↔ (mine ≡ others) → same ≡ true → AreChosenFaults chosen tested past mine
    → AreChosenFaults chosen tested past others
these-same chosen tested past mine others same says is are = subst (AreChosenFaults chosen tested past) (says.0 is) are

-- or others
pub these-other : (chosen : Rule → Bool) (tested : Tested) (past : List Seen) (mine others : FaultMap) (same : Bool) → (same ≡ true) ↔ (mine ≡ others) → same ≡ false → AreChosenFaults chosen tested past mine
    → ¬ (map.entries others ≡ listed_faults chosen tested past)
these-other chosen tested past mine others same says is are listed =
    let yes : same ≡ true = says.1 (map.same_entries_map mine others (entries-listed chosen tested past mine are ∙ sym listed)) in
    true≢false (sym yes ∙ is)
