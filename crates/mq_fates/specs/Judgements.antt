-- The faults that are decided with one event.
use Rattle.std.specs.Prelude.{ℕ, ◌≡◌, Bool, cond, List, None, [], ◌∷◌}
use Rattle.std.specs.Option.{option_or}
use Rattle.mq_log.specs.declared.place.Place3.{Place3}
use Rattle.mq_rules.specs.declared.rule.Rule.{Rule}
use Rattle.mq_rules.specs.FaultKeys.{FaultMap, with_fault, fault_at}

-- the faults with that of a statement that is broken at this place, decided at this position
abbrev pub judged_by : Bool → Rule → Place3 → ℕ → FaultMap → FaultMap
judged_by broken rule place at faults =
    cond broken (with_fault (record { position = place.position; rule = rule }) (record { decided = at; record_no = place.record_no; offset = None }) faults) faults

-- the faults of the moments of these places, decided there
abbrev pub blamed : Rule → ℕ → List Place3 → FaultMap → FaultMap
blamed rule at [] faults = faults
blamed rule at (place ∷ places) faults = blamed rule at places (with_fault (record { position = place.position; rule = rule }) (record { decided = at; record_no = place.record_no; offset = None }) faults)

-- what the first has, the second has
pub record Keeps (old new : FaultMap) : Type 0 where
  pub each : (k : ℕ) (r : Rule) → option_or (fault_at old k r) (fault_at new k r) ≡ fault_at new k r
