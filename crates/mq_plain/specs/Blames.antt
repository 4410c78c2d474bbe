-- The faults at the places that a REST shows.
use Rattle.std.specs.Prelude.{ℕ, ◌≡◌, ◌==◌, ◌⊎◌, cond, List, [], ◌∷◌, Option, Some, None, option_map}
use Rattle.std.specs.Option.{option_or}
use Rattle.mq_log.specs.declared.place.Place3.{Place3}
use Rattle.mq_rules.specs.declared.rule.Rule.{Rule}
use Rattle.mq_rules.specs.declared.fault.Fault.{Fault}
use Rattle.mq_rules.specs.Rules.{same_rule}
use Rattle.mq_rules.specs.FaultKeys.{FaultMap, fault_at}

-- the first of these places that has this position
abbrev pub place_at : ℕ → List Place3 → Option Place3
place_at k [] = None
place_at k (p ∷ places) = cond (k == p.position) (Some p) (place_at k places)

-- the fault of a place that was decided at this position
abbrev pub decided_by : ℕ → Place3 → Fault
decided_by decided p = record { decided = decided; record_no = p.record_no; offset = None }

-- Each pair of this statement keeps the fault that it had, or else, if its position is one of these places, gets the one decided at this position; the
-- others are unchanged.
pub record Blames (rule : Rule) (decided : ℕ) (places : List Place3) (old new : FaultMap) : Type 0 where
  pub each : (k : ℕ) (r : Rule) → fault_at new k r ≡ option_or (fault_at old k r) (cond (same_rule r rule) (option_map (decided_by decided) (place_at k places)) None)

-- Each pair keeps the fault that it had, and those of this statement may have got the one of their place.
pub record BlamesWithin (rule : Rule) (decided : ℕ) (places : List Place3) (old new : FaultMap) : Type 0 where
  pub each : (k : ℕ) (r : Rule) → (fault_at new k r ≡ fault_at old k r)
      ⊎ (fault_at new k r ≡ option_or (fault_at old k r) (cond (same_rule r rule) (option_map (decided_by decided) (place_at k places)) None))
