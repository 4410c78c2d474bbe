-- Faults as a finite map by their keys.
use Rattle.std.specs.Prelude.{ℕ, Bool, not, nat_le, ◌==◌, cond, List, Option, None, option_map}
use Rattle.std.specs.List.{filter, find}
use Rattle.std.specs.declared.cmp.Ordering.{Ordering}
use Rattle.std.specs.FinMap as map
use Rattle.mq_rules.specs.declared.rule.Rule.{Rule}
use Rattle.mq_log.specs.declared.place.Place3.{Place3}
use Rattle.mq_rules.specs.declared.fault.Fault.{Fault}
use Rattle.mq_rules.specs.declared.faults.FaultKey.{FaultKey}
use Rattle.mq_rules.specs.contracts.faults.FaultKeyOrd.TheImpl as key_ord

-- by position, and then by statement
abbrev pub key_cmp : FaultKey → FaultKey → Ordering
key_cmp = (key_ord.ghosts).cmp

-- the faults, each under its key
abbrev pub FaultMap : Type 0
FaultMap = map.FinMap key_cmp Fault

-- the fault of a position and a statement
abbrev pub fault_at : FaultMap → ℕ → Rule → Option Fault
fault_at faults k rule = map.get faults (record { position = k; rule = rule })

-- the faults with one more, which is ignored if its key has a fault already
abbrev pub with_fault : FaultKey → Fault → FaultMap → FaultMap
with_fault key fault faults = cond (map.contains_key faults key) faults (map.insert faults key fault)

-- the faults with that of a statement that is judged at its own position, if it is broken
abbrev pub judged : Bool → Rule → Place3 → FaultMap → FaultMap
judged broken rule place faults =
    cond broken (with_fault (record { position = place.position; rule = rule }) (record { decided = place.position; record_no = place.record_no; offset = None }) faults) faults

-- those of these faults that are at this position, in their order
abbrev pub faults_at : ℕ → List (FaultKey × Fault) → List (FaultKey × Fault)
faults_at position faults = filter (λ found. found.0.position == position) faults

-- the position of the first of these faults that is at this position or after it
abbrev pub first_from : ℕ → List (FaultKey × Fault) → Option ℕ
first_from position faults = option_map (λ found. found.0.position) (find (λ found. nat_le position found.0.position) faults)

-- those of these faults that were decided at another position, in their order
abbrev pub decided_elsewhere : ℕ → List (FaultKey × Fault) → List (FaultKey × Fault)
decided_elsewhere position faults = filter (λ found. not (found.1.decided == position)) faults
