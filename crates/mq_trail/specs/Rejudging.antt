-- What is found of a log that is judged again.
use Rattle.std.specs.Prelude.{◌≡◌, ℕ, List, length}
use Rattle.mq_rules.specs.declared.role.Tested.{Tested}
use Rattle.mq_rules.specs.declared.rule.Rule.{Rule}
use Rattle.mq_rules.specs.declared.note.Seen.{Seen}
use Rattle.mq_rules.specs.FaultKeys.{FaultMap, fault_at}
use Rattle.mq_rules.specs.Faults.{fault_in}

-- So many events there are, and these are their faults, each with where it was decided.
pub record HasFound (count : ℕ) (faults : FaultMap) (tested : Tested) (past : List Seen) : Type 0 where
  pub each : (k : ℕ) (rule : Rule) → fault_at faults k rule ≡ fault_in tested past k rule
  pub counted : count ≡ length past
