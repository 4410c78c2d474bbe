-- A watcher of whole logs.
use Rattle.std.specs.Prelude.{ℕ, ◌≡◌, Bool, ◌&&◌, cond, List, Option, None}
use Rattle.mq_rules.specs.declared.role.Tested.{Tested}
use Rattle.mq_rules.specs.declared.fate.Fate.{Fate}
use Rattle.mq_rules.specs.declared.rule.Rule.{Rule}
use Rattle.mq_rules.specs.declared.note.Seen.{Seen}
use Rattle.mq_rules.specs.Connections.{latest_fate}
use Rattle.mq_rules.specs.Steps.{turns}
use Rattle.mq_rules.specs.FaultKeys.{FaultMap, fault_at}
use Rattle.mq_rules.specs.Faults.{fault_in}

-- It takes every event of a log, and adds the pairs of these statements that turn out to fail.
pub record IsWhole (takes : Option Fate → Seen → List Seen → Type 0) (adds : Seen → List Seen → ℕ → Rule → Bool) (chosen : Rule → Bool) (tested : Tested) : Type 0 where
  pub taken : (e : Seen) (past : List Seen) → takes (latest_fate tested.role past) e past
  pub added : (e : Seen) (past : List Seen) (k : ℕ) (r : Rule) → adds e past k r ≡ (chosen r && turns tested e past k r)
