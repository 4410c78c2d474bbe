-- Events that a watcher need not take in.
use Rattle.std.specs.Prelude.{ℕ, ◌+◌, Bool, List, ◌∷◌, length, Option}
use Rattle.mq_rules.specs.declared.role.Tested.{Tested}
use Rattle.mq_rules.specs.declared.fate.Fate.{Fate}
use Rattle.mq_rules.specs.declared.rule.Rule.{Rule}
use Rattle.mq_rules.specs.declared.note.Seen.{Seen}
use Rattle.mq_rules.specs.Connections.{latest_fate}
use Rattle.mq_rules.specs.FaultKeys.{FaultMap}
use Rattle.mq_rules.specs.Growing.{Gains}

-- What agreed with the events before agrees, as it is, with all of them, and none of the pairs turns out to fail.
pub record Skips (agrees : Option Fate → List Seen → Type 0) (adds : ℕ → Rule → Bool) (tested : Tested) (e : Seen) (past : List Seen) : Type 0 where
  pub stays : agrees (latest_fate tested.role (e ∷ past)) (e ∷ past)
  pub shows : (m : FaultMap) → Gains adds tested (e ∷ past) (length past + 1) m m
