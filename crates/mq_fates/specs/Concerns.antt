-- An event that doesn't concern a watcher leaves what it keeps as it is, and shows none of its statements to be false.
use Rattle.std.specs.Prelude.{ℕ, Bool, ◌&&◌, List, ◌∷◌}
use Rattle.mq_rules.specs.declared.role.Tested.{Tested}
use Rattle.mq_rules.specs.declared.fate.Fate.{Fate}
use Rattle.mq_rules.specs.declared.rule.Rule.{Rule}
use Rattle.mq_rules.specs.declared.note.Seen.{Seen}
use Rattle.mq_rules.specs.FaultKeys.{FaultMap}
use Rattle.mq_rules.specs.Under.{turns_with}
use Rattle.mq_rules.specs.Growing.{Gains}

-- With the event a state that agreed with the events before agrees with all of them, and no statement that is judged turns out to fail.
pub record Passes (agrees : List Seen → Type 0) (judges : Rule → Bool) (tested : Tested) (f : Fate) (at : ℕ) (e : Seen) (past : List Seen) : Type 0 where
  pub stays : agrees (e ∷ past)
  pub shows : (m : FaultMap) → Gains (λ k r. judges r && turns_with tested f e past k r) tested (e ∷ past) at m m
