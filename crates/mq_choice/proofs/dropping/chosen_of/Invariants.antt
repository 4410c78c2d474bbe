use Rattle.mq_choice.specs.Choices.{in_choice}
use Rattle.mq_choice.proofs.KeepLaws.{KeepsAll}
use Rattle.mq_choice.proofs.dropping.chosen_of.Given as goal

-- what was kept, and then the chosen ones of those that are left, are the chosen ones of all
abbrev pub invariant-loop-key : goal.invariant-loop-key
invariant-loop-key l = KeepsAll (in_choice l.choice) l.kept l.key-iterator l.fn.faults
