use Rattle.std.proofs.Common.{◌≡◌, List}
use Rattle.std.specs.FinMap.{entries}
use Rattle.mq_rules.specs.declared.role.Tested.{Tested}
use Rattle.mq_rules.specs.declared.note.Seen.{Seen}
use Rattle.mq_trail.specs.Explaining.{AreWanted}
use Rattle.mq_trail.proofs.ExplainingLaws.{ReasonsSoFar}
use Rattle.mq_trail.proofs.explaining.reasons_of.Given as goal

-- those that are left are wanted; with their reasons, those that were found are the reasons of all
abbrev pub invariant-loop-key : goal.invariant-loop-key
invariant-loop-key g l = (tested : Tested) (past : List Seen) → l.fn.role ≡ tested.role → g.N.Reasons.knows l.fn.reading tested past → AreWanted g.N.Reasons.wanted tested past (entries l.fn.faults)
    → AreWanted g.N.Reasons.wanted tested past l.key-iterator × ReasonsSoFar tested past (entries l.fn.faults) l.key-iterator l.reasons.items
