use Rattle.mq_trail.proofs.ComparingLaws.{CopiesAll}
use Rattle.mq_trail.proofs.comparing.copy_of.Given as goal

-- what was copied, and then what is left, are all faults
abbrev pub invariant-loop-key : goal.invariant-loop-key
invariant-loop-key l = CopiesAll l.copy l.key-iterator l.fn.faults
