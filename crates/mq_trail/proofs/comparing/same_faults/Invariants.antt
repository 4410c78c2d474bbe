use Rattle.mq_trail.proofs.ComparingLaws.{AlikeSoFar}
use Rattle.mq_trail.proofs.comparing.same_faults.Given as goal

-- so far all were alike
abbrev pub invariant-loop-key : goal.invariant-loop-key
invariant-loop-key l = AlikeSoFar l.fn.faults l.fn.others l.key-iterator l.left
