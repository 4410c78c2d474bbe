use Rattle.std.proofs.Common.{take}
use Rattle.mq_plain.specs.Blames.{Blames}
use Rattle.mq_plain.proofs.resting.blame.Given as goal

-- the places so far have their faults
abbrev pub invariant-loop-place : goal.invariant-loop-place
invariant-loop-place l = Blames l.fn.rule l.fn.decided (take l.place-index l.places) l.initial.faults l.faults
