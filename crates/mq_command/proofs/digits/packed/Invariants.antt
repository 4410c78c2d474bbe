use Rattle.std.proofs.Common.{◌≡◌, ◌++◌, length}
use Rattle.mq_command.specs.Digits.{packed}
use Rattle.mq_command.proofs.digits.packed.Given as goal

abbrev pub invariant-loop-rest : goal.invariant-loop-rest
invariant-loop-rest l = l.packed.items ++ packed l.rest ≡ packed l.text

abbrev pub decreases-loop-rest : goal.decreases-loop-rest
decreases-loop-rest l = length l.rest
