use Rattle.std.proofs.Common.{◌≡◌, length, map}
use Rattle.mq_command.specs.Operands.{has_two_operands}
use Rattle.mq_command.proofs.operands.has_two_operands.Given as goal

abbrev pub invariant-loop-rest : goal.invariant-loop-rest
invariant-loop-rest g l = has_two_operands (map g.S.AsStr.text l.rest) ≡ has_two_operands (map g.S.AsStr.text l.words)

abbrev pub decreases-loop-rest : goal.decreases-loop-rest
decreases-loop-rest g l = length l.rest
