use Rattle.std.proofs.Common.{◌≡◌, length, map}
use Rattle.std.specs.List.{list_any}
use Rattle.mq_command.specs.Operands.{is_operand}
use Rattle.mq_command.proofs.operands.has_operand.Given as goal

abbrev pub invariant-loop-rest : goal.invariant-loop-rest
invariant-loop-rest g l = list_any is_operand (map g.S.AsStr.text l.rest) ≡ list_any is_operand (map g.S.AsStr.text l.words)

abbrev pub decreases-loop-rest : goal.decreases-loop-rest
decreases-loop-rest g l = length l.rest
