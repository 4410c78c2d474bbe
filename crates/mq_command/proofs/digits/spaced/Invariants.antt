use Rattle.std.proofs.Common.{◌≡◌, ◌++◌, length, map, string_bytes}
use Rattle.mq_command.specs.Digits.{spaced}
use Rattle.mq_command.proofs.digits.spaced.Given as goal

abbrev pub invariant-loop-rest : goal.invariant-loop-rest
invariant-loop-rest g l = string_bytes l.text ++ spaced (map g.S.AsStr.text l.rest) ≡ spaced (map g.S.AsStr.text l.words)

abbrev pub decreases-loop-rest : goal.decreases-loop-rest
decreases-loop-rest g l = length l.rest
