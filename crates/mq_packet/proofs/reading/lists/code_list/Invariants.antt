use Rattle.std.proofs.Common.{length}
use Rattle.mq_packet.proofs.CodeLaws.{Goes}
use Rattle.mq_packet.proofs.reading.lists.code_list.Given as goal

abbrev pub invariant-loop-rest : goal.invariant-loop-rest
invariant-loop-rest l = Goes l.table l.initial.rest l.rest

abbrev pub decreases-loop-rest : goal.decreases-loop-rest
decreases-loop-rest l = length l.rest.rest
