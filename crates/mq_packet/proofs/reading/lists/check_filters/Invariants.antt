use Rattle.std.proofs.Common.{length}
use Rattle.mq_packet.proofs.FilterLaws.{Goes}
use Rattle.mq_packet.proofs.reading.lists.check_filters.Given as goal

abbrev pub invariant-loop-cursor : goal.invariant-loop-cursor
invariant-loop-cursor l = Goes l.asks l.initial.cursor l.cursor

abbrev pub decreases-loop-cursor : goal.decreases-loop-cursor
decreases-loop-cursor l = length l.cursor.rest
