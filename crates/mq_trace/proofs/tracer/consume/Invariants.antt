use Rattle.std.proofs.Common.{length}
use Rattle.mq_trace.specs.Keeping.{IsSound}
use Rattle.mq_trace.proofs.TracingLaws.{Goes}
use Rattle.mq_trace.proofs.tracer.consume.Given as goal

-- what is after the loop is taken in, and what is kept is sound
abbrev pub invariant-loop-rest : goal.invariant-loop-rest
invariant-loop-rest g l = Goes g.S.Sink.agrees l.fn.reading l.reading l.piece l.rest l.fn.sink l.sink × IsSound l.reading

abbrev pub decreases-loop-rest : goal.decreases-loop-rest
decreases-loop-rest g l = length l.rest
