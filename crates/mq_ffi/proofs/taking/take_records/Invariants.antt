use Rattle.std.proofs.Common.{length}
use Rattle.mq_trace.specs.Writing.{framed}
use Rattle.mq_ffi.proofs.TakingLaws.{HasTaken}
use Rattle.mq_ffi.proofs.taking.take_records.Given as goal

abbrev pub invariant-loop-rest : goal.invariant-loop-rest
invariant-loop-rest l = HasTaken (framed 1 0 l.kind) l.fn.bytes l.rest l.fn.judge l.judge l.fn.refused l.refused

abbrev pub decreases-loop-rest : goal.decreases-loop-rest
decreases-loop-rest l = length l.rest
