use Rattle.std.specs.FinMap.{entries}
use Rattle.mq_trail.proofs.UntilLaws.{NoneAfter}
use Rattle.mq_trail.proofs.until.last_decided.Given as goal

-- of those so far, none was decided after the last
abbrev pub invariant-loop-key : goal.invariant-loop-key
invariant-loop-key l = NoneAfter l.last l._key-iterator (entries l.fn.faults)
