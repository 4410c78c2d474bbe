-- The sum of the parts so far, which a Remaining Length can say.
use Rattle.std.proofs.Common.{◌≡◌, ◌≤◌, take}
use Rattle.std.specs.Prelude.{sum}
use Rattle.mq_packet.proofs.writing.lengths.sum_within.Given as goal

abbrev pub invariant-loop-part : goal.invariant-loop-part
invariant-loop-part l = (l.total ≡ sum (take l.part-index l.parts)) × (l.total ≤ 268435455)
