use Rattle.std.proofs.Common.{arith}
use Rattle.mq_display.specs.Details.{escaped}
use Rattle.mq_display.proofs.DetailLaws.{puts_next_item}
use Rattle.mq_display.proofs.display.details.quoting.put_escaped.Goals as goal

pub loop-byte-preserved : goal.loop-byte-preserved
loop-byte-preserved g c =
    puts_next_item g.W.Write.contents _ c.loop-byte.out _ escaped c.args.bytes.now c.loop-byte.byte-index _ (omega (arith, c.loop-byte-test.true))
    c.loop-byte.invariant c.put_escaped_byte.ensures
