use Rattle.std.proofs.Common.{arith}
use Rattle.mq_display.specs.Details.{hex_words}
use Rattle.mq_display.proofs.DetailLaws.{puts_next}
use Rattle.mq_display.proofs.display.details.broken.put_hex.Goals as goal

pub loop-byte-preserved : goal.loop-byte-preserved
loop-byte-preserved g c =
    puts_next g.W.Write.contents _ c.loop-byte.out _ hex_words c.args.bytes.now c.loop-byte.byte-index _ (omega (arith, c.loop-byte-test.true))
    c.loop-byte.invariant c.put_hex_word.ensures
