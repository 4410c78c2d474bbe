use Rattle.std.proofs.Common.{arith}
use Rattle.mq_display.specs.Details.{code_words}
use Rattle.mq_display.proofs.DetailLaws.{puts_next}
use Rattle.mq_display.proofs.display.details.put_codes.Goals as goal

pub loop-code-preserved : goal.loop-code-preserved
loop-code-preserved g c =
    puts_next g.W.Write.contents _ c.loop-code.out _ code_words c.as_bytes-bytes.result.now c.loop-code.code-index _ (omega (arith, c.loop-code-test.true))
    c.loop-code.invariant c.put_code.ensures
