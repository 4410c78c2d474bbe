use Rattle.std.proofs.Common.{arith}
use Rattle.mq_display.specs.Detailing.{detail_words}
use Rattle.mq_display.proofs.DetailLaws.{puts_next}
use Rattle.mq_display.proofs.display.details.detail.put_all.Goals as goal

pub loop-detail-preserved : goal.loop-detail-preserved
loop-detail-preserved g c =
    puts_next g.W.Write.contents _ c.loop-detail.out _ detail_words c.args.details.now c.loop-detail.detail-index _ (omega (arith, c.loop-detail-test.true))
    c.loop-detail.invariant c.put_detail.ensures
