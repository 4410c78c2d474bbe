use Rattle.std.proofs.Common.{codes}
use Rattle.mq_display.specs.Details.{unfinished_words}
use Rattle.mq_display.proofs.DetailLaws.{puts_words}
use Rattle.mq_display.proofs.display.details.unfinished.put_unfinished.Goals as goal

pub returns : goal.returns
returns g c =
    let unfinished = c.args.unfinished.now in
    puts_words g.W.Write.contents _ _ _ (unfinished_words (codes "sent") unfinished.sent.now) (unfinished_words (codes "received") unfinished.received.now)
    c.put_direction.ensures c.put_direction-2.ensures
