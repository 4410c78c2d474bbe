use Rattle.mq_display.specs.Details.{mark_words, shown_from, words_from}
use Rattle.mq_display.specs.ItemText.{with_spaces}
use Rattle.mq_display.specs.Outgoing.{Puts}
use Rattle.mq_display.proofs.DetailLaws.{puts_words}
use Rattle.mq_display.proofs.display.details.broken.put_around.Goals as goal

pub returns : goal.returns
returns g c =
    let bytes = c.args.bytes.now in
    let at = c.args.at in
    let mark = c.args.mark in
    let put_bytes : Puts g.W.Write.contents c.put_mark.new.out (with_spaces (words_from (shown_from mark) mark bytes)) c.put_from.new.out = rw (← c.shown_from.ensures.is) c.put_from.ensures in
    puts_words g.W.Write.contents _ _ _ (mark_words at mark) (words_from (shown_from mark) mark bytes) c.put_mark.ensures put_bytes
