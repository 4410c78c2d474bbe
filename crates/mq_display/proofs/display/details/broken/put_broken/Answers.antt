use Rattle.mq_display.specs.Details.{type_words, words_around}
use Rattle.mq_display.specs.ItemText.{with_spaces}
use Rattle.mq_display.specs.Marking.{marked_at}
use Rattle.mq_display.specs.Outgoing.{Puts}
use Rattle.mq_display.proofs.DetailLaws.{puts_words}
use Rattle.mq_display.proofs.display.details.broken.put_broken.Goals as goal

pub returns : goal.returns
returns g c =
    let bytes = c.args.bytes.now in
    let at = c.args.at in
    let mark = marked_at bytes c.args.rule at in
    let put_bytes : Puts g.W.Write.contents c.put_type.new.out (with_spaces (words_around at mark bytes)) c.put_around.new.out = rw (← c.marked_at.ensures.is) c.put_around.ensures in
    puts_words g.W.Write.contents _ _ _ (type_words bytes) (words_around at mark bytes) c.put_type.ensures put_bytes
