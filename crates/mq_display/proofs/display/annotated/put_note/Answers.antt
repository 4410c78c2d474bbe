use Rattle.std.proofs.Common.{refl}
use Rattle.mq_display.proofs.OutgoingLaws.{puts_two}
use Rattle.mq_display.proofs.display.annotated.put_note.Goals as goal

pub returns : goal.returns
returns g c =
    let with_reason = puts_two g.W.Write.contents _ _ _ _ _ _ c.put_statement.ensures c.put_reason.ensures refl in
    let with_decided = puts_two g.W.Write.contents _ _ _ _ _ _ with_reason c.put_decided.ensures refl in
    let with_offset = puts_two g.W.Write.contents _ _ _ _ _ _ with_decided c.put_offset.ensures refl in
    let with_time = puts_two g.W.Write.contents _ _ _ _ _ _ with_offset c.put_time.ensures refl in
    puts_two g.W.Write.contents _ _ _ _ _ _ with_time c.put.ensures refl
