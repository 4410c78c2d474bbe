use Rattle.std.proofs.Common.{◌∷◌, [], sym, append_assoc}
use Rattle.mq_log.specs.Reception.{placed_at}
use Rattle.mq_display.specs.Details.{detail_text}
use Rattle.mq_display.specs.Display.{event_words}
use Rattle.mq_display.proofs.OutgoingLaws.{puts_three}
use Rattle.mq_display.proofs.display.view.put_long_line.Goals as goal

pub returns : goal.returns
returns g c =
    let placed = placed_at c.args.place c.args.event.now in
    puts_three g.W.Write.contents _ _ _ _ _ _ _ _ c.put_event_words.ensures c.put_details.ensures c.put.ensures
    (sym (append_assoc (event_words c.args.timed placed) (detail_text placed.event) (10 ∷ [])))
