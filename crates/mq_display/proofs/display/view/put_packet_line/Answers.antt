use Rattle.std.proofs.Common.{refl}
use Rattle.mq_display.proofs.ViewLaws.{puts_in_room}
use Rattle.mq_display.proofs.display.view.put_packet_line.Goals as goal

pub returns : goal.returns
returns g c = puts_in_room g.W.Write.contents _ _ _ _ c.make_room.ensures.puts c.put_summary_line.ensures refl refl
