use Rattle.std.proofs.Common.{ℕ, List, ◌++◌, ap, ◌∙◌}
use Rattle.mq_display.specs.Display.{place_text, direction_word}
use Rattle.mq_display.specs.ItemText.{packet_text}
use Rattle.mq_display.proofs.PacketLineLaws.{packet_line_put}
use Rattle.mq_display.proofs.display.view.try_put_summary_line.Goals as goal

pub returns-clause-puts : goal.returns-clause-puts
returns-clause-puts c =
    packet_line_put c.put-4.result c.args.lines.now c.put_place.new.lines c.put.new.self c.put-2.new.self c.put-3.new.self c.put_packet.new.lines c.put-4.new.self
    (place_text c.args.timed c.args.place) (direction_word c.args.direction) (packet_text c.args.packet c.args.size)
    c.in_ok-put_place.ensures.puts c.in_ok-put.ensures.puts
    (c.in_ok-put-2.ensures.puts ∙ ap (λ (word : List ℕ). c.put.new.self ++ word) c.direction_word.ensures.word)
    c.in_ok-put-3.ensures.puts c.in_ok-put_packet.ensures.puts c.put-4.ensures.puts
