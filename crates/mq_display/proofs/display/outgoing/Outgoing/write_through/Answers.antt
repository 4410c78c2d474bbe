use Rattle.std.proofs.Common.{[], refl}
use Rattle.mq_display.proofs.OutgoingLaws.{puts_two, sends_directly}
use Rattle.mq_display.proofs.display.outgoing.Outgoing.write_through.Goals as goal

pub returns : goal.returns
returns g c =
    puts_two g.W.Write.contents c.args.self.now c.write_out.new.self _ [] c.args.bytes.now c.args.bytes.now c.write_out.ensures.puts (record {
      same = refl;
      carries = λ held whole so_far.
          sends_directly c.write_out.new.self.failed c.write_unless_failed-self.result held (g.W.Write.contents c.write_out.new.self.writer.now)
          (g.W.Write.contents c.write_unless_failed-self.new.writer) whole c.args.bytes.now c.write_out.new.self.lines c.write_out.ensures.empty c.write_unless_failed-self.ensures.written
          c.write_unless_failed-self.ensures.stopped so_far;
    }) refl
