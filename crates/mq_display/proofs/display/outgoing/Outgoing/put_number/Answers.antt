use Rattle.std.proofs.Common.{[], refl, decimal}
use Rattle.std.proofs.lemmas.Fmt.{decimal_nonempty}
use Rattle.mq_display.proofs.OutgoingLaws.{puts_two, sends_or_fails}
use Rattle.mq_display.proofs.display.outgoing.Outgoing.put_number.Goals as goal

pub returns : goal.returns
returns g c =
    puts_two g.W.Write.contents c.args.self.now c.make_room.new.self _ [] (decimal c.args.number) (decimal c.args.number) c.make_room.ensures.puts (record {
      same = refl;
      carries = λ held whole so_far.
          sends_or_fails c.make_room.new.self.failed c.put_unless_failed-self.result held (g.W.Write.contents c.make_room.new.self.writer.now) whole
          c.make_room.new.self.lines (decimal c.args.number) c.put_unless_failed-self.new.lines (decimal_nonempty c.args.number search) c.put_unless_failed-self.ensures so_far;
    }) refl
