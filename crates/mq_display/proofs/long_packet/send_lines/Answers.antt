use Rattle.mq_display.specs.LongPacket.{packet_lines}
use Rattle.mq_display.proofs.LongPacketLaws.{carried, part_sent, whole_sent}
use Rattle.mq_display.proofs.long_packet.send_lines.Goals as goal

pub returns-clause-ok : goal.returns-clause-ok
returns-clause-ok g c =
    let contents = g.W.Write.contents in
    let out = c.put_lines.new.out in
    let text = packet_lines c.args.bytes.now in
    whole_sent contents out (contents c.args.out.now.writer.now) (contents c.write_last.new.self.writer.now) text c.write_last.result
    (carried contents c.args.out.now out text c.requires.0 c.requires.1 c.put_lines.ensures) c.write_last.ensures.written

pub returns-clause-write : goal.returns-clause-write
returns-clause-write g c =
    let contents = g.W.Write.contents in
    let out = c.put_lines.new.out in
    let text = packet_lines c.args.bytes.now in
    part_sent contents out (contents c.args.out.now.writer.now) (contents c.write_last.new.self.writer.now) text c.write_last.result
    (carried contents c.args.out.now out text c.requires.0 c.requires.1 c.put_lines.ensures) c.write_last.ensures.failed
