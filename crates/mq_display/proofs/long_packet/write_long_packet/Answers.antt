use Rattle.std.proofs.Common.{refl}
use Rattle.mq_display.specs.LongPacket.{packet_lines}
use Rattle.mq_display.specs.OnePacket.{packet_report}
use Rattle.mq_display.proofs.LongPacketLaws.{begun_after}
use Rattle.mq_display.proofs.OutgoingLaws.{begins_more}
use Rattle.mq_trace.proofs.Exports.{last-written}
use Rattle.mq_display.proofs.long_packet.write_long_packet.Goals as goal

pub returns-in-Ok-write_lines-clause-ok : goal.returns-in-Ok-write_lines-clause-ok
returns-in-Ok-write_lines-clause-ok g c =
    last-written (g.W.Write.contents c.write_lines.new.writer) (packet_lines c.args.bytes.now)
    (record { written = packet_report c.args.bytes.now; parts = refl; appended = c.in-Ok.ensures.ok }) c.in-Ok-write_lines.ensures.ok

pub returns-in-Ok-write_lines-clause-one_packet : goal.returns-in-Ok-write_lines-clause-one_packet
returns-in-Ok-write_lines-clause-one_packet g c = c.in-Ok.ensures.one_packet

pub returns-in-Err-write_lines-clause-write : goal.returns-in-Err-write_lines-clause-write
returns-in-Err-write_lines-clause-write g c =
    let failed = c.in-Err-write_lines.ensures.write in (
      failed.0,
      begun_after (g.W.Write.contents c.args.writer.now) (g.W.Write.contents c.write_packet.new.writer) (g.W.Write.contents c.write_lines.new.writer)
          (packet_report c.args.bytes.now) (packet_lines c.args.bytes.now) c.in-Ok.ensures.ok failed.1,
    )

pub returns-in-Err-clause-write : goal.returns-in-Err-clause-write
returns-in-Err-clause-write g c = (c.in-Err.ensures.write.0, begins_more (packet_lines c.args.bytes.now) c.in-Err.ensures.write.1)
