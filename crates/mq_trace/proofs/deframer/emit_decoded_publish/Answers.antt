-- A PUBLISH is emitted as what it is.
use Rattle.std.proofs.Common.{ℕ, Option, sym, ap, ◌∙◌}
use Rattle.std.specs.Prelude.{unwrap_or}
use Rattle.mq_packet.specs.declared.packet.Packet.TheVariants as packets
use Rattle.mq_log.specs.declared.event.Item.TheVariants as items
use Rattle.mq_log.specs.Context.{emptied}
use Rattle.mq_trace.specs.Deframing.{body_context}
use Rattle.mq_log.specs.Reception.{Declines, item_of}
use Rattle.mq_trace.proofs.ItemLaws.{packet_item, emitted_met, emitted_kept, emitted_receives, emitted_err}
use Rattle.mq_trace.proofs.deframer.emit_decoded_publish.Goals as goal

pub emit_publish-requires : goal.emit_publish-requires
emit_publish-requires g c = c.size.ensures ∙ sym (ap (λ (o : Option ℕ). unwrap_or o 0) c.requires.sized)

pub returns-clause-met : goal.returns-clause-met
returns-clause-met g c =
    let is = packet_item c.args.frame.now.bytes.now (packets.Publish c.args.publish) c.requires.sized c.requires.read in
    emitted_met g.S.Sink.agrees (Declines g.S.Sink.agrees g.S.Sink.refuses) c.emit_publish.result c.args.at emptied c.args.connections.now (body_context c.args.context.now) c.args.frame.now.bytes.now (item_of (items.Packet (packets.Publish c.args.publish))) is c.emit_publish.ensures.met

pub returns-clause-kept : goal.returns-clause-kept
returns-clause-kept g c =
    let is = packet_item c.args.frame.now.bytes.now (packets.Publish c.args.publish) c.requires.sized c.requires.read in
    emitted_kept g.S.Sink.agrees (Declines g.S.Sink.agrees g.S.Sink.refuses) c.emit_publish.result c.args.at emptied c.args.connections.now (body_context c.args.context.now) c.args.frame.now.bytes.now (item_of (items.Packet (packets.Publish c.args.publish))) is c.emit_publish.new.connections c.emit_publish.ensures.kept

pub returns-clause-receives : goal.returns-clause-receives
returns-clause-receives g c =
    let is = packet_item c.args.frame.now.bytes.now (packets.Publish c.args.publish) c.requires.sized c.requires.read in
    emitted_receives g.S.Sink.agrees (Declines g.S.Sink.agrees g.S.Sink.refuses) c.emit_publish.result c.args.at emptied c.args.connections.now (body_context c.args.context.now) c.args.frame.now.bytes.now (item_of (items.Packet (packets.Publish c.args.publish))) is c.args.sink.now c.emit_publish.new.sink c.emit_publish.ensures.receives

pub returns-clause-err : goal.returns-clause-err
returns-clause-err g c =
    let is = packet_item c.args.frame.now.bytes.now (packets.Publish c.args.publish) c.requires.sized c.requires.read in
    emitted_err g.S.Sink.agrees (Declines g.S.Sink.agrees g.S.Sink.refuses) c.emit_publish.result c.args.at emptied c.args.connections.now (body_context c.args.context.now) c.args.frame.now.bytes.now (item_of (items.Packet (packets.Publish c.args.publish))) is c.args.sink.now c.emit_publish.new.sink c.emit_publish.ensures.err
