-- A whole packet with a fault is emitted as what it is.
use Rattle.std.proofs.Common.{Err, ap, ◌∙◌}
use Rattle.mq_log.specs.Events.{item_read}
use Rattle.mq_log.specs.Context.{emptied}
use Rattle.mq_trace.specs.Deframing.{body_context}
use Rattle.mq_log.specs.Reception.{Declines}
use Rattle.mq_trace.proofs.ItemLaws.{emitted_met, emitted_kept, emitted_receives, emitted_err, other_met}
use Rattle.mq_trace.proofs.deframer.emit_fault.Goals as goal

pub returns-in-Broken-clause-met : goal.returns-in-Broken-clause-met
returns-in-Broken-clause-met g c =
    let is = ap (item_read c.args.frame.now.bytes.now) (c.requires.read ∙ ap Err c.in-Broken.is) in
    emitted_met g.S.Sink.agrees (Declines g.S.Sink.agrees g.S.Sink.refuses) c.emit_bad.result c.args.at emptied c.args.connections.now (body_context c.args.context.now) c.args.frame.now.bytes.now _ is c.emit_bad.ensures.met

pub returns-in-Broken-clause-kept : goal.returns-in-Broken-clause-kept
returns-in-Broken-clause-kept g c =
    let is = ap (item_read c.args.frame.now.bytes.now) (c.requires.read ∙ ap Err c.in-Broken.is) in
    emitted_kept g.S.Sink.agrees (Declines g.S.Sink.agrees g.S.Sink.refuses) c.emit_bad.result c.args.at emptied c.args.connections.now (body_context c.args.context.now) c.args.frame.now.bytes.now _ is c.emit_bad.new.connections c.emit_bad.ensures.kept

pub returns-in-Broken-clause-receives : goal.returns-in-Broken-clause-receives
returns-in-Broken-clause-receives g c =
    let is = ap (item_read c.args.frame.now.bytes.now) (c.requires.read ∙ ap Err c.in-Broken.is) in
    emitted_receives g.S.Sink.agrees (Declines g.S.Sink.agrees g.S.Sink.refuses) c.emit_bad.result c.args.at emptied c.args.connections.now (body_context c.args.context.now) c.args.frame.now.bytes.now _ is c.args.sink.now c.emit_bad.new.sink c.emit_bad.ensures.receives

pub returns-in-Broken-clause-err : goal.returns-in-Broken-clause-err
returns-in-Broken-clause-err g c =
    let is = ap (item_read c.args.frame.now.bytes.now) (c.requires.read ∙ ap Err c.in-Broken.is) in
    emitted_err g.S.Sink.agrees (Declines g.S.Sink.agrees g.S.Sink.refuses) c.emit_bad.result c.args.at emptied c.args.connections.now (body_context c.args.context.now) c.args.frame.now.bytes.now _ is c.args.sink.now c.emit_bad.new.sink c.emit_bad.ensures.err

pub returns-in-OtherVersion-clause-err : goal.returns-in-OtherVersion-clause-err
returns-in-OtherVersion-clause-err g c =
    other_met (Declines g.S.Sink.agrees g.S.Sink.refuses) c.args.at emptied c.args.connections.now (body_context c.args.context.now) c.args.frame.now.bytes.now c.args.sink.now
    (ap (item_read c.args.frame.now.bytes.now) (c.requires.read ∙ ap Err c.in-OtherVersion.is))
