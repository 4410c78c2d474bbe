-- A whole packet in place.
use Rattle.std.proofs.Common.{[], arith}
use Rattle.mq_trace.proofs.ItemLaws.{frame_by_header}
use Rattle.mq_trace.proofs.DeframerLaws.{comes_of, stops_of}
use Rattle.mq_log.specs.Reception.{Declines}
use Rattle.mq_trace.proofs.deframer.consume_whole.Goals as goal

pub returns-clause-comes : goal.returns-clause-comes
returns-clause-comes g c =
    comes_of g.S.Sink.agrees (Declines g.S.Sink.agrees g.S.Sink.refuses) c.args.context.limit c.args.context c.args.at _ c.args.connections.now [] c.args.frame.bytes.now
    (frame_by_header c.args.frame.bytes.now c.args.frame.header c.requires.frame.whole) (omega (arith, c.requires.some)) (omega (arith, c.requires.some)) c.requires.within
    c.emit_frame.result c.emit_frame.new.connections c.args.sink.now c.emit_frame.new.sink c.emit_frame.ensures.met c.emit_frame.ensures.kept c.emit_frame.ensures.receives

pub returns-clause-stops : goal.returns-clause-stops
returns-clause-stops g c =
    stops_of g.S.Sink.agrees (Declines g.S.Sink.agrees g.S.Sink.refuses) c.args.context.limit c.args.context c.args.at _ c.args.connections.now [] c.args.frame.bytes.now
    (frame_by_header c.args.frame.bytes.now c.args.frame.header c.requires.frame.whole) (omega (arith, c.requires.some)) (omega (arith, c.requires.some)) c.requires.within
    c.emit_frame.result c.args.sink.now c.emit_frame.new.sink c.emit_frame.ensures.err
