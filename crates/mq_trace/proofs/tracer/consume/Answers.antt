-- A piece is taken in step by step.
use Rattle.std.proofs.Common.{ℕ, List, sym, subst}
use Rattle.mq_trace.proofs.TracingLaws.{Goes, goes_on, ends_kept, rest_same, nothing_left}
use Rattle.mq_trace.proofs.StopLaws.{stops_at}
use Rattle.mq_trace.proofs.tracer.consume.Goals as goal

pub loop-rest-preserved : goal.loop-rest-preserved
loop-rest-preserved g c = (
  subst (λ (l : List ℕ). Goes {S = g.row.S.Denot} g.S.Sink.agrees c.args.reading.now c.consume.new.self c.args.piece.now l c.args.sink.now c.consume.new.sink) (sym (rest_same c.in-Ok.count c.loop-rest.rest.now))
      (goes_on g.S.Sink.agrees c.args.reading.now c.loop-rest.reading c.consume.new.self c.args.piece.now c.loop-rest.rest.now c.in-Ok.count c.args.sink.now c.loop-rest.sink c.consume.new.sink
      c.loop-rest.invariant.0 c.in-Ok.ensures.comes),
  c.in-Ok.ensures.sound,
)

pub returns-in-Err-clause-stops : goal.returns-in-Err-clause-stops
returns-in-Err-clause-stops g c = λ log keeps.
    stops_at g.S.Sink.agrees g.S.Sink.refuses c.args.reading.now c.loop-rest.reading c.consume.new.self c.args.piece.now c.loop-rest.rest.now c.args.sink.now c.loop-rest.sink c.consume.new.sink c.in-Err.refusal
    c.loop-rest.invariant.0 c.in-Err.ensures.stops c.in-Err.ensures.stays c.in-Err.ensures.early log keeps

pub returns-clause-keeps : goal.returns-clause-keeps
returns-clause-keeps g c = λ log keeps.
    (ends_kept g.S.Sink.agrees c.args.reading.now c.loop-rest.reading c.args.piece.now c.loop-rest.rest.now c.args.sink.now c.loop-rest.sink c.loop-rest.invariant.0
    (nothing_left c.loop-rest.rest.now c.is_empty.result c.is_empty.ensures c.loop-rest-test.false) log keeps).0

pub returns-clause-receives : goal.returns-clause-receives
returns-clause-receives g c = λ log keeps.
    (ends_kept g.S.Sink.agrees c.args.reading.now c.loop-rest.reading c.args.piece.now c.loop-rest.rest.now c.args.sink.now c.loop-rest.sink c.loop-rest.invariant.0
    (nothing_left c.loop-rest.rest.now c.is_empty.result c.is_empty.ensures c.loop-rest-test.false) log keeps).1
