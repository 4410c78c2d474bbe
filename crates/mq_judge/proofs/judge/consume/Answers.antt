use Rattle.std.proofs.Common.{◌++◌}
use Rattle.mq_judge.proofs.JudgeLaws.{Begun, begun, consumed, counting-stays, refused-first}
use Rattle.mq_judge.proofs.judge.consume.Goals as goal

pub returns-in-Ok-clause-answers : goal.returns-in-Ok-clause-answers
returns-in-Ok-clause-answers c = λ limit log f.
    let b = c.in-Ok.ensures.begins log f.traced in
    let from = begun limit c.args.further c.args.tracer.now c.begin.new.self c.args.judging.now.watching c.begin-in-Ok.new.self log c.args.piece.now c.in-Ok.rest.now c.header.result f b
    (c.header.ensures.follows _ b.follows) c.begin-in-Ok.ensures.first c.begin-in-Ok.ensures.unnamed c.begin-in-Ok.ensures.later in
    consumed limit c.args.further c.args.tracer.now c.begin.new.self c.take_events.new.tracer c.args.judging.now.watching c.begin-in-Ok.new.self c.take_events.new.judging.watching log c.args.piece.now c.in-Ok.rest.now
    c.take_events.result f b c.in-Ok.ensures.limit from c.take_events.ensures.refuses (c.take_events.ensures.answers _ b.follows from.watches from.tallies)

pub returns-in-Ok-clause-counts : goal.returns-in-Ok-clause-counts
returns-in-Ok-clause-counts c = λ limit log f.
    let b = c.in-Ok.ensures.begins log f.traced in
    let from = begun limit c.args.further c.args.tracer.now c.begin.new.self c.args.judging.now.watching c.begin-in-Ok.new.self log c.args.piece.now c.in-Ok.rest.now c.header.result f b
    (c.header.ensures.follows _ b.follows) c.begin-in-Ok.ensures.first c.begin-in-Ok.ensures.unnamed c.begin-in-Ok.ensures.later in
    counting-stays _ c.begin-in-Ok.new.self.tested _ _ (log ++ b.taken) c.in-Ok.rest.now c.take_events.new.tracer c.take_events.new.judging.watching c.take_events.result c.begin-in-Ok.ensures.kind (c.take_events.ensures.answers _ b.follows from.watches from.tallies)

pub returns-in-Err-clause-answers : goal.returns-in-Err-clause-answers
returns-in-Err-clause-answers c = λ limit log f.
    refused-first limit c.args.further c.args.tracer.now c.begin.new.self c.args.judging.now.watching log c.args.piece.now c.in-Err.refusal f c.in-Err.ensures.refuses (c.in-Err.ensures.stopped log f.traced)
