use Rattle.std.proofs.Common.{ℕ, sym, ap, subst}
use Rattle.mq_trace.specs.declared.reading.Reading.{Reading}
use Rattle.mq_trace.specs.Tracing.{Traced, HasRead, StopsAt}
use Rattle.mq_trace.proofs.tracer.Tracer.feed.Goals as goal

-- the reader that the tracer holds is the one that its value names
pub returns-in-Err-clause-stopped : goal.returns-in-Err-clause-stopped
returns-in-Err-clause-stopped g c = λ log follows.
    subst (λ (n : ℕ). StopsAt g.S.Sink.agrees g.S.Sink.refuses n log c.args.piece.now c.args.sink.now c.consume-taken.new.sink c.consume-taken.new.reading c.in-Err.refusal)
    (ap (λ (t : Traced). t.reading.limit) c.self.view_is)
    (c.in-Err.ensures.stops log (subst (λ (r : Reading). HasRead r log) (sym (ap (λ (t : Traced). t.reading) c.self.view_is)) follows.keeps))

pub returns-in-Err-clause-answers : goal.returns-in-Err-clause-answers
returns-in-Err-clause-answers g c = λ log follows. (returns-in-Err-clause-stopped g c log follows).0
