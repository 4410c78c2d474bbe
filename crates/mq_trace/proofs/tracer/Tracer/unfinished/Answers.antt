use Rattle.std.proofs.Common.{Bool, ap, sym, ◌∙◌, subst}
use Rattle.mq_trace.specs.Keeping.{unfinished_by}
use Rattle.mq_trace.specs.Tracing.{Traced, HasRead, left_if}
use Rattle.mq_trace.proofs.TracingLaws.{kept_unfinished}
use Rattle.mq_trace.proofs.tracer.Tracer.unfinished.Goals as goal

pub returns-then-self-clause-follows : goal.returns-then-self-clause-follows
returns-then-self-clause-follows c = λ log h.
    let r = c.self.inside.reading in
    let k : HasRead r log = subst (λ (t : Traced). HasRead t.reading log) (sym c.self.view_is) h.keeps in
    c.unfinished_packets.ensures ∙ sym (ap (λ (b : Bool). left_if b (unfinished_by r)) c.if-self.true) ∙ sym (kept_unfinished r log k)

pub returns-else-self-clause-follows : goal.returns-else-self-clause-follows
returns-else-self-clause-follows c = λ log h.
    let r = c.self.inside.reading in
    let k : HasRead r log = subst (λ (t : Traced). HasRead t.reading log) (sym c.self.view_is) h.keeps in
    sym (ap (λ (b : Bool). left_if b (unfinished_by r)) c.if-self.false) ∙ sym (kept_unfinished r log k)
