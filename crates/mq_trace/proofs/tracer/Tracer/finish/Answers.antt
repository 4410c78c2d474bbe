-- A log ends where no record is unfinished.
use Rattle.std.proofs.Common.{ℕ, ap, ◌∙◌, sym, subst}
use Rattle.mq_log.specs.declared.refusal.Refusal.TheVariants.{Cut}
use Rattle.mq_trace.specs.declared.reading.Reading.{Reading}
use Rattle.mq_trace.specs.Tracing.{Traced, HasRead}
use Rattle.mq_trace.proofs.TracingLaws.{kept_at, kept_cut}
use Rattle.mq_trace.proofs.StopLaws.{keeps_header}
use Rattle.mq_trace.proofs.tracer.Tracer.finish.Goals as goal

pub returns-then-is_cut_short-clause-ends : goal.returns-then-is_cut_short-clause-ends
returns-then-is_cut_short-clause-ends c = λ log follows.
    let keeps = subst (λ (r : Reading). HasRead r log) (sym (ap (λ (t : Traced). t.reading) c.self.view_is)) follows.keeps in
    (ap (λ (n : ℕ). Cut n) (kept_at c.self.inside.reading log keeps), kept_cut c.self.inside.reading log keeps ∙ sym c.is_cut_short.ensures ∙ c.if-is_cut_short.true)

pub returns-clause-ends : goal.returns-clause-ends
returns-clause-ends c = λ log follows.
    let keeps = subst (λ (r : Reading). HasRead r log) (sym (ap (λ (t : Traced). t.reading) c.self.view_is)) follows.keeps in
    kept_cut c.self.inside.reading log keeps ∙ sym c.is_cut_short.ensures ∙ c.if-is_cut_short.false

pub returns-then-is_cut_short-clause-stopped : goal.returns-then-is_cut_short-clause-stopped
returns-then-is_cut_short-clause-stopped c = λ log follows.
    keeps_header c.self.inside.reading log (subst (λ (r : Reading). HasRead r log) (sym (ap (λ (t : Traced). t.reading) c.self.view_is)) follows.keeps)

pub returns-clause-stopped : goal.returns-clause-stopped
returns-clause-stopped c = λ log follows. keeps_header c.args.self.now.reading log follows.keeps
