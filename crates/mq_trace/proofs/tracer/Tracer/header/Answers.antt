-- What the header says is kept.
use Rattle.std.proofs.Common.{Bool, Some, None, length, ap, ◌∙◌, sym, subst, arith, if◌then◌else◌}
use Rattle.std.proofs.lemmas.Bool.{lt-ltb, le-ltb, ltb-false}
use Rattle.mq_log.specs.declared.header.Header.{Header}
use Rattle.mq_trace.specs.declared.reading.Reading.{Reading}
use Rattle.mq_trace.specs.Tracing.{Traced, HasRead, KeepsHeader}
use Rattle.mq_log.specs.Framing.{header_by}
use Rattle.mq_trace.proofs.TracingLaws.{kept_at, kept_header}
use Rattle.mq_trace.proofs.tracer.Tracer.header.Goals as goal

pub returns-then-self-lt-HEADER_LENGTH-clause-follows : goal.returns-then-self-lt-HEADER_LENGTH-clause-follows
returns-then-self-lt-HEADER_LENGTH-clause-follows c = λ log follows.
    let at = kept_at c.self.inside.reading log (subst (λ (r : Reading). HasRead r log) (sym (ap (λ (t : Traced). t.reading) c.self.view_is)) follows.keeps) in
    sym (ap (λ (b : Bool). if b then None else Some (header_by log)) (lt-ltb (length log) 8 (omega (arith, at, c.if-self-lt-HEADER_LENGTH.true))))

pub returns-clause-follows : goal.returns-clause-follows
returns-clause-follows c = λ log follows.
    let at = kept_at c.self.inside.reading log (subst (λ (r : Reading). HasRead r log) (sym (ap (λ (t : Traced). t.reading) c.self.view_is)) follows.keeps) in
    ap (λ (h : Header). Some h) (kept_header c.self.inside.reading log (subst (λ (r : Reading). HasRead r log) (sym (ap (λ (t : Traced). t.reading) c.self.view_is)) follows.keeps))
    ∙ sym (ap (λ (b : Bool). if b then None else Some (header_by log)) (le-ltb (length log) 8 (omega (arith, at, c.if-self-lt-HEADER_LENGTH.false))))

pub returns-then-self-lt-HEADER_LENGTH-clause-stopped : goal.returns-then-self-lt-HEADER_LENGTH-clause-stopped
returns-then-self-lt-HEADER_LENGTH-clause-stopped c = λ taken keeps.
    let kept = subst (λ (r : Reading). KeepsHeader r taken) (sym (ap (λ (t : Traced). t.reading) c.self.view_is)) keeps in
    sym (ap (λ (b : Bool). if b then None else Some (header_by taken)) (sym kept.whole ∙ lt-ltb c.self.inside.reading.at 8 (omega (arith, c.if-self-lt-HEADER_LENGTH.true))))

pub returns-clause-stopped : goal.returns-clause-stopped
returns-clause-stopped c = λ taken keeps.
    let kept = subst (λ (r : Reading). KeepsHeader r taken) (sym (ap (λ (t : Traced). t.reading) c.self.view_is)) keeps in
    let long = sym kept.whole ∙ le-ltb c.self.inside.reading.at 8 (omega (arith, c.if-self-lt-HEADER_LENGTH.false)) in
    ap (λ (h : Header). Some h) (kept.named (ltb-false (length taken) 8 long)) ∙ sym (ap (λ (b : Bool). if b then None else Some (header_by taken)) long)
