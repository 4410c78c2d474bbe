use Rattle.std.proofs.Common.{sym, ◌∙◌, ap, subst}
use Rattle.mq_log.specs.Context.{Context}
use Rattle.mq_trace.specs.Tracing.{Traced, HasRead}
use Rattle.mq_log.proofs.Exports.{at_context}
use Rattle.mq_trace.proofs.tracer.Tracer.byte_count.Goals as goal

pub returns-in-None-clause-follows : goal.returns-in-None-clause-follows
returns-in-None-clause-follows c = λ log h.
    let k : HasRead c.self.inside.reading log = subst (λ (t : Traced). HasRead t.reading log) (sym c.self.view_is) h.keeps in
    ap (λ (x : Context). x.at) (sym k.kept) ∙ at_context log
