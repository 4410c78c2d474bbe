use Rattle.std.proofs.Common.{◌≡◌, sym, ◌∙◌, ap, subst}
use Rattle.std.proofs.lemmas.Result.{err_from_is_err_and}
use Rattle.mq_log.specs.declared.refusal.Refusal.TheVariants as refusals
use Rattle.mq_trace.specs.Tracing.{Traced, IsTracedTo}
use Rattle.mq_rules.specs.declared.role.Tested.{Tested}
use Rattle.mq_rules.specs.Notes.{tested_as}
use Rattle.mq_judge.specs.Judging.{AreFaultsOf}
use Rattle.mq_judge.proofs.JudgeLaws.{cut_unnamed, not-refused}
use Rattle.mq_report.proofs.Exports.{named_by}
use Rattle.mq_judge.proofs.judge.Judge.take_verdict.Goals as goal

pub returns-in_err-finish-clause-verdict : goal.returns-in_err-finish-clause-verdict
returns-in_err-finish-clause-verdict c = λ log k.
    let p = err_from_is_err_and c.from_residual.result c.from_residual.ensures.1 in
    let ends = c.in_err-finish.ensures.ends log k.traced in
    rw (p.1, p.2) (ends.1, ends.0)

pub returns-in_default-clause-verdict : goal.returns-in_default-clause-verdict
returns-in_default-clause-verdict c = λ log k.
    let traced : IsTracedTo c.finish.new.self log = subst (λ (t : Traced). IsTracedTo t log) (sym c.in_ok-finish.ensures.same) k.traced in
    (cut_unnamed log (sym c.in_default.is ∙ c.header.ensures.follows log traced), ap refusals.Cut (c.byte_count.ensures.follows log traced))

pub returns-clause-verdict : goal.returns-clause-verdict
returns-clause-verdict c = λ log k. (c.in_ok-finish.ensures.ends log k.traced, k.knows.events, subst (AreFaultsOf c.args.self.now.further log) (sym c.take_faults.ensures) k.knows.faults)

pub returns-clause-role : goal.returns-clause-role
returns-clause-role c = λ log k.
    let traced : IsTracedTo c.finish.new.self log = subst (λ (t : Traced). IsTracedTo t log) (sym c.in_ok-finish.ensures.same) k.traced in
    ap (λ (t : Tested). t.role) (c.of-role.ensures ∙ ap (tested_as c.args.self.now.further) (named_by log c.in-Some.header (sym c.in-Some.is ∙ c.header.ensures.follows log traced)))

pub returns-in_default-clause-for_ever : goal.returns-in_default-clause-for_ever
returns-in_default-clause-for_ever c = not-refused c.args.self.now.tracer.refusal tt (λ refusal. c.finish.new.self ≡ c.args.self.now.tracer) _ c.in_ok-finish.ensures.for_ever

pub returns-clause-for_ever : goal.returns-clause-for_ever
returns-clause-for_ever c = not-refused c.args.self.now.tracer.refusal tt (λ refusal. c.finish.new.self ≡ c.args.self.now.tracer) _ c.in_ok-finish.ensures.for_ever
