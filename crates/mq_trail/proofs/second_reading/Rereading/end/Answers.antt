use Rattle.std.proofs.Common.{sym, ap, subst, ◌∙◌}
use Rattle.std.proofs.lemmas.Result.{err_from_is_err_and}
use Rattle.mq_log.specs.declared.refusal.Refusal.TheVariants as refusals
use Rattle.mq_trace.specs.Tracing.{Traced, IsTracedTo}
use Rattle.mq_rules.specs.Notes.{tested_as}
use Rattle.mq_report.proofs.Exports.{named_by}
use Rattle.mq_trail.proofs.SecondReadingLaws.{cut_unnamed}
use Rattle.mq_trail.proofs.second_reading.Rereading.end.Goals as goal

pub returns-in_err-finish : goal.returns-in_err-finish
returns-in_err-finish c = λ log traced.
    let p = err_from_is_err_and c.from_residual.result c.from_residual.ensures.1 in
    let ends = c.in_err-finish.ensures.ends log traced in
    rw (p.1, p.2) (ends.1, ends.0)

pub returns-in-Some : goal.returns-in-Some
returns-in-Some c = λ log traced.
    let still : IsTracedTo c.finish.new.self log = subst (λ (t : Traced). IsTracedTo t log) (sym c.in_ok-finish.ensures.same) traced in
    (c.in_ok-finish.ensures.ends log traced, c.of.ensures ∙ ap (tested_as c.args.further) (named_by log c.in-Some.header (sym c.in-Some.is ∙ c.header.ensures.follows log still)))

pub returns-in-None : goal.returns-in-None
returns-in-None c = λ log traced.
    let still : IsTracedTo c.finish.new.self log = subst (λ (t : Traced). IsTracedTo t log) (sym c.in_ok-finish.ensures.same) traced in
    (cut_unnamed log (sym c.in-None.is ∙ c.header.ensures.follows log still), ap refusals.Cut (c.byte_count.ensures.follows log still))
