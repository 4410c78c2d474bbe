use Rattle.std.proofs.Common.{◌∙◌}
use Rattle.std.proofs.lemmas.Result.{err_from_is_err_and}
use Rattle.mq_report.proofs.ReasonLaws.{reasons_begin, reasons_go_on, reasons_stop, reasons_end}
use Rattle.mq_report.proofs.report.reasons.write_reasoned_faults.Goals as goal

pub loop-key-init : goal.loop-key-init
loop-key-init g c = reasons_begin _ _ _ _ _ (c.into_iter-key-iterator.ensures.into_iter_gives ∙ c.iter-key-items.ensures.rest)

pub loop-key-preserved : goal.loop-key-preserved
loop-key-preserved g c =
    reasons_go_on _ _ _ _ _ c.in-Some.key.now c.in-Some.fault.now _ c.loop-key.invariant c.in-Some.ensures.steps c.first_reason.ensures c.later_reasons-left.ensures c.in_ok-write_both_lines.ensures.ok

pub returns-in_err-write_both_lines-clause-write : goal.returns-in_err-write_both_lines-clause-write
returns-in_err-write_both_lines-clause-write g c =
    let p = err_from_is_err_and c.from_residual.result c.from_residual.ensures.1 in
    let failed = c.in_err-write_both_lines.ensures.write in
    rw (p.1, p.2) (failed.0, reasons_stop _ _ _ _ _ c.in-Some.key.now c.in-Some.fault.now _ c.loop-key.invariant c.in-Some.ensures.steps c.first_reason.ensures failed.1)

pub returns-clause-ok : goal.returns-clause-ok
returns-clause-ok g c = reasons_end _ _ _ c.loop-key.invariant c.in-None.ensures.steps.0
