use Rattle.std.proofs.Common.{◌∙◌}
use Rattle.std.proofs.lemmas.Result.{err_from_is_err_and}
use Rattle.mq_report.proofs.ReportLaws.{report-begins, report-goes-on, report-stops, report-ends}
use Rattle.mq_report.proofs.report.text.write_faults.Goals as goal

pub loop-key-init : goal.loop-key-init
loop-key-init g c = report-begins _ _ _ _ (c.into_iter-key-iterator.ensures.into_iter_gives ∙ c.iter-key-items.ensures.rest)

pub loop-key-preserved : goal.loop-key-preserved
loop-key-preserved g c =
    report-goes-on _ _ _ c.in-Some.key.now c.in-Some.fault.now c.loop-key.invariant c.in-Some.ensures.steps c.in_ok-write_line.ensures.ok

pub returns-in_err-write_line-clause-write : goal.returns-in_err-write_line-clause-write
returns-in_err-write_line-clause-write g c =
    let p = err_from_is_err_and c.from_residual.result c.from_residual.ensures.1 in
    let failed = c.in_err-write_line.ensures.write in
    rw (p.1, p.2) (failed.0, report-stops _ _ _ _ c.in-Some.key.now c.in-Some.fault.now c.loop-key.invariant c.in-Some.ensures.steps failed.1)

pub returns-clause-ok : goal.returns-clause-ok
returns-clause-ok g c = report-ends _ _ c.loop-key.invariant c.in-None.ensures.steps.0
