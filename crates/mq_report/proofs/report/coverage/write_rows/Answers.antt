use Rattle.std.proofs.lemmas.Result.{err_from_is_err_and}
use Rattle.mq_report.proofs.CoverageLaws.{rows_go_on, rows_stop}
use Rattle.mq_report.proofs.report.coverage.write_rows.Goals as goal

pub returns-in_err-write_line-clause-write : goal.returns-in_err-write_line-clause-write
returns-in_err-write_line-clause-write g c =
    let p = err_from_is_err_and c.from_residual.result c.from_residual.ensures.1 in
    let failed = c.in_err-write_line.ensures.write in
    rw (p.1, p.2) (failed.0, rows_stop _ _ c.args.role c.args.rows.now c.loop-covered.covered-index c.loop-covered-test.true c.loop-covered.invariant failed.1)

pub loop-covered-preserved : goal.loop-covered-preserved
loop-covered-preserved g c =
    rows_go_on _ c.args.role c.args.rows.now c.loop-covered.covered-index c.loop-covered-test.true c.loop-covered.invariant c.in_ok-write_line.ensures.ok
