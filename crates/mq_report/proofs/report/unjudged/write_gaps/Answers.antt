use Rattle.std.proofs.lemmas.Result.{err_from_is_err_and}
use Rattle.mq_report.proofs.UnjudgedLaws.{gaps_go_on, gaps_stop}
use Rattle.mq_report.proofs.report.unjudged.write_gaps.Goals as goal

pub returns-in_err-write_line-clause-write : goal.returns-in_err-write_line-clause-write
returns-in_err-write_line-clause-write g c =
    let p = err_from_is_err_and c.from_residual.result c.from_residual.ensures.1 in
    let failed = c.in_err-write_line.ensures.write in
    rw (p.1, p.2) (failed.0, gaps_stop _ _ c.args.gaps.now c.loop-gap.gap-index c.loop-gap-test.true c.loop-gap.invariant failed.1)

pub loop-gap-preserved : goal.loop-gap-preserved
loop-gap-preserved g c =
    gaps_go_on _ c.args.gaps.now c.loop-gap.gap-index c.loop-gap-test.true c.loop-gap.invariant c.in_ok-write_line.ensures.ok
