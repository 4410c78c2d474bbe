use Rattle.std.proofs.lemmas.Result.{err_from_is_err_and}
use Rattle.mq_report.proofs.ReportLaws.{both_written, first_stops, second_stops}
use Rattle.mq_report.proofs.report.coverage.write_covered_ending.Goals as goal

pub returns-in_err-write_coverage-clause-write : goal.returns-in_err-write_coverage-clause-write
returns-in_err-write_coverage-clause-write g c =
    let p = err_from_is_err_and c.from_residual.result c.from_residual.ensures.1 in
    let failed = c.in_err-write_coverage.ensures.write in
    rw (p.1, p.2) (failed.0, first_stops _ _ _ _ failed.1)

pub returns-clause-ok : goal.returns-clause-ok
returns-clause-ok g c = both_written (g.W.Write.contents c.args.writer.now) (g.W.Write.contents c.write_coverage.new.writer) (g.W.Write.contents c.write_unjudged_ending.new.writer) _ _ c.write_unjudged_ending.result c.in_ok-write_coverage.ensures.ok c.write_unjudged_ending.ensures.ok

pub returns-clause-write : goal.returns-clause-write
returns-clause-write g c = second_stops (g.W.Write.contents c.args.writer.now) (g.W.Write.contents c.write_coverage.new.writer) (g.W.Write.contents c.write_unjudged_ending.new.writer) _ _ c.write_unjudged_ending.result c.in_ok-write_coverage.ensures.ok c.write_unjudged_ending.ensures.write
