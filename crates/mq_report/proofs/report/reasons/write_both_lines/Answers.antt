use Rattle.std.proofs.lemmas.Result.{err_from_is_err_and}
use Rattle.mq_report.proofs.ReportLaws.{both_written, first_stops, second_stops}
use Rattle.mq_report.proofs.report.reasons.write_both_lines.Goals as goal

pub returns-in_err-write_line-clause-write : goal.returns-in_err-write_line-clause-write
returns-in_err-write_line-clause-write g c =
    let p = err_from_is_err_and c.from_residual.result c.from_residual.ensures.1 in
    let failed = c.in_err-write_line.ensures.write in
    rw (p.1, p.2) (failed.0, first_stops _ _ _ _ failed.1)

pub returns-clause-ok : goal.returns-clause-ok
returns-clause-ok g c = both_written (g.W.Write.contents c.args.writer.now) (g.W.Write.contents c.write_line.new.writer) (g.W.Write.contents c.write_line-2.new.writer) _ _ c.write_line-2.result c.in_ok-write_line.ensures.ok c.write_line-2.ensures.ok

pub returns-clause-write : goal.returns-clause-write
returns-clause-write g c = second_stops (g.W.Write.contents c.args.writer.now) (g.W.Write.contents c.write_line.new.writer) (g.W.Write.contents c.write_line-2.new.writer) _ _ c.write_line-2.result c.in_ok-write_line.ensures.ok c.write_line-2.ensures.write
