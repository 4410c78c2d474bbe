use Rattle.mq_report.specs.Reasons.{reasoned_text_report}
use Rattle.std.proofs.lemmas.Result.{err_from_is_err_and}
use Rattle.mq_report.proofs.ReportLaws.{both_written, first_stops, second_stops}
use Rattle.mq_report.proofs.report.text.write_reasoned_text.Goals as goal

pub returns-in_err-write_reasoned_faults-clause-write : goal.returns-in_err-write_reasoned_faults-clause-write
unfolding reasoned_text_report
returns-in_err-write_reasoned_faults-clause-write g c =
    let p = err_from_is_err_and c.from_residual.result c.from_residual.ensures.1 in
    let failed = c.in_err-write_reasoned_faults.ensures.write in
    rw (p.1, p.2) (failed.0, first_stops _ _ _ _ failed.1)

pub returns-clause-ok : goal.returns-clause-ok
unfolding reasoned_text_report
returns-clause-ok g c = both_written (g.W.Write.contents c.args.writer.now) (g.W.Write.contents c.write_reasoned_faults.new.writer) (g.W.Write.contents c.write_verdict.new.writer) _ _ c.write_verdict.result c.in_ok-write_reasoned_faults.ensures.ok c.write_verdict.ensures.ok

pub returns-clause-write : goal.returns-clause-write
unfolding reasoned_text_report
returns-clause-write g c = second_stops (g.W.Write.contents c.args.writer.now) (g.W.Write.contents c.write_reasoned_faults.new.writer) (g.W.Write.contents c.write_verdict.new.writer) _ _ c.write_verdict.result c.in_ok-write_reasoned_faults.ensures.ok c.write_verdict.ensures.write
