use Rattle.std.specs.FinMap as map
use Rattle.std.proofs.lemmas.Result.{err_from_is_err_and}
use Rattle.mq_report.specs.Coverage.{covered_summary_report}
use Rattle.mq_report.proofs.SummaryLaws.{of_all_written, of_all_first_stops, of_all_second_stops}
use Rattle.mq_report.proofs.report.summary.write_covered_summary.Goals as goal

pub returns-in_err-write_rules-clause-write : goal.returns-in_err-write_rules-clause-write
unfolding covered_summary_report
returns-in_err-write_rules-clause-write g c =
    let p = err_from_is_err_and c.from_residual.result c.from_residual.ensures.1 in
    let failed = c.in_err-write_rules.ensures.write in
    rw (p.1, p.2) (failed.0, of_all_first_stops (g.W.Write.contents c.args.writer.now) (g.W.Write.contents c.write_rules.new.writer) c.args.role (map.entries c.args.verdict.now.faults) _ _ c.all.ensures failed.1)

pub returns-clause-ok : goal.returns-clause-ok
unfolding covered_summary_report
returns-clause-ok g c =
    of_all_written (g.W.Write.contents c.args.writer.now) (g.W.Write.contents c.write_rules.new.writer) (g.W.Write.contents c.write_covered_ending.new.writer) c.args.role (map.entries c.args.verdict.now.faults) _ c.write_covered_ending.result
    _ c.all.ensures c.in_ok-write_rules.ensures.ok c.write_covered_ending.ensures.ok

pub returns-clause-write : goal.returns-clause-write
unfolding covered_summary_report
returns-clause-write g c =
    of_all_second_stops (g.W.Write.contents c.args.writer.now) (g.W.Write.contents c.write_rules.new.writer) (g.W.Write.contents c.write_covered_ending.new.writer) c.args.role (map.entries c.args.verdict.now.faults) _ c.write_covered_ending.result
    _ c.all.ensures c.in_ok-write_rules.ensures.ok c.write_covered_ending.ensures.write
