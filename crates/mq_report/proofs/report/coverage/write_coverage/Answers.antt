use Rattle.std.proofs.Common.{ℕ, OnOk, IfErr, ◌≡◌, subst, length}
use Rattle.std.specs.Io.KnownBytes.{Appends}
use Rattle.mq_trace.specs.Writing.{AppendsBeginning}
use Rattle.mq_report.specs.declared.report.RunFault.TheVariants.{Write}
use Rattle.mq_report.specs.Report.{line}
use Rattle.mq_report.specs.Coverage.{covered_text}
use Rattle.std.proofs.lemmas.Result.{err_from_is_err_and}
use Rattle.mq_report.proofs.ReportLaws.{both_written, first_stops, second_stops}
use Rattle.mq_report.proofs.report.coverage.write_coverage.Goals as goal

pub returns-in_err-write_rows-clause-write : goal.returns-in_err-write_rows-clause-write
returns-in_err-write_rows-clause-write g c =
    let p = err_from_is_err_and c.from_residual.result c.from_residual.ensures.1 in
    let failed = c.in_err-write_rows.ensures.write in
    rw (p.1, p.2) (failed.0, first_stops _ _ _ _ failed.1)

pub returns-clause-ok : goal.returns-clause-ok
returns-clause-ok g c =
    let total = subst (λ (n : ℕ). OnOk c.write_line.result (Appends (g.W.Write.contents c.write_rows.new.writer) (g.W.Write.contents c.write_line.new.writer) (line (covered_text n (length c.args.rows.now)))))
    c.covered_count.ensures c.write_line.ensures.ok in
    both_written (g.W.Write.contents c.args.writer.now) (g.W.Write.contents c.write_rows.new.writer) (g.W.Write.contents c.write_line.new.writer) _ _ c.write_line.result c.in_ok-write_rows.ensures.ok total

pub returns-clause-write : goal.returns-clause-write
returns-clause-write g c =
    let total = subst (λ (n : ℕ). IfErr c.write_line.result (λ fault. (fault ≡ Write) × AppendsBeginning (g.W.Write.contents c.write_rows.new.writer) (g.W.Write.contents c.write_line.new.writer) (line (covered_text n (length c.args.rows.now)))))
    c.covered_count.ensures c.write_line.ensures.write in
    second_stops (g.W.Write.contents c.args.writer.now) (g.W.Write.contents c.write_rows.new.writer) (g.W.Write.contents c.write_line.new.writer) _ _ c.write_line.result c.in_ok-write_rows.ensures.ok total
