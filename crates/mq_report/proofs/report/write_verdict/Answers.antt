use Rattle.std.proofs.Common.{ℕ, OnOk, IfErr, ◌≡◌, subst, ◌∙◌}
use Rattle.std.specs.FinMap as map
use Rattle.std.specs.Io.KnownBytes.{Appends}
use Rattle.mq_trace.specs.Writing.{AppendsBeginning}
use Rattle.mq_report.specs.declared.report.RunFault.TheVariants.{Write}
use Rattle.mq_report.specs.Report.{line, verdict_text}
use Rattle.mq_report.proofs.report.write_verdict.Goals as goal

pub returns-clause-ok : goal.returns-clause-ok
returns-clause-ok g c =
    subst (λ (n : ℕ). OnOk c.write_line.result (Appends (g.W.Write.contents c.args.writer.now) (g.W.Write.contents c.write_line.new.writer) (line (verdict_text n c.args.verdict.now.events))))
    (c.len.ensures ∙ map.len-entries _) c.write_line.ensures.ok

pub returns-clause-write : goal.returns-clause-write
returns-clause-write g c =
    subst (λ (n : ℕ). IfErr c.write_line.result (λ fault. (fault ≡ Write) × AppendsBeginning (g.W.Write.contents c.args.writer.now) (g.W.Write.contents c.write_line.new.writer) (line (verdict_text n c.args.verdict.now.events))))
    (c.len.ensures ∙ map.len-entries _) c.write_line.ensures.write
