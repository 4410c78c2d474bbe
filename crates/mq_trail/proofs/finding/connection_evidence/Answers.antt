use Rattle.std.proofs.Common.{ap, sym, ◌∙◌, Some}
use Rattle.std.specs.Prelude.{is_some}
use Rattle.mq_rules.specs.FaultKeys.{fault_at}
use Rattle.mq_evidence.specs.Findings.{found_at}
use Rattle.mq_evidence.proofs.Exports.{evidence-on-connection}
use Rattle.mq_trail.proofs.FindingLaws.{placed-where-fails}
use Rattle.mq_trail.proofs.finding.connection_evidence.Goals as goal

pub returns : goal.returns
returns g c = λ tested taken past agrees on wanted failing.
    let k = c.args.key.position in
    let r = c.args.key.rule in
    let at = placed-where-fails tested past k r failing in
    c.get.ensures
    ∙ ap (λ f. found_at f k r) c.findings.ensures
    ∙ agrees.0.explained k r at.0 at.1 on (ap (λ m. is_some (fault_at m k r)) agrees.1 ∙ wanted)
    ∙ ap (λ e. Some e) (sym (evidence-on-connection tested past k r on failing))
