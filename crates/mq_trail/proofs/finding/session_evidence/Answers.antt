use Rattle.std.proofs.Common.{ap, ◌∙◌, Some}
use Rattle.std.specs.Prelude.{is_some}
use Rattle.mq_rules.specs.FaultKeys.{fault_at}
use Rattle.mq_evidence.specs.Findings.{found_at}
use Rattle.mq_evidence.proofs.Exports.{on-session}
use Rattle.mq_trail.proofs.FindingLaws.{settled-shut, settled-evidence}
use Rattle.mq_trail.proofs.finding.session_evidence.Goals as goal

pub returns : goal.returns
returns g c = λ tested taken past agrees finds wanted failing.
    let k = c.args.key.position in
    let r = c.args.key.rule in
    let told = c.watcher.ensures.agrees tested taken past agrees in
    let at = c.watcher.ensures.failed tested taken past k r agrees (on-session tested r finds) failing in
    c.get.ensures
    ∙ ap (λ f. found_at f k r) c.findings.ensures
    ∙ told.0.explained k r at.within finds (ap (λ m. is_some (fault_at m k r)) told.1 ∙ wanted) (settled-shut tested past k r finds failing at)
    ∙ ap (λ e. Some e) (settled-evidence tested past k r finds failing at)
