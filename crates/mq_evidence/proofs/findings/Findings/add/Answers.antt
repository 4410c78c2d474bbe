use Rattle.std.proofs.Common.{ap, sym, ◌∙◌, Some, cond}
use Rattle.std.specs.BTreeMap.{get}
use Rattle.mq_rules.specs.declared.faults.FaultKey.{FaultKey}
use Rattle.mq_rules.specs.FaultKeys.{key_cmp}
use Rattle.mq_rules.specs.contracts.faults.FaultKeyOrd.TheImpl.Laws as laws
use Rattle.mq_evidence.proofs.findings.Findings.add.Goals as goal

pub returns : goal.returns
returns c = λ k r.
    let q : FaultKey = record { position = k; rule = r } in
    c.in_ok-insert.ensures.updates.0 q ∙ ap (λ b. cond b (Some c.args.evidence) (get key_cmp c.args.self.now.found q)) (sym (laws.matches_eq-law c.args.key q))
