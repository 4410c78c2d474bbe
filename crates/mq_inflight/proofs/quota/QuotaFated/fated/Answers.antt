use Rattle.std.proofs.Common.{refl, subst, sym, ap, ◌∙◌, ◌&&◌, ◌∷◌}
use Rattle.std.specs.Prelude.{is_some}
use Rattle.mq_rules.specs.declared.rule.Rule.TheVariants.{S07}
use Rattle.mq_rules.specs.Notes.{note_in}
use Rattle.mq_rules.specs.Rules.{same_rule}
use Rattle.mq_rules.specs.FaultKeys.{FaultMap}
use Rattle.mq_rules.specs.Under.{seen, fate_before, turns_with}
use Rattle.mq_rules.specs.Growing.{Gains}
use Rattle.mq_inflight.proofs.QuotaLaws.{quota-taken, quota-gained}
use Rattle.mq_inflight.proofs.quota.QuotaFated.fated.Goals as goal

pub returns-clause-agrees : goal.returns-clause-agrees
returns-clause-agrees g c = λ tested past under q.
    let e = seen c.args.at (g.E.Noted.note c.args.event.now) in
    quota-taken tested c.args.self.now (fate_before tested c.args.fate e past) c.args.fate c.args.decided e past c.is_some-delivers.result c.take.new.self q under (c.is_some-delivers.ensures ∙ ap (λ o. is_some o) c.delivery.ensures) c.take.ensures.kept

pub returns-clause-grows : goal.returns-clause-grows
returns-clause-grows g c = λ tested past under q.
    let e = seen c.args.at (g.E.Noted.note c.args.event.now) in
    quota-gained tested c.args.self.now (fate_before tested c.args.fate e past) c.args.fate c.args.decided e past c.is_some-delivers.result c.args.faults.now c.take.new.faults q under (c.is_some-delivers.ensures ∙ ap (λ o. is_some o) c.delivery.ensures) c.in_ok-take.ensures.judged
