use Rattle.std.proofs.Common.{subst, sym, ap, ◌∙◌, ◌&&◌, ◌∷◌}
use Rattle.mq_rules.specs.declared.rule.Rule.TheVariants.{E7R}
use Rattle.mq_rules.specs.Rules.{same_rule}
use Rattle.mq_rules.specs.FaultKeys.{FaultMap}
use Rattle.mq_rules.specs.Under.{seen, fate_before, turns_with}
use Rattle.mq_rules.specs.Growing.{Gains}
use Rattle.mq_rules.specs.Notes.{note_in, is_received_pingreq, is_sent_pingresp}
use Rattle.mq_exchanges.specs.Pingings.{counted}
use Rattle.mq_exchanges.proofs.PingLaws.{pings-next, pings-gains}
use Rattle.mq_exchanges.proofs.pings.PingsFated.fated.Goals as goal

pub returns-clause-agrees : goal.returns-clause-agrees
returns-clause-agrees g c = λ tested past under q.
    let n = (g.E.Noted.note c.args.event.now) in
    let s = c.args.self.now in
    pings-next tested s (fate_before tested c.args.fate (seen c.args.at n) past) c.args.fate c.args.decided (seen c.args.at n) past c.ended_after-self.result c.counted-self.result c.counted-self-2.result q under c.ended_after-self.ensures
    (λ below. c.counted-self.ensures below ∙ ap (λ b. counted b c.is_open-opens.result s.asked) c.is_received_pingreq.ensures ∙ ap (λ b. counted (is_received_pingreq n) b s.asked) c.is_open-opens.ensures)
    (λ below. c.counted-self-2.ensures below ∙ ap (λ b. counted b c.is_open-opens.result s.answered) c.is_sent_pingresp.ensures ∙ ap (λ b. counted (is_sent_pingresp n) b s.answered) c.is_open-opens.ensures)

pub returns-clause-grows : goal.returns-clause-grows
returns-clause-grows g c = λ tested past under q.
    let e = seen c.args.at (g.E.Noted.note c.args.event.now) in
    subst (λ (m : FaultMap). Gains (λ k r. same_rule r E7R && turns_with tested c.args.fate e past k r) tested (e ∷ past) c.args.decided c.args.faults.now m) (sym c.in_ok-judge_by.ensures.ok)
    (pings-gains tested c.args.self.now c.args.fate (fate_before tested c.args.fate e past) c.args.decided e past c.args.faults.now c.is_unanswered-broken.result under q (c.is_unanswered-broken.ensures e.note c.is_rest.ensures))
