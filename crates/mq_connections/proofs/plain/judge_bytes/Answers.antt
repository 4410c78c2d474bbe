use Rattle.std.proofs.Common.{◌≡◌, sym, subst, ◌∙◌, Some}
use Rattle.mq_rules.specs.Statements.{is_on_bytes}
use Rattle.mq_rules.specs.FaultKeys.{with_fault}
use Rattle.mq_rules.specs.Growing.{GrowsBy}
use Rattle.mq_connections.proofs.ByteFaultLaws.{bytes-none, bytes-some}
use Rattle.mq_connections.proofs.plain.judge_bytes.Goals as goal

pub returns-in_default-clause-ok : goal.returns-in_default-clause-ok
returns-in_default-clause-ok c = λ tested past placed. bytes-none tested c.args.event.now past c.args.faults.now (sym c.body_fault.ensures ∙ c.in_default.is)

pub returns-clause-ok : goal.returns-clause-ok
returns-clause-ok c =
    let e = c.args.event.now in
    let b = c.in-Some.broken in
    let new : c.add.new.self ≡ with_fault (record { position = e.place.position; rule = c.of.result }) (record { decided = e.place.position; record_no = e.place.record_no; offset = Some b.at }) c.args.faults.now =
    rw (← c.at_once.ensures) c.in_ok-add.ensures.ok in
    λ tested past placed. subst (GrowsBy (is_on_bytes tested) tested e past c.args.faults.now) (sym new)
    (bytes-some tested e past c.args.faults.now c.of.result b placed (sym c.body_fault.ensures ∙ c.in-Some.is) (c.of.ensures tested.role))
