use Rattle.std.proofs.Common.{◌≡◌, sym, subst, ◌∙◌, Some}
use Rattle.mq_rules.specs.Statements.{is_on_bytes}
use Rattle.mq_rules.specs.FaultKeys.{with_fault}
use Rattle.mq_rules.specs.Growing.{GrowsBy}
use Rattle.mq_connections.proofs.ByteFaultLaws.{bytes-none, bytes-some}
use Rattle.mq_rules.specs.Under.{seen}
use Rattle.mq_connections.proofs.shapes.ShapesWatch.step.Goals as goal

pub returns-in_default-clause-grows : goal.returns-in_default-clause-grows
returns-in_default-clause-grows c = λ tested taken past follows takes agrees.
    record { each = (bytes-none tested (seen c.args.at c.args.note.now) past c.args.faults.now (sym c.body_fault.ensures ∙ c.in_default.is)).each }

pub returns-clause-grows : goal.returns-clause-grows
returns-clause-grows c = λ tested taken past follows takes agrees.
    let e = seen c.args.at c.args.note.now in
    let b = c.in-Some.broken in
    let new : c.add.new.self ≡ with_fault (record { position = e.place.position; rule = c.of.result }) (record { decided = e.place.position; record_no = e.place.record_no; offset = Some b.at }) c.args.faults.now =
    rw (← c.at_once.ensures) c.in_ok-add.ensures.ok in
    record {
      each = (subst (GrowsBy (is_on_bytes tested) tested e past c.args.faults.now) (sym new)
          (bytes-some tested e past c.args.faults.now c.of.result b follows.placed.0 (sym c.body_fault.ensures ∙ c.in-Some.is) (c.of.ensures tested.role))).each;
    }
