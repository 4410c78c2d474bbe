use Rattle.std.proofs.Common.{sym, subst, take, ◌∙◌, ◌||◌, Bool}
use Rattle.std.specs.Prelude.{reverse}
use Rattle.mq_rules.specs.declared.role.Tested.{Tested}
use Rattle.mq_rules.specs.declared.rule.Rule.{Rule}
use Rattle.mq_rules.specs.Statements.{is_on_bytes, is_on_past}
use Rattle.mq_rules.specs.Faults.{GrowsWithin}
use Rattle.mq_connections.specs.Finding.{Agrees}
use Rattle.mq_rules.proofs.Exports.{grows-next, grows-start, newest-first, next-place, on_err, within-beginning, within-next}
use Rattle.mq_connections.proofs.AtPlaceLaws.{grows-then, second-within}
use Rattle.mq_connections.proofs.ByteFaultLaws.{bytes-none}
use Rattle.mq_connections.proofs.WatchLaws.{agrees-start}
use Rattle.mq_connections.proofs.HarmlessLaws.{harmless-agrees, harmless-grows, harmless-unbroken}
use Rattle.mq_connections.proofs.one_pass.plain_connections.Goals as goal

abbrev either : Tested → Rule → Bool
either tested rule = is_on_bytes tested rule || is_on_past tested rule

pub loop-event-init : goal.loop-event-init
loop-event-init c = record {
  agrees = agrees-start c.new-conn.result c.args.tested c.new-conn.ensures;
  bounded = c.send_bounds-bounds.ensures;
  grown = λ placed. grows-start (either c.args.tested) c.args.tested c.args.faults.now;
}

pub loop-event-preserved : goal.loop-event-preserved
loop-event-preserved c =
    let seen = c.args.seen.now in
    let tested = c.args.tested in
    let i = c.loop-event.event-index in
    let e = c.event-item.result in
    let past = reverse (take i seen) in
    record {
      agrees = subst (Agrees c.take_in.new.self tested) (sym (newest-first seen i e c.loop-event-test.true c.event-item.is))
          (c.in_ok-take_in.ensures.agrees tested past c.loop-event.invariant.agrees);
      bounded = c.send_bounds-bounds-in-loop-event.ensures;
      grown = λ placed.
          let here = next-place seen i e c.loop-event-test.true c.event-item.is placed in
          grows-next (either tested) tested seen i e c.args.faults.now c.loop-event.faults c.take_in.new.faults c.loop-event-test.true c.event-item.is
          (c.loop-event.invariant.grown placed)
          (grows-then (is_on_bytes tested) (is_on_past tested) tested e past c.loop-event.faults c.judge_bytes.new.faults c.take_in.new.faults
          (c.in_ok-judge_bytes.ensures.ok tested past here) (c.in_ok-take_in.ensures.grows tested past c.loop-event.invariant.agrees here));
    }

pub loop-event-preserved-then-is_harmless : goal.loop-event-preserved-then-is_harmless
loop-event-preserved-then-is_harmless c =
    let seen = c.args.seen.now in
    let tested = c.args.tested in
    let i = c.loop-event.event-index in
    let e = c.event-item.result in
    let past = reverse (take i seen) in
    let harmless = sym c.is_harmless.ensures ∙ c.if-is_harmless.true in
    record {
      agrees = subst (Agrees c.loop-event.conn tested) (sym (newest-first seen i e c.loop-event-test.true c.event-item.is))
          (harmless-agrees c.loop-event.conn tested e past c.loop-event.bounds c.loop-event.invariant.bounded harmless c.loop-event.invariant.agrees);
      bounded = c.loop-event.invariant.bounded;
      grown = λ placed.
          let here = next-place seen i e c.loop-event-test.true c.event-item.is placed in
          grows-next (either tested) tested seen i e c.args.faults.now c.loop-event.faults c.loop-event.faults c.loop-event-test.true c.event-item.is
          (c.loop-event.invariant.grown placed)
          (grows-then (is_on_bytes tested) (is_on_past tested) tested e past c.loop-event.faults c.loop-event.faults c.loop-event.faults
          (bytes-none tested e past c.loop-event.faults (harmless-unbroken c.loop-event.bounds e.note harmless))
          (harmless-grows c.loop-event.conn tested e past c.loop-event.faults c.loop-event.bounds c.loop-event.invariant.bounded harmless c.loop-event.invariant.agrees here));
    }

pub returns-in_err-judge_bytes-clause-memory : goal.returns-in_err-judge_bytes-clause-memory
returns-in_err-judge_bytes-clause-memory c = λ placed.
    let tested = c.args.tested in
    on_err c.from_residual.result (GrowsWithin (either tested) tested (reverse c.args.seen.now) c.args.faults.now c.judge_bytes.new.faults)
    (subst (GrowsWithin (either tested) tested (reverse c.args.seen.now) c.args.faults.now) (sym c.in_err-judge_bytes.ensures.unchanged)
    (within-beginning (either tested) tested c.args.seen.now c.loop-event.event-index c.args.faults.now c.loop-event.faults (c.loop-event.invariant.grown placed)))

pub returns-in_err-take_in-clause-memory : goal.returns-in_err-take_in-clause-memory
returns-in_err-take_in-clause-memory c = λ placed.
    let tested = c.args.tested in
    let seen = c.args.seen.now in
    let i = c.loop-event.event-index in
    let e = c.event-item.result in
    let past = reverse (take i seen) in
    let here = next-place seen i e c.loop-event-test.true c.event-item.is placed in
    on_err c.from_residual-in_err-take_in.result (GrowsWithin (either tested) tested (reverse seen) c.args.faults.now c.take_in.new.faults)
    (within-next (either tested) tested seen i e c.args.faults.now c.loop-event.faults c.take_in.new.faults c.loop-event-test.true c.event-item.is
    (c.loop-event.invariant.grown placed)
    (second-within (is_on_bytes tested) (is_on_past tested) tested e past c.loop-event.faults c.judge_bytes.new.faults c.take_in.new.faults
    (c.in_ok-judge_bytes.ensures.ok tested past here)
    (c.in_err-take_in.ensures.memory tested past c.loop-event.invariant.agrees here)))
