use Rattle.std.proofs.Common.{sym, subst, take, ◌∙◌}
use Rattle.std.specs.Prelude.{reverse}
use Rattle.mq_rules.specs.Statements.{is_on_past}
use Rattle.mq_rules.specs.Faults.{GrowsWithin}
use Rattle.mq_connections.specs.Finding.{Agrees}
use Rattle.mq_rules.proofs.Exports.{grows-next, grows-start, newest-first, next-place, on_err, within-next}
use Rattle.mq_connections.proofs.WatchLaws.{agrees-start}
use Rattle.mq_connections.proofs.HarmlessLaws.{harmless-agrees, harmless-grows}
use Rattle.mq_connections.proofs.plain.plain_c.Goals as goal

pub loop-event-init : goal.loop-event-init
loop-event-init c = record {
  agrees = agrees-start c.new-conn.result c.args.tested c.new-conn.ensures;
  bounded = c.send_bounds-bounds.ensures;
  grown = λ placed. grows-start (is_on_past c.args.tested) c.args.tested c.args.faults.now;
}

pub loop-event-preserved : goal.loop-event-preserved
loop-event-preserved c =
    let seen = c.args.seen.now in
    let i = c.loop-event.event-index in
    let e = c.event-item.result in
    let past = reverse (take i seen) in
    record {
      agrees = subst (Agrees c.take_in.new.self c.args.tested) (sym (newest-first seen i e c.loop-event-test.true c.event-item.is))
          (c.in_ok-take_in.ensures.agrees c.args.tested past c.loop-event.invariant.agrees);
      bounded = c.send_bounds-bounds-in-loop-event.ensures;
      grown = λ placed. grows-next (is_on_past c.args.tested) c.args.tested seen i e c.args.faults.now c.loop-event.faults c.take_in.new.faults c.loop-event-test.true c.event-item.is
          (c.loop-event.invariant.grown placed)
          (c.in_ok-take_in.ensures.grows c.args.tested past c.loop-event.invariant.agrees (next-place seen i e c.loop-event-test.true c.event-item.is placed));
    }

pub loop-event-preserved-then-is_harmless : goal.loop-event-preserved-then-is_harmless
loop-event-preserved-then-is_harmless c =
    let seen = c.args.seen.now in
    let i = c.loop-event.event-index in
    let e = c.event-item.result in
    let past = reverse (take i seen) in
    let harmless = sym c.is_harmless.ensures ∙ c.if-is_harmless.true in
    record {
      agrees = subst (Agrees c.loop-event.conn c.args.tested) (sym (newest-first seen i e c.loop-event-test.true c.event-item.is))
          (harmless-agrees c.loop-event.conn c.args.tested e past c.loop-event.bounds c.loop-event.invariant.bounded harmless c.loop-event.invariant.agrees);
      bounded = c.loop-event.invariant.bounded;
      grown = λ placed. grows-next (is_on_past c.args.tested) c.args.tested seen i e c.args.faults.now c.loop-event.faults c.loop-event.faults c.loop-event-test.true c.event-item.is
          (c.loop-event.invariant.grown placed)
          (harmless-grows c.loop-event.conn c.args.tested e past c.loop-event.faults c.loop-event.bounds c.loop-event.invariant.bounded harmless c.loop-event.invariant.agrees (next-place seen i e c.loop-event-test.true c.event-item.is placed));
    }

pub returns-in_err-take_in-clause-memory : goal.returns-in_err-take_in-clause-memory
returns-in_err-take_in-clause-memory c = λ placed.
    let seen = c.args.seen.now in
    let i = c.loop-event.event-index in
    let e = c.event-item.result in
    on_err c.from_residual.result (GrowsWithin (is_on_past c.args.tested) c.args.tested (reverse seen) c.args.faults.now c.take_in.new.faults)
    (within-next (is_on_past c.args.tested) c.args.tested seen i e c.args.faults.now c.loop-event.faults c.take_in.new.faults c.loop-event-test.true c.event-item.is
    (c.loop-event.invariant.grown placed)
    (c.in_err-take_in.ensures.memory c.args.tested (reverse (take i seen)) c.loop-event.invariant.agrees (next-place seen i e c.loop-event-test.true c.event-item.is placed)))
