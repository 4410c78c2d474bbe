use Rattle.std.proofs.Common.{sym, subst, take}
use Rattle.std.specs.Prelude.{reverse}
use Rattle.mq_rules.specs.Statements.{is_on_bytes}
use Rattle.mq_rules.specs.Faults.{GrowsWithin}
use Rattle.mq_rules.proofs.Exports.{grows-next, grows-start, next-place, on_err, within-beginning}
use Rattle.mq_connections.proofs.plain.plain_w.Goals as goal

pub loop-event-init : goal.loop-event-init
loop-event-init c = λ placed. grows-start (is_on_bytes c.args.tested) c.args.tested c.args.faults.now

pub loop-event-preserved : goal.loop-event-preserved
loop-event-preserved c = λ placed.
    let seen = c.args.seen.now in
    let i = c.loop-event.event-index in
    let e = c.event-item.result in
    grows-next (is_on_bytes c.args.tested) c.args.tested seen i e c.args.faults.now c.loop-event.faults c.judge_bytes.new.faults c.loop-event-test.true c.event-item.is
    (c.loop-event.invariant placed) (c.in_ok-judge_bytes.ensures.ok c.args.tested (reverse (take i seen)) (next-place seen i e c.loop-event-test.true c.event-item.is placed))

pub returns-in_err-judge_bytes-clause-memory : goal.returns-in_err-judge_bytes-clause-memory
returns-in_err-judge_bytes-clause-memory c = λ placed.
    on_err c.from_residual.result (GrowsWithin (is_on_bytes c.args.tested) c.args.tested (reverse c.args.seen.now) c.args.faults.now c.judge_bytes.new.faults)
    (subst (GrowsWithin (is_on_bytes c.args.tested) c.args.tested (reverse c.args.seen.now) c.args.faults.now) (sym c.in_err-judge_bytes.ensures.unchanged)
    (within-beginning (is_on_bytes c.args.tested) c.args.tested c.args.seen.now c.loop-event.event-index c.args.faults.now c.loop-event.faults (c.loop-event.invariant placed)))
