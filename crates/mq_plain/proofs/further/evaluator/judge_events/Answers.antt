use Rattle.std.proofs.Common.{take}
use Rattle.std.specs.Prelude.{reverse}
use Rattle.mq_rules.specs.Faults.{GrowsWithin}
use Rattle.mq_rules.proofs.Exports.{on_err, grows-start, grows-next, next-place, within-next}
use Rattle.mq_plain.proofs.LoopLaws.{placed-here}
use Rattle.mq_plain.proofs.FurtherLaws.{placed-grows, placed-within}
use Rattle.mq_plain.proofs.further.evaluator.judge_events.Goals as goal

pub loop-i-init : goal.loop-i-init
loop-i-init g c = λ placed. grows-start g.E.AtOnce.chosen c.args.tested c.args.faults.now

pub loop-i-preserved : goal.loop-i-preserved
loop-i-preserved g c = λ placed.
    let seen = c.args.seen.now in
    let i = c.loop-i.i in
    let e = c.index-seen-i.result in
    grows-next g.E.AtOnce.chosen c.args.tested seen i e c.args.faults.now c.loop-i.faults c.judge_at.new.faults c.loop-i-test.true c.index-seen-i.is
    (c.loop-i.invariant placed)
    (placed-grows g.E.AtOnce.chosen c.args.tested e (reverse (take i seen)) c.loop-i.faults c.judge_at.new.faults (next-place seen i e c.loop-i-test.true c.index-seen-i.is placed)
    (c.in_ok-judge_at.ensures.ok c.of-evaluator.ensures (placed-here seen i e c.loop-i-test.true c.index-seen-i.is placed)))

pub returns-in_err-judge_at-clause-memory : goal.returns-in_err-judge_at-clause-memory
returns-in_err-judge_at-clause-memory g c = λ placed.
    let seen = c.args.seen.now in
    let i = c.loop-i.i in
    let e = c.index-seen-i.result in
    on_err c.from_residual.result (GrowsWithin g.E.AtOnce.chosen c.args.tested (reverse seen) c.args.faults.now c.judge_at.new.faults)
    (within-next g.E.AtOnce.chosen c.args.tested seen i e c.args.faults.now c.loop-i.faults c.judge_at.new.faults c.loop-i-test.true c.index-seen-i.is
    (c.loop-i.invariant placed)
    (placed-within g.E.AtOnce.chosen c.args.tested e (reverse (take i seen)) c.loop-i.faults c.judge_at.new.faults (next-place seen i e c.loop-i-test.true c.index-seen-i.is placed)
    (c.in_err-judge_at.ensures.memory c.of-evaluator.ensures (placed-here seen i e c.loop-i-test.true c.index-seen-i.is placed))))
