use Rattle.std.proofs.Common.{is_some, refl, sym, take, ◌∙◌}
use Rattle.std.specs.Prelude.{reverse}
use Rattle.mq_rules.specs.Faults.{GrowsWithin}
use Rattle.mq_rules.proofs.Exports.{both_true, on_err, grows-start, grows-next, within-next}
use Rattle.mq_plain.proofs.LoopLaws.{placed-here, kept-step, kept-stays}
use Rattle.mq_plain.proofs.QuietLaws.{idle-idles}
use Rattle.mq_plain.proofs.GrowthLaws.{passed-grows}
use Rattle.mq_plain.specs.Events.{is_idle}
use Rattle.mq_plain.proofs.pass.judge_each.Goals as goal

pub loop-i-init : goal.loop-i-init
loop-i-init g c = record { grown = λ placed. grows-start g.E.Evaluator.chosen c.args.tested c.args.faults.now; kept = record { fate = refl; opened = refl; asked = refl } }

pub loop-i-preserved : goal.loop-i-preserved
loop-i-preserved g c =
    let seen = c.args.seen.now in
    let i = c.loop-i.i in
    let e = c.index-seen-i.result in
    record {
      grown = λ placed.
          grows-next g.E.Evaluator.chosen c.args.tested seen i e c.args.faults.now c.loop-i.faults c.judge_event.new.faults c.loop-i-test.true c.index-seen-i.is
          (c.loop-i.invariant.grown placed)
          (c.in_ok-judge_event.ensures.ok c.of-evaluator.ensures (placed-here seen i e c.loop-i-test.true c.index-seen-i.is placed) c.loop-i.invariant.kept);
      kept = kept-step c.args.tested.role seen i e c.loop-i.kept c.kept_after-kept.result c.loop-i-test.true c.index-seen-i.is c.loop-i.invariant.kept
          c.kept_after-kept.ensures.fate c.kept_after-kept.ensures.opened c.kept_after-kept.ensures.asked;
    }

pub loop-i-preserved-then-is_passed_over : goal.loop-i-preserved-then-is_passed_over
loop-i-preserved-then-is_passed_over g c =
    let tested = c.args.tested in
    let seen = c.args.seen.now in
    let i = c.loop-i.i in
    let e = c.index-seen-i.result in
    let kept = c.loop-i.kept in
    let both = both_true (is_some kept.fate) (is_idle tested.role e.note) (sym c.is_passed_over.ensures ∙ c.if-is_passed_over.true) in
    let idles = idle-idles tested.role e.note both.1 in
    record {
      grown = λ placed.
          grows-next g.E.Evaluator.chosen tested seen i e c.args.faults.now c.loop-i.faults c.loop-i.faults c.loop-i-test.true c.index-seen-i.is
          (c.loop-i.invariant.grown placed)
          (passed-grows g.E.Evaluator.chosen tested kept.fate e (reverse (take i seen)) c.loop-i.faults c.requires.silent c.requires.on_sessions c.loop-i.invariant.kept.fate both.0 idles.goes_on idles.quiet);
      kept = kept-stays tested.role seen i e kept c.loop-i-test.true c.index-seen-i.is c.loop-i.invariant.kept both.0 idles.goes_on idles.unasked;
    }

pub returns-in_err-judge_event-clause-memory : goal.returns-in_err-judge_event-clause-memory
returns-in_err-judge_event-clause-memory g c = λ placed.
    let seen = c.args.seen.now in
    let i = c.loop-i.i in
    let e = c.index-seen-i.result in
    on_err c.from_residual.result (GrowsWithin g.E.Evaluator.chosen c.args.tested (reverse seen) c.args.faults.now c.judge_event.new.faults)
    (within-next g.E.Evaluator.chosen c.args.tested seen i e c.args.faults.now c.loop-i.faults c.judge_event.new.faults c.loop-i-test.true c.index-seen-i.is
    (c.loop-i.invariant.grown placed)
    (c.in_err-judge_event.ensures.memory c.of-evaluator.ensures (placed-here seen i e c.loop-i-test.true c.index-seen-i.is placed) c.loop-i.invariant.kept))
