use Rattle.mq_rules.proofs.Exports.{on_err}
use Rattle.mq_plain.proofs.LoopLaws.{placed-here, unasked-beginning}
use Rattle.mq_plain.proofs.GrowthLaws.{waiting-start, waiting-next, waiting-within}
use Rattle.mq_plain.proofs.pass.judge_waiting.Goals as goal

pub loop-i-init : goal.loop-i-init
loop-i-init g c = record {
  grown = λ own placed unasked. waiting-start g.E.Evaluator.chosen c.args.decision.tested c.args.decision.fate c.args.first c.args.decision.position c.args.seen.now c.args.faults.now;
}

pub loop-i-preserved : goal.loop-i-preserved
loop-i-preserved g c =
    let decision = c.args.decision in
    let seen = c.args.seen.now in
    let i = c.loop-i.i in
    let e = c.index-seen-i.result in
    record {
      grown = λ own placed unasked.
          waiting-next g.E.Evaluator.chosen decision.tested decision.fate c.args.first decision.position seen i e c.args.faults.now c.loop-i.faults c.judge_next.new.faults c.loop-i-test.true c.index-seen-i.is c.loop-i.auto.i
          (c.loop-i.invariant.grown own placed unasked)
          (c.in_ok-judge_next.ensures.ok own (placed-here seen i e c.loop-i-test.true c.index-seen-i.is placed) (λ none. unasked-beginning seen i (unasked none)));
    }

pub returns-in_err-judge_next-clause-memory : goal.returns-in_err-judge_next-clause-memory
returns-in_err-judge_next-clause-memory g c = λ own placed unasked.
    let decision = c.args.decision in
    let seen = c.args.seen.now in
    let i = c.loop-i.i in
    let e = c.index-seen-i.result in
    on_err c.from_residual.result _
    (waiting-within g.E.Evaluator.chosen decision.tested decision.fate c.args.first decision.position seen i e c.args.faults.now c.loop-i.faults c.judge_next.new.faults c.loop-i-test.true c.index-seen-i.is c.loop-i.auto.i
    (c.loop-i.invariant.grown own placed unasked)
    (c.in_err-judge_next.ensures.memory own (placed-here seen i e c.loop-i-test.true c.index-seen-i.is placed)))
