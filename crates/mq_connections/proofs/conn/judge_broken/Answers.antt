use Rattle.std.proofs.Common.{sym, subst}
use Rattle.mq_rules.specs.Growing.{JudgesWithin}
use Rattle.mq_connections.specs.Finding.{is_among}
use Rattle.mq_rules.proofs.Exports.{on_err}
use Rattle.mq_connections.proofs.AtPlaceLaws.{unasked, judges-none, judges-more, within-part}
use Rattle.mq_connections.proofs.conn.judge_broken.Goals as goal

pub loop-rule-init : goal.loop-rule-init
loop-rule-init c = judges-none c.args.place c.args.faults.now

pub loop-rule-preserved : goal.loop-rule-preserved
loop-rule-preserved c =
    judges-more c.args.verdicts.now c.loop-rule.rule-index unasked c.args.place c.args.faults.now c.loop-rule.faults c.judge.new.self
    c.loop-rule-test.true c.loop-rule.invariant c.in_ok-judge.ensures.ok

pub returns-in_err-judge-clause-memory : goal.returns-in_err-judge-clause-memory
returns-in_err-judge-clause-memory c =
    on_err c.from_residual.result (JudgesWithin (is_among c.args.verdicts.now) c.args.place c.args.faults.now c.judge.new.self)
    (subst (JudgesWithin (is_among c.args.verdicts.now) c.args.place c.args.faults.now) (sym c.in_err-judge.ensures.unchanged)
    (within-part c.args.verdicts.now c.loop-rule.rule-index c.args.place c.args.faults.now c.loop-rule.faults c.loop-rule.invariant))
