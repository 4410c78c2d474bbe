use Rattle.std.specs.FinMap as map
use Rattle.std.proofs.lemmas.Result.{err_from_is_err_and}
use Rattle.mq_report.proofs.SummaryLaws.{rules_go_on, rules_stop}
use Rattle.mq_report.proofs.report.summary.write_rules.Goals as goal

pub returns-in_err-write_rule-clause-write : goal.returns-in_err-write_rule-clause-write
returns-in_err-write_rule-clause-write g c =
    let p = err_from_is_err_and c.from_residual.result c.from_residual.ensures.1 in
    let failed = c.in_err-write_rule.ensures.write in
    rw (p.1, p.2) (failed.0, rules_stop _ c.args.role (map.entries c.args.faults.now) c.args.rules.now c.loop-rule.rule-index c.loop-rule-test.true c.loop-rule.invariant failed.1)

pub loop-rule-preserved : goal.loop-rule-preserved
loop-rule-preserved g c =
    rules_go_on c.args.role (map.entries c.args.faults.now) c.args.rules.now c.loop-rule.rule-index c.loop-rule-test.true c.loop-rule.invariant c.in_ok-write_rule.ensures.ok
