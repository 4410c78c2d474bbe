use Rattle.std.proofs.Common.{arith}
use Rattle.mq_choice.specs.Choices.{in_choice}
use Rattle.mq_judge.proofs.CoverageLaws.{row-put, rows-all}
use Rattle.mq_judge.proofs.coverage.rows_of.Goals as goal

pub loop-rule-preserved : goal.loop-rule-preserved
loop-rule-preserved c = λ received counts watches tallies.
    row-put (in_choice c.args.choice) c.args.watching.now.tested received c.args.rules.now c.loop-rule.rule-index _ _ _ c.loop-rule-test.true (c.loop-rule.invariant received counts watches tallies)
    (c.in_ok-add_chosen.ensures received counts watches tallies)

pub returns : goal.returns
returns c = λ received counts watches tallies.
    rows-all (in_choice c.args.choice) c.args.watching.now.tested received c.args.rules.now c.loop-rule.rule-index _ _ (omega (arith, c.loop-rule-test.false))
    (c.loop-rule.invariant received counts watches tallies)
