use Rattle.mq_explain.proofs.ExplainingLemmas.{line_put}
use Rattle.mq_choice.specs.Choices.{in_choice}
use Rattle.mq_explain.proofs.listing.lines_of.Goals as goal

pub loop-rule-preserved : goal.loop-rule-preserved
loop-rule-preserved c =
    line_put (in_choice c.args.choice) c.args.role c.args.rules.now c.loop-rule.rule-index _ _ _ c.loop-rule-test.true c.loop-rule.invariant c.in_ok-add_line.ensures
