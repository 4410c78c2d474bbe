use Rattle.std.proofs.lemmas.Result.{IfOk-weaker}
use Rattle.std.proofs.Common.{List, ap, ◌∙◌}
use Rattle.mq_rules.specs.declared.rule.Rule.{Rule}
use Rattle.mq_choice.specs.Choices.{in_choice}
use Rattle.mq_judge.specs.Coverage.{rows_among}
use Rattle.mq_judge.proofs.coverage.coverage.Goals as goal

pub returns : goal.returns
returns c = λ received counts watches tallies.
    IfOk-weaker c.rows_of.result _ _ (λ rows h. h ∙ ap (λ (rules : List Rule). rows_among (in_choice c.args.choice) c.args.watching.now.tested received rules) c.all.ensures) (c.rows_of.ensures received counts watches tallies)
