use Rattle.std.proofs.Common.{◌∙◌}
use Rattle.std.proofs.lemmas.Result.{IfOk-weaker}
use Rattle.mq_explain.proofs.ExplainingLemmas.{lines_all}
use Rattle.mq_choice.specs.Choices.{in_choice}
use Rattle.mq_explain.proofs.listing.statement_list.Goals as goal

pub returns : goal.returns
returns c = IfOk-weaker c.lines_of.result _ _ (λ text h. h ∙ lines_all (in_choice c.args.choice) c.args.role _ c.all.ensures) c.lines_of.ensures
