use Rattle.mq_explain.proofs.ExplainingLemmas.{begins_with_its_code}
use Rattle.mq_explain.proofs.explanations.each_explanation_begins_with_its_code.Goals as goal

pub returns : goal.returns
returns c = begins_with_its_code
