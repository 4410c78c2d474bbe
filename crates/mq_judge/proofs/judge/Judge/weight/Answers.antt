use Rattle.mq_rules.specs.Notes.{seen_in}
use Rattle.mq_judge.proofs.judge.Judge.weight.Goals as goal

pub returns-clause-bounded : goal.returns-clause-bounded
returns-clause-bounded c = λ log follows. c.weight.ensures.bounded (seen_in log) follows.watches
