use Rattle.mq_rules.specs.Connections.{latest_fate}
use Rattle.mq_judge.proofs.watching.Watching.weight.Goals as goal

pub returns-clause-bounded : goal.returns-clause-bounded
returns-clause-bounded c = λ past was. c.weight.ensures.bounded c.args.self.now.tested (latest_fate c.args.self.now.tested.role past) past was.agree
