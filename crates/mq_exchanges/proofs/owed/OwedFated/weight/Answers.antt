use Rattle.std.proofs.Common.{arith}
use Rattle.std.specs.Prelude.{is_some}
use Rattle.mq_rules.specs.Moments.{some}
use Rattle.mq_rules.specs.Connections.{session}
use Rattle.mq_rules.specs.Exchanges.{causes}
use Rattle.mq_rules.specs.KeptOrder.{value_under}
use Rattle.mq_exchanges.specs.Burden.{caused_ids}
use Rattle.mq_fates.proofs.Exports.{ids-more}
use Rattle.mq_exchanges.proofs.owed.OwedFated.weight.Goals as goal

pub returns-clause-bounded : goal.returns-clause-bounded
unfolding caused_ids
returns-clause-bounded g c = λ tested taken past q.
    let due = ids-more (λ i. is_some (value_under c.args.self.now.due i)) (λ i. some (causes g.X.Exchange.exchange i) (session tested.role taken past)) q.due_caused in
    let queue = q.queue_within in
    omega (arith, c.saturating_add.ensures, c.len.ensures, c.len-2.ensures, due, queue)
