use Rattle.std.proofs.Common.{arith, sym, ◌∙◌}
use Rattle.std.specs.Prelude.{is_some}
use Rattle.mq_rules.specs.Moments.{some}
use Rattle.mq_rules.specs.Connections.{session}
use Rattle.mq_rules.specs.Exchanges.{causes}
use Rattle.mq_rules.specs.KeptOrder.{value_under}
use Rattle.mq_exchanges.specs.Burden.{caused_ids}
use Rattle.mq_exchanges.proofs.SizeLaws.{caused-some}
use Rattle.mq_fates.proofs.Exports.{ids-more}
use Rattle.mq_exchanges.proofs.asked.AskedFated.weight.Goals as goal

pub returns-clause-bounded : goal.returns-clause-bounded
unfolding caused_ids
returns-clause-bounded g c = λ tested taken past q.
    let x = g.X.Exchange.exchange in
    let most = ids-more (λ i. is_some (value_under c.args.self.now.answered i)) (λ i. some (causes x i) (session tested.role taken past)) (λ i here. sym (caused-some tested.role x taken past i) ∙ sym (q.1.caused_are i) ∙ here) in
    omega (arith, c.len.ensures, most)
