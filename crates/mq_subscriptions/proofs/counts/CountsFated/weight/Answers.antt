use Rattle.std.proofs.Common.{ap, arith, sym, ◌∙◌}
use Rattle.std.specs.Prelude.{is_some}
use Rattle.mq_rules.specs.Moments.{since}
use Rattle.mq_rules.specs.Connections.{on_open}
use Rattle.mq_rules.specs.Exchanges.{causes, answers}
use Rattle.mq_rules.specs.KeptOrder.{value_under}
use Rattle.mq_subscriptions.specs.Burden.{unanswered_ids}
use Rattle.mq_subscriptions.proofs.CountLaws.{counted-unanswered}
use Rattle.mq_fates.proofs.Exports.{ids-more}
use Rattle.mq_subscriptions.proofs.counts.CountsFated.weight.Goals as goal

pub returns-clause-bounded : goal.returns-clause-bounded
unfolding unanswered_ids
returns-clause-bounded g c = λ tested taken past q.
    let x = g.R.Replies.counting.exchange in
    let most = ids-more (λ i. is_some (value_under c.args.self.now.counts i)) (λ i. since (causes x i) (answers x i) (on_open past)) (λ i here. counted-unanswered g.R.Replies.counting i past (ap is_some (sym (q.1.counts_are i)) ∙ here)) in
    omega (arith, c.len.ensures, most)
