use Rattle.std.proofs.Common.{nat_eq, arith, ap, sym, ◌∙◌}
use Rattle.std.specs.Prelude.{is_some}
use Rattle.indexmap.specs.IndexMap.{get}
use Rattle.mq_rules.specs.Connections.{on_open, session}
use Rattle.mq_rules.specs.Subscriptions.{last_set}
use Rattle.mq_subscriptions.specs.Standings.{waits_weight}
use Rattle.mq_subscriptions.specs.Burden.{standing_filters, standing_count, aliased_ids}
use Rattle.mq_subscriptions.proofs.StandingSizeLaws.{settled-stand}
use Rattle.mq_subscriptions.proofs.AskingSizeLaws.{asking-within}
use Rattle.mq_subscriptions.proofs.subs.DeliveriesFated.weight.Goals as goal

pub returns-clause-bounded : goal.returns-clause-bounded
unfolding standing_count aliased_ids
returns-clause-bounded c = λ tested taken past q.
    let s = c.args.self.now in
    let kept = c.size.ensures.bounded (standing_filters past (session tested.role taken past)) (settled-stand tested s.fate s.filters.settled s.filters.waiting s.sharing (get nat_eq s.topics) taken past q.1) in
    let sum = q.1.waiting_sums waits_weight in
    let asking = asking-within tested.role taken past in
    let topics = c.map_size.ensures.bounded (λ alias. is_some (last_set alias (on_open past))) (λ alias here. ap is_some (sym (q.1.topics_are alias)) ∙ here) in
    omega (arith, c.saturating_add.ensures, kept, sum, asking, topics)
