use Rattle.std.proofs.Common.{nat_eq}
use Rattle.indexmap.specs.IndexMap.{get}
use Rattle.mq_subscriptions.proofs.LeftOutLaws.{deliveries-leave}
use Rattle.mq_subscriptions.proofs.subs.asking.DeliveriesDiscerning.leaves_out.Goals as goal

pub returns : goal.returns
returns c = λ places tested fate at e past h small under kept was.
    let s = c.args.self.now in
    deliveries-leave tested s.fate fate s.filters.settled s.filters.waiting s.sharing (get nat_eq s.topics) at e past s.bound places.delivered places.acknowledged h under kept.0 kept.1 was
