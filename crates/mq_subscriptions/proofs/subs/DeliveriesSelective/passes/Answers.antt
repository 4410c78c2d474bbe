use Rattle.std.proofs.Common.{nat_eq}
use Rattle.indexmap.specs.IndexMap.{get}
use Rattle.mq_subscriptions.proofs.ConcernLaws.{standing-passes}
use Rattle.mq_subscriptions.proofs.subs.DeliveriesSelective.passes.Goals as goal

pub returns : goal.returns
returns c = λ tested fate at e past h under agree.
    let s = c.args.self.now in
    let both = standing-passes tested s.fate fate s.filters.settled s.filters.waiting s.sharing (get nat_eq s.topics) at e past s.bound h under agree.0 agree.1 in
    record { stays = (agree.0, both.0); shows = both.1 }
