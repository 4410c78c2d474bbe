use Rattle.std.proofs.Common.{nat_eq}
use Rattle.indexmap.specs.IndexMap.{get}
use Rattle.mq_subscriptions.proofs.GrantLaws.{grants-pass}
use Rattle.mq_subscriptions.proofs.grants.GrantsSelective.passes.Goals as goal

pub returns : goal.returns
returns c = λ tested fate at e past h under agree.
    let s = c.args.self.now in
    let both = grants-pass tested fate (get nat_eq s.wanted) at e past s.bound h under agree.0 agree.1 in
    record { stays = (agree.0, both.0); shows = both.1 }
