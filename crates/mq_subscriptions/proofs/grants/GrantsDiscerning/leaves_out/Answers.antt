use Rattle.std.proofs.Common.{nat_eq}
use Rattle.indexmap.specs.IndexMap.{get}
use Rattle.mq_subscriptions.proofs.GrantLaws.{grants-leave}
use Rattle.mq_subscriptions.proofs.grants.GrantsDiscerning.leaves_out.Goals as goal

pub returns : goal.returns
returns c = λ places tested fate at e past h small under kept was.
    let s = c.args.self.now in
    grants-leave tested fate (get nat_eq s.wanted) at e past s.bound places h under kept.0 kept.1 was
