use Rattle.std.proofs.Common.{nat_eq}
use Rattle.indexmap.specs.IndexMap.{get, get_by_text}
use Rattle.mq_subscriptions.proofs.DeletingLaws.{deletions-leave}
use Rattle.mq_subscriptions.proofs.deletions.asking.DeletionsDiscerning.leaves_out.Goals as goal

pub returns : goal.returns
returns c = λ places tested fate at e past h small under kept was.
    let s = c.args.self.now in
    deletions-leave tested fate (get_by_text s.states) (get nat_eq s.waiting) (get nat_eq s.removing) s.unclear at e past s.bound places.stood places.told h under kept.0 kept.2 was
