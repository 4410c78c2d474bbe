use Rattle.std.proofs.Common.{nat_eq}
use Rattle.indexmap.specs.IndexMap.{get, get_by_text}
use Rattle.mq_subscriptions.proofs.DeletingLaws.{deletions-pass}
use Rattle.mq_subscriptions.proofs.deletions.DeletionsSelective.passes.Goals as goal

pub returns : goal.returns
returns c = λ tested fate at e past h under agree.
    let s = c.args.self.now in
    let both = deletions-pass tested fate (get_by_text s.states) (get nat_eq s.waiting) (get nat_eq s.removing) s.unclear at e past s.bound h under agree.0 agree.2 in
    record { stays = (agree.0, agree.1, both.0); shows = both.1 }
