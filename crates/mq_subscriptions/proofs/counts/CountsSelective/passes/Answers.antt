use Rattle.mq_rules.specs.KeptOrder.{value_under}
use Rattle.mq_subscriptions.proofs.ConcernLaws.{counted-passes}
use Rattle.mq_subscriptions.proofs.counts.CountsSelective.passes.Goals as goal

pub returns : goal.returns
returns g c = λ tested fate at e past h under agree.
    let s = c.args.self.now in
    let both = counted-passes tested g.R.Replies.judged g.R.Replies.counting g.R.Replies.breaks g.met.R.Replies.compares g.met.R.Replies.says g.met.R.Replies.no_offset s.fate fate (value_under s.counts) at e past s.bound h under agree.0 agree.1 in
    record { stays = (agree.0, both.0); shows = both.1 }
