use Rattle.mq_rules.specs.KeptOrder.{value_under}
use Rattle.mq_subscriptions.proofs.LeftOutLaws.{count-leaves}
use Rattle.mq_subscriptions.proofs.counts.CountsDiscerning.leaves_out.Goals as goal

pub returns : goal.returns
returns g c = λ places tested fate at e past h small under kept was.
    let s = c.args.self.now in
    count-leaves tested g.R.Replies.judged g.R.Replies.counting g.R.Replies.breaks g.R.Replies.applies g.met.R.Replies.compares g.met.R.Replies.asks g.met.R.Replies.tries s.fate fate (value_under s.counts) at e past s.bound places h under kept.1 kept.0 was
