use Rattle.mq_rules.specs.KeptOrder.{value_under}
use Rattle.mq_exchanges.proofs.ConcernLaws.{asked-passes}
use Rattle.mq_exchanges.proofs.asked.AskedSelective.passes.Goals as goal

pub returns : goal.returns
returns g c = λ tested fate at e past h under agree.
    let s = c.args.self.now in
    let both = asked-passes tested g.X.Exchange.asked g.X.Exchange.exchange g.X.Exchange.early g.met.X.Exchange.apart (g.met.X.Exchange.says_asked tested.role) fate s.fate s.opened (value_under s.answered) at e past s.binds h under agree.0 agree.1 in
    record { stays = (agree.0, both.0); shows = both.1 }
