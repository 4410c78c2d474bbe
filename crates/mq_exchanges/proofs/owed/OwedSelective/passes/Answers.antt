use Rattle.mq_rules.specs.KeptOrder.{value_under}
use Rattle.mq_rules.proofs.Exports.{under-within}
use Rattle.mq_exchanges.proofs.ConcernLaws.{owing-passes}
use Rattle.mq_exchanges.proofs.owed.OwedSelective.passes.Goals as goal

pub returns : goal.returns
returns g c = λ tested fate at e past h under agree.
    let s = c.args.self.now in
    let both = owing-passes tested g.X.Exchange.exchange g.met.X.Exchange.apart g.X.Exchange.settled g.X.Exchange.ordered (g.met.X.Exchange.says_settled tested.role) (g.met.X.Exchange.says_ordered tested.role) s.binds s.order_binds fate s.fate s.ended (value_under s.due) s.queue.items at e past h under (under-within s.due) agree in
    record { stays = both.0; shows = both.1 }
