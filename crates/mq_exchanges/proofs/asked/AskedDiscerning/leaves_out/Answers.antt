use Rattle.mq_exchanges.proofs.LeftOutLaws.{asked-leaves}
use Rattle.mq_exchanges.proofs.asked.AskedDiscerning.leaves_out.Goals as goal

pub returns : goal.returns
returns g c = λ places tested fate at e past h small under kept was.
    asked-leaves tested g.X.Exchange.asked g.X.Exchange.exchange g.X.Exchange.early g.met.X.Exchange.apart (g.met.X.Exchange.tries_asked tested.role) fate at e past places h under was
