use Rattle.mq_rules.specs.KeptOrder.{value_under}
use Rattle.mq_rules.proofs.Exports.{under-within}
use Rattle.mq_exchanges.proofs.LeftOutLaws.{ordered-leaves, settling-leaves}
use Rattle.mq_exchanges.proofs.owed.OwedDiscerning.leaves_out.Goals as goal

pub returns : goal.returns
returns g c = λ places tested fate at e past h small under kept was.
    let s = c.args.self.now in
    let x = g.X.Exchange.exchange in (
      settling-leaves tested x g.X.Exchange.settled fate s.fate at s.ended s.binds (value_under s.due) e past places.pending places.settled g.met.X.Exchange.apart (g.met.X.Exchange.tries_settled tested.role) h small under kept.owed kept.binds_are was.0,
      λ rule says. ordered-leaves tested rule x g.met.X.Exchange.apart (g.met.X.Exchange.tries_ordered tested.role rule says) fate s.fate (value_under s.due) at e past places.ordered h under kept.owed.same_fate kept.owed.due_are (under-within s.due) (was.1 rule says),
    )
