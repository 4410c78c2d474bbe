use Rattle.std.proofs.Common.{◌+◌, ◌&&◌, ◌||◌, cond, ap, sym, ◌∙◌, arith}
use Rattle.mq_rules.specs.KeptOrder.{value_under}
use Rattle.mq_rules.proofs.Exports.{under-within}
use Rattle.mq_rules.specs.Words.{is_some_and}
use Rattle.mq_rules.specs.Connections.{accepts}
use Rattle.mq_rules.specs.Rules.{binds}
use Rattle.mq_rules.specs.Under.{seen}
use Rattle.mq_exchanges.specs.Orderings.{chooses}
use Rattle.mq_exchanges.proofs.ChoosingLaws.{ordered-places}
use Rattle.mq_exchanges.proofs.SettlingLaws.{settling-next}
use Rattle.mq_exchanges.proofs.owed.OwedAsks.count.Goals as goal

pub returns : goal.returns
returns g c = λ tested past under kept was.
    let s = c.args.self.now in
    let p = c.args.places.now in
    let e = seen c.args.at (g.E.Noted.note c.args.event.now) in
    let f = c.args.fate in
    let x = g.X.Exchange.exchange in (
      settling-next tested x g.X.Exchange.settled f s.fate c.args.decided s.ended s.binds (value_under s.due) e past p.pending p.settled c.rests-rests.result c.begins-begins.result c.pending_after-places.result c.settled_after-places.result
          g.met.X.Exchange.apart (g.met.X.Exchange.tries_settled tested.role) under kept.owed kept.binds_are was.0 c.rests-rests.ensures c.begins-begins.ensures (omega arith) c.settled_after-places.ensures
          (λ low. c.pending_after-places.ensures (λ h. low (ap (λ b. b || c.rests-rests.result) (sym c.is_open.ensures) ∙ h)) ∙ ap (λ b. cond c.begins-begins.result 1 0 + cond (b || c.rests-rests.result) 0 p.pending) c.is_open.ensures),
      λ rule says. ordered-places tested rule x g.met.X.Exchange.apart (g.met.X.Exchange.tries_ordered tested.role rule says) f s.fate (value_under s.due) c.args.decided e past c.orders-orders.result p.ordered c.places_after-places.result
          under kept.owed.same_fate kept.owed.due_are (under-within s.due) (was.1 rule says)
          (c.orders-orders.ensures ∙ ap (λ b. b && (accepts f && chooses (value_under s.due) (x.answer e.note))) (kept.order_binds_are ∙ ap (is_some_and (λ r. binds r tested)) says))
          c.places_after-places.ensures,
    )
