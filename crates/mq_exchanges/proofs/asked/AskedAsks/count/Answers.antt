use Rattle.std.proofs.Common.{◌&&◌, ◌==◌, is_some, ap, ◌∙◌}
use Rattle.mq_rules.specs.Connections.{accepts, surprises}
use Rattle.mq_rules.specs.Rules.{binds}
use Rattle.mq_rules.specs.Under.{seen}
use Rattle.mq_fates.specs.Knowing.{excused}
use Rattle.mq_exchanges.proofs.AskedPlacesLaws.{asked-places}
use Rattle.mq_exchanges.proofs.asked.AskedAsks.count.Goals as goal

pub returns : goal.returns
returns g c = λ tested past under kept was.
    let e = seen c.args.at (g.E.Noted.note c.args.event.now) in
    let f = c.args.fate in
    let known = c.args.decided == c.args.at.position in
    asked-places tested g.X.Exchange.asked g.X.Exchange.exchange g.X.Exchange.early g.met.X.Exchange.apart (g.met.X.Exchange.tries_asked tested.role) f c.args.decided e past c.excuse-here.result c.args.places.now c.places_after.result under was
    (c.excuse-here.ensures
    ∙ ap (λ b. excused b known c.is_answered-answered.result) c.surprises.ensures
    ∙ ap (excused (g.X.Exchange.early && surprises f) known) (c.is_answered-answered.ensures
    ∙ ap (λ b. b && (accepts f && is_some c.answer.result)) kept.0
    ∙ ap (λ o. binds g.X.Exchange.asked tested && (accepts f && is_some o)) c.answer.ensures))
    c.places_after.ensures
