use Rattle.std.proofs.Common.{cond, ap, ◌∙◌}
use Rattle.mq_subscriptions.proofs.DeliveryPlacesLaws.{delivery-picked}
use Rattle.mq_subscriptions.proofs.subs.asking.DeliveriesAsks.places_of.Goals as goal

pub returns : goal.returns
returns c = λ tested taken past is judged. c.pick.ensures ∙ ap (λ b. cond b c.args.places.now.delivered c.args.places.now.acknowledged) c.eq.ensures ∙ delivery-picked tested taken past c.args.places.now.delivered c.args.places.now.acknowledged c.args.rule is.0 is.1 judged
