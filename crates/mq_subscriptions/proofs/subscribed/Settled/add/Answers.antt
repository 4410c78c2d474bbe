use Rattle.mq_subscriptions.specs.declared.subscribed.Settled.{Settled}
use Rattle.mq_subscriptions.specs.Subscribings.{set_of}
use Rattle.mq_subscriptions.proofs.MatchingLaws.{added}
use Rattle.mq_subscriptions.proofs.subscribed.Settled.add.Goals as goal

pub returns : goal.returns
returns c = λ kind among most.
    let new : Settled = record { any = c.stand_if.new.set; unidentified = c.stand_if-2.new.set; retained = c.stand_if-3.new.set; in_vain = c.stand_if-4.new.set; identified = c.stand_under.new.sets } in
    let lacking = c.is_none-unidentified in
    added (set_of c.args.self.now) (set_of new) c.args.filter.now c.as_str-text.result.now c.args.identifier lacking.result c.may_be_retained-retained.result c.asks_in_vain-in_vain.result c.args.qos among most
    c.as_str-text.ensures lacking.ensures (c.may_be_retained-retained.ensures c.args.identifier c.args.qos) (c.asks_in_vain-in_vain.ensures c.args.identifier c.args.qos)
    (c.in_ok-stand_if.ensures among most) (c.in_ok-stand_if-2.ensures among most) (c.in_ok-stand_if-3.ensures among most) (c.in_ok-stand_if-4.ensures among most)
    (λ i. c.in_ok-stand_under.ensures i among most) kind
