use Rattle.std.proofs.Common.{subst, sym, List, ℕ}
use Rattle.mq_rules.specs.Notes.{note_of_bare}
use Rattle.mq_subscriptions.specs.Standings.{IsDelivery}
use Rattle.mq_subscriptions.proofs.BareLaws.{bare-delivers, received-undelivered}
use Rattle.mq_subscriptions.proofs.subs.delivery_of.Goals as goal

pub returns-in-Publish-clause-some : goal.returns-in-Publish-clause-some
returns-in-Publish-clause-some c =
    let p = c.in-Publish in
    subst (λ (topic : List ℕ). IsDelivery (note_of_bare c.args.bare) topic p.qos p.duplicate) (sym c.noted_topic.ensures)
    (bare-delivers c.args.bare p.identifier p.qos p.duplicate p.topic c.in-Sent.is p.is)

pub returns-in-Recv-clause-none : goal.returns-in-Recv-clause-none
returns-in-Recv-clause-none c = λ none tested. received-undelivered c.args.bare c.in-Recv.is tested
