use Rattle.std.proofs.Common.{ap, None}
use Rattle.mq_rules.specs.declared.evidence.Numbers.TheVariants.{One}
use Rattle.mq_evidence.proofs.subscriptions.Subscriptions.of_unasked.Goals as goal

pub returns : goal.returns
returns c = λ role f k kept. ap (λ n. record { because = None; numbers = One n }) (c.different.ensures role f k kept.subscribed_are)
