use Rattle.std.proofs.Common.{◌∙◌}
use Rattle.mq_rules.specs.Identifiers.{session_before}
use Rattle.mq_evidence.proofs.SubscribedLaws.{different-count}
use Rattle.mq_evidence.proofs.subscribed.Subscribed.different.Goals as goal

pub returns : goal.returns
returns c = λ role f k kept. c.len.ensures.len ∙ different-count c.args.self.now.counts.entries k (session_before role f k) c.len.ensures.unique kept.counts_are kept.positive
