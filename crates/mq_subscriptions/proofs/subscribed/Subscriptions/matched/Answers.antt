use Rattle.std.proofs.Common.{◌||◌, ap, ◌∙◌}
use Rattle.mq_topic.specs.Matching.{matches}
use Rattle.mq_subscriptions.specs.Matchings.{passing, serves, some_waits, least}
use Rattle.mq_subscriptions.proofs.subscribed.Subscriptions.matched.Goals as goal

pub returns : goal.returns
returns c = record {
  says_so = λ question qos. c.with_all.ensures.says question qos
      ∙ ap (λ b. b || some_waits (serves (passing question) (λ f. matches f c.args.topic.now) (least question qos)) c.args.self.now.waiting.entries) (c.matched.ensures question qos);
  distinct = c.with_all.ensures.unique;
}
