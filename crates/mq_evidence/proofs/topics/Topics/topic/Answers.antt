use Rattle.std.proofs.Common.{nat_eq, ◌∙◌}
use Rattle.indexmap.specs.IndexMap.{get}
use Rattle.mq_rules.specs.Subscriptions.{last_set}
use Rattle.mq_evidence.proofs.TopicLaws.{topic-same}
use Rattle.mq_evidence.proofs.topics.Topics.topic.Goals as goal

pub returns : goal.returns
returns c = λ s before. c.topic_of.ensures ∙ topic-same c.args.publish.now (get nat_eq c.args.self.now.topics) (λ alias. last_set alias s.connection) before.topics_are
