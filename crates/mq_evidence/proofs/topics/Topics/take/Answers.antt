use Rattle.std.proofs.Common.{nat_eq}
use Rattle.indexmap.specs.IndexMap.{get}
use Rattle.mq_evidence.proofs.TopicLaws.{topic-kept}
use Rattle.mq_evidence.proofs.topics.Topics.take.Goals as goal

pub returns : goal.returns
returns c = λ m s comes before. record {
  topics_are = λ alias.
      topic-kept alias c.args.turn.opens c.args.note.now m s.connection (get nat_eq c.args.self.now.topics alias) (get nat_eq c.take_topic.new.topics alias) comes.same (before.topics_are alias) (c.in_ok-take_topic.ensures alias);
}
