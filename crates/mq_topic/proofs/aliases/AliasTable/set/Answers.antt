use Rattle.std.proofs.Common.{ap, ◌∙◌}
use Rattle.std.specs.FinMap as map
use Rattle.mq_topic.proofs.AliasLaws.{one_set}
use Rattle.mq_topic.proofs.aliases.AliasTable.set.Goals as goal

pub returns-clause-ok : goal.returns-clause-ok
returns-clause-ok c =
    one_set c.self.inside.topics.entries _ c.args.alias c.in_ok-topic.topic c.in_ok-insert.ensures.updates.0
    ∙ ap (λ m. map.insert m c.args.alias c.in_ok-topic.topic) c.self.view_is ∙ ap (λ t. map.insert c.args.self.now c.args.alias t) c.in_ok-topic.ensures
