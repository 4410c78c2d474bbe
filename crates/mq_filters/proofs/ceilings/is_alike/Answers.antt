use Rattle.std.proofs.Common.{◌∙◌, rules}
use Rattle.mq_filters.proofs.NearLaws.{near-ended}
use Rattle.mq_filters.proofs.ceilings.is_alike.Goals as goal

pub returns : goal.returns
returns c =
    near-ended c.args.filter.now c.args.topic.now c.loop-at.at (search rules) (search rules)
    ∙ c.loop-at.invariant.1
