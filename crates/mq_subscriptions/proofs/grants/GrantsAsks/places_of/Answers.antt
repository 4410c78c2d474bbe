use Rattle.mq_rules.specs.declared.rule.Rule.TheVariants.{B05}
use Rattle.mq_fates.proofs.Exports.{places-same}
use Rattle.mq_subscriptions.proofs.grants.GrantsAsks.places_of.Goals as goal

pub returns : goal.returns
returns c = λ tested taken past is same. places-same tested taken past B05 c.args.arg2 c.args.places.now is same
