use Rattle.mq_rules.specs.declared.rule.Rule.TheVariants.{E7R}
use Rattle.mq_fates.proofs.Exports.{places-same}
use Rattle.mq_exchanges.proofs.pings.PingsAsks.places_of.Goals as goal

pub returns : goal.returns
returns c = λ tested taken past is same. places-same tested taken past E7R c.args.arg2 c.args.places.now is same
