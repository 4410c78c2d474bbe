use Rattle.mq_rules.specs.declared.rule.Rule.TheVariants.{S07}
use Rattle.mq_fates.proofs.Exports.{places-same}
use Rattle.mq_inflight.proofs.quota.QuotaAsks.places_of.Goals as goal

pub returns : goal.returns
returns c = λ tested taken past is same. places-same tested taken past S07 c.args.arg2 c.args.places.now is same
