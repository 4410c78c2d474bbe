use Rattle.mq_fates.proofs.Exports.{places-same}
use Rattle.mq_exchanges.proofs.asked.AskedAsks.places_of.Goals as goal

pub returns : goal.returns
returns g c = λ tested taken past is same. places-same tested taken past g.X.Exchange.asked c.args.arg2 c.args.places.now is same
