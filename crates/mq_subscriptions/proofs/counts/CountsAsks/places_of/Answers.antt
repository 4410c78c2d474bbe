use Rattle.mq_fates.proofs.Exports.{places-same}
use Rattle.mq_subscriptions.proofs.counts.CountsAsks.places_of.Goals as goal

pub returns : goal.returns
returns g c = λ tested taken past is same. places-same tested taken past g.R.Replies.judged c.args.arg2 c.args.places.now is same
