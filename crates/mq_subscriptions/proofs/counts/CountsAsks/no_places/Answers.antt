use Rattle.std.proofs.Common.{Some, sym}
use Rattle.mq_rules.specs.declared.fate.Fate.TheVariants.{Void}
use Rattle.mq_rules.proofs.Exports.{places-under-start}
use Rattle.mq_subscriptions.proofs.counts.CountsAsks.no_places.Goals as goal

pub returns : goal.returns
returns g c = λ tested. sym (places-under-start tested (Some Void) g.R.Replies.judged)
