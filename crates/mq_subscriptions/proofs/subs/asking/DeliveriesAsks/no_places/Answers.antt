use Rattle.std.proofs.Common.{Some, sym}
use Rattle.mq_rules.specs.declared.fate.Fate.TheVariants.{Void}
use Rattle.mq_rules.specs.declared.rule.Rule.TheVariants.{B01, B02}
use Rattle.mq_rules.proofs.Exports.{places-under-start}
use Rattle.mq_subscriptions.proofs.subs.asking.DeliveriesAsks.no_places.Goals as goal

pub returns : goal.returns
returns c = λ tested. (sym (places-under-start tested (Some Void) B01), sym (places-under-start tested (Some Void) B02))
