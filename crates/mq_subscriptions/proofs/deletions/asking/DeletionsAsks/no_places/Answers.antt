use Rattle.std.proofs.Common.{Some, sym}
use Rattle.mq_rules.specs.declared.fate.Fate.TheVariants.{Void}
use Rattle.mq_rules.specs.declared.rule.Rule.TheVariants.{B06, B07}
use Rattle.mq_rules.proofs.Exports.{places-under-start}
use Rattle.mq_subscriptions.proofs.deletions.asking.DeletionsAsks.no_places.Goals as goal

pub returns : goal.returns
returns c = λ tested. (sym (places-under-start tested (Some Void) B06), sym (places-under-start tested (Some Void) B07))
