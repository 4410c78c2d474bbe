use Rattle.std.proofs.Common.{Some, sym}
use Rattle.mq_rules.specs.declared.fate.Fate.TheVariants.{Void}
use Rattle.mq_rules.specs.declared.rule.Rule.TheVariants.{E7R}
use Rattle.mq_rules.proofs.Exports.{places-under-start}
use Rattle.mq_exchanges.proofs.pings.PingsAsks.no_places.Goals as goal

pub returns : goal.returns
returns c = λ tested. sym (places-under-start tested (Some Void) E7R)
