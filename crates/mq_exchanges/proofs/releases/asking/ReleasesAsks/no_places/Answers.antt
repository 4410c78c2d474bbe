use Rattle.std.proofs.Common.{Some, sym}
use Rattle.mq_rules.specs.declared.fate.Fate.TheVariants.{Void}
use Rattle.mq_rules.specs.declared.rule.Rule.TheVariants.{L1, L2, L3}
use Rattle.mq_rules.proofs.Exports.{places-under-start}
use Rattle.mq_exchanges.proofs.releases.asking.ReleasesAsks.no_places.Goals as goal

pub returns : goal.returns
returns c = λ tested. (sym (places-under-start tested (Some Void) L1), sym (places-under-start tested (Some Void) L2), sym (places-under-start tested (Some Void) L3))
