use Rattle.std.proofs.Common.{Some, sym}
use Rattle.mq_rules.specs.declared.fate.Fate.TheVariants.{Void}
use Rattle.mq_rules.specs.declared.rule.Rule.TheVariants.{B08, B09, P01, P02, R01, R02}
use Rattle.mq_rules.proofs.Exports.{places-under-start}
use Rattle.mq_subscriptions.proofs.matching.asking.MatchingAsks.no_places.Goals as goal

pub returns : goal.returns
returns c = λ tested. (
  sym (places-under-start tested (Some Void) B08),
  sym (places-under-start tested (Some Void) B09),
  sym (places-under-start tested (Some Void) P01),
  sym (places-under-start tested (Some Void) P02),
  sym (places-under-start tested (Some Void) R01),
  sym (places-under-start tested (Some Void) R02),
)
