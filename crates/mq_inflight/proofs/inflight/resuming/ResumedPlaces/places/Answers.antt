use Rattle.std.proofs.Common.{refl, sym, ◌∙◌}
use Rattle.mq_rules.specs.declared.rule.Rule.TheVariants.{S06}
use Rattle.mq_rules.specs.Identifiers.{applies_S06}
use Rattle.mq_rules.proofs.Exports.{places-at-rest}
use Rattle.mq_inflight.proofs.inflight.resuming.ResumedPlaces.places.Goals as goal

pub returns : goal.returns
returns c = λ tested taken past is. is.places_are ∙ sym (places-at-rest tested taken past S06 (applies_S06 tested.role) refl)
