use Rattle.std.proofs.Common.{ap, arith, ◌∙◌, sym}
use Rattle.mq_rules.specs.KeptOrder.{value_under}
use Rattle.mq_rules.proofs.IdentifierCountLaws.{under-kept}
use Rattle.mq_rules.proofs.by_identifier.counted.CountedByIdentifier.get.Goals as goal

pub returns : goal.returns
returns g c = c.get.ensures ∙ sym (under-kept c.self.inside.table c.args.identifier (omega (arith, c.ranges.identifier.fits))) ∙ ap (λ t. value_under t c.args.identifier) c.self.view_is
