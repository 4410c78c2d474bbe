use Rattle.std.proofs.Common.{ap, sym, ◌∙◌}
use Rattle.mq_rules.specs.KeptOrder.{value_under}
use Rattle.mq_rules.proofs.IdentifierCountLaws.{none-kept}
use Rattle.mq_rules.proofs.by_identifier.counted.CountedByIdentifier.first_from.Goals as goal

-- nothing is kept
pub returns-then-self-eq0 : goal.returns-then-self-eq0
returns-then-self-eq0 g c = λ i later. ap (λ t. value_under t i) (sym c.self.view_is) ∙ none-kept c.self.inside.table (sym c.if-self-eq0.true ∙ c.self.invariant) i
