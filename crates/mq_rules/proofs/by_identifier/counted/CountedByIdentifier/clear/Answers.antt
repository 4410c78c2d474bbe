use Rattle.std.proofs.Common.{◌≡◌, ap, arith, sym, ◌∙◌}
use Rattle.mq_rules.specs.KeptOrder.{value_under}
use Rattle.mq_rules.proofs.IdentifierCountLaws.{none-kept}
use Rattle.mq_rules.proofs.by_identifier.counted.CountedByIdentifier.clear.Goals as goal

-- nothing is kept
pub returns-else-self-gt0 : goal.returns-else-self-gt0
returns-else-self-gt0 g c =
    let none : 0 ≡ c.self.inside.count = omega (arith, c.if-self-gt0.false) in
    λ i. ap (λ t. value_under t i) (sym c.self.view_is) ∙ none-kept c.self.inside.table (none ∙ c.self.invariant) i
