use Rattle.std.proofs.Common.{refl}
use Rattle.mq_rules.specs.ByIdentifier.{kept}
use Rattle.mq_rules.proofs.by_identifier.ByIdentifier.new.Goals as goal

-- there is no page
pub returns : goal.returns
unfolding kept
returns g c = λ i. rw c.new.ensures.items refl
