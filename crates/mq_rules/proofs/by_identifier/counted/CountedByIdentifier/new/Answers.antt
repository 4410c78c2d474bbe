use Rattle.mq_rules.proofs.IdentifierCountLaws.{counted-none, under-nothing}
use Rattle.mq_rules.proofs.by_identifier.counted.CountedByIdentifier.new.Goals as goal

pub invariant_of-result : goal.invariant_of-result
invariant_of-result g c = counted-none c.new.result (λ i. under-nothing c.new.result i (c.new.ensures i))

pub returns : goal.returns
returns g c = λ i. under-nothing c.new.result i (c.new.ensures i)
