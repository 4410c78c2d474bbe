use Rattle.std.proofs.Common.{arith}
use Rattle.mq_fates.proofs.SizeLaws.{distinct-within}
use Rattle.mq_fates.proofs.sizes.count_distinct.Goals as goal

pub returns-clause-bounded : goal.returns-clause-bounded
returns-clause-bounded c = λ distinct test passes. distinct-within c.args.identifiers.now test distinct (λ k. omega (arith, c.type_inv.identifiers k)) passes
