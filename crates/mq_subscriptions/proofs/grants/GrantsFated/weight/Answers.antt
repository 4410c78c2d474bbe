use Rattle.std.proofs.Common.{arith}
use Rattle.mq_subscriptions.proofs.GrantSizeLaws.{grants-within}
use Rattle.mq_subscriptions.proofs.grants.GrantsFated.weight.Goals as goal

pub returns-clause-bounded : goal.returns-clause-bounded
returns-clause-bounded c = λ tested taken past q.
    let s = c.args.self.now in
    let most = grants-within s.bound s.wanted.entries past c.sizes_of.ensures.unique q.1 in
    omega (arith, c.sizes_of.ensures.size, most)
