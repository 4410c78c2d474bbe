use Rattle.std.proofs.Common.{arith}
use Rattle.mq_subscriptions.specs.Matchings.{any, unidentified, retained, in_vain}
use Rattle.mq_subscriptions.proofs.subscribed.Settled.size.Goals as goal

pub returns-clause-different : goal.returns-clause-different
returns-clause-different c = λ filters within.
    let one = c.len.ensures.different filters (within any) in
    let two = c.len-2.ensures.different filters (within unidentified) in
    let three = c.len-3.ensures.different filters (within retained) in
    let four = c.len-4.ensures.different filters (within in_vain) in
    omega (arith, one, two, three, four, c.len.ensures.size, c.len-2.ensures.size, c.len-3.ensures.size, c.len-4.ensures.size)
