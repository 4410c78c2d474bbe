use Rattle.std.proofs.Common.{arith}
use Rattle.mq_subscriptions.proofs.DeletionSizeLaws.{texts-within}
use Rattle.mq_subscriptions.proofs.deletions.states_size.Goals as goal

pub returns-clause-different : goal.returns-clause-different
returns-clause-different c = λ filters within.
    let le = texts-within c.args.states.now.entries filters c.len.ensures.unique within in
    omega (arith, le, c.len.ensures.len)
