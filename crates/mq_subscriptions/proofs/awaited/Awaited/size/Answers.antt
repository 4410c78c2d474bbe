use Rattle.std.proofs.Common.{◌+◌, length, ap, arith}
use Rattle.std.specs.List.{sum_by}
use Rattle.mq_subscriptions.specs.Standings.{waits_weight}
use Rattle.mq_subscriptions.proofs.AwaitedLaws.{values-sum}
use Rattle.mq_subscriptions.proofs.awaited.Awaited.size.Goals as goal

pub returns : goal.returns
returns c =
    let all = values-sum (λ filters. 1 + length filters) c.self.inside.requests.entries in
    let same = ap (sum_by waits_weight) c.self.view_is in
    omega (arith, all, same, c.values_size.ensures)
