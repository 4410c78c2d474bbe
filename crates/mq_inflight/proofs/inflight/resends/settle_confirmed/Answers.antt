use Rattle.std.proofs.Common.{not, ap}
use Rattle.mq_rules.specs.KeptOrder.{value_under}
use Rattle.mq_rules.proofs.Exports.{under-within}
use Rattle.mq_inflight.proofs.AgainLaws.{found-confirmed}
use Rattle.mq_inflight.proofs.inflight.resends.settle_confirmed.Goals as goal

pub returns-clause-resent : goal.returns-clause-resent
returns-clause-resent c = λ single is.
    found-confirmed c.args.opened single (value_under c.args.entries.now) c.args.resent _ (λ i there. under-within c.args.entries.now i there) (ap (λ b. record { all = c.args.resent.all; confirmed = not b }) c.any_due.ensures) is
