use Rattle.std.proofs.Common.{not, ap}
use Rattle.mq_rules.specs.KeptOrder.{value_under}
use Rattle.mq_rules.proofs.Exports.{under-within}
use Rattle.mq_inflight.proofs.AgainLaws.{found-all}
use Rattle.mq_inflight.proofs.inflight.resends.settle_all.Goals as goal

pub returns-clause-resent : goal.returns-clause-resent
returns-clause-resent c = λ is.
    found-all c.args.opened c.args.excused (value_under c.args.entries.now) c.args.resent _ (λ i there. under-within c.args.entries.now i there) (ap (λ b. record { all = not b; confirmed = c.args.resent.confirmed }) c.any_due.ensures) is
