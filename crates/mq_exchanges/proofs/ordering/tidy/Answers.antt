use Rattle.std.proofs.Common.{◌≡◌, arith, filter, length, ap}
use Rattle.std.specs.Prelude.{is_some}
use Rattle.mq_rules.specs.KeptOrder.{value_under}
use Rattle.mq_rules.proofs.Exports.{under-within}
use Rattle.mq_exchanges.specs.declared.ordering.Debt.{Debt}
use Rattle.mq_exchanges.specs.Orderings.{is_still_due}
use Rattle.mq_exchanges.proofs.QueueSizeLaws.{due-length}
use Rattle.mq_fates.proofs.Exports.{ids-more}
use Rattle.mq_exchanges.proofs.ordering.tidy.Goals as goal

pub returns-then-saturating_sub-most-clause-bounded :
    goal.returns-then-saturating_sub-most-clause-bounded
returns-then-saturating_sub-most-clause-bounded c = λ n test has queue passes.
    let due = value_under c.args.due.now in
    let kept : length c.drop_all_settled.new.queue.items ≡ length (filter (is_still_due due) c.args.queue.now.items) = ap (length {A = Debt}) c.drop_all_settled.ensures in
    let le = due-length due c.args.queue.now.items n (under-within c.args.due.now) queue in
    let most = ids-more (λ i. is_some (due i)) test passes in
    omega (arith, kept, le, most)

pub returns-else-saturating_sub-most-clause-bounded :
    goal.returns-else-saturating_sub-most-clause-bounded
returns-else-saturating_sub-most-clause-bounded c = λ n test has queue passes.
    let most = ids-more (λ i. is_some (value_under c.args.due.now i)) test passes in
    omega (arith, c.if-saturating_sub-most.false, c.saturating_sub.ensures, c.len.ensures, c.len-most.ensures, most)
