use Rattle.std.proofs.Common.{◌≡◌}
use Rattle.std.specs.VecDeque.{deque_len}
use Rattle.mq_rules.specs.KeptOrder.{value_under}
use Rattle.mq_exchanges.specs.Orderings.{from_settled, is_late}
use Rattle.mq_exchanges.proofs.ordering.passes_over.Given as goal

-- what is dropped isn't due
abbrev pub invariant-loop-debt : goal.invariant-loop-debt
invariant-loop-debt l =
    (from_settled (value_under l.due) l.identifier l.position l.queue.items ≡ from_settled (value_under l.due) l.identifier l.position l.initial.queue.items)
    × (is_late (value_under l.due) l.identifier l.position l.queue.items ≡ is_late (value_under l.due) l.identifier l.position l.initial.queue.items)

abbrev pub decreases-loop-debt : goal.decreases-loop-debt
decreases-loop-debt l = deque_len l.queue
