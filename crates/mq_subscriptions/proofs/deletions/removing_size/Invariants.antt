use Rattle.std.proofs.Common.{◌≡◌, ◌≤◌, ◌+◌, ◌-◌, ◌^◌}
use Rattle.std.specs.List.{sum_by}
use Rattle.mq_rules.specs.Weights.{in_word}
use Rattle.mq_subscriptions.specs.Deletings.{removes_weigh}
use Rattle.mq_subscriptions.proofs.deletions.removing_size.Given as goal

-- with those that are left, all
abbrev pub invariant-loop-identifier : goal.invariant-loop-identifier
invariant-loop-identifier l = (l.size ≤ 2 ^ 64 - 1) × (in_word (l.size + sum_by (λ e. removes_weigh e.1) l._identifier-iterator) ≡ in_word (sum_by (λ e. removes_weigh e.1) l.fn.removing.entries))
