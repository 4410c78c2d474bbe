use Rattle.std.proofs.Common.{◌≡◌, ◌≤◌, ◌+◌, ◌-◌, ◌^◌, length}
use Rattle.std.specs.List.{sum_by}
use Rattle.mq_rules.specs.Weights.{in_word}
use Rattle.mq_subscriptions.specs.Burden.{at_least_one}
use Rattle.mq_subscriptions.proofs.subscribed.waiting_size.Given as goal

-- with those that are left, all
abbrev pub invariant-loop-identifier : goal.invariant-loop-identifier
invariant-loop-identifier l = (l.size ≤ 2 ^ 64 - 1) × (in_word (l.size + sum_by (λ e. at_least_one (length e.1.filters)) l._identifier-iterator) ≡ in_word (sum_by (λ e. at_least_one (length e.1.filters)) l.fn.waiting.entries))
