use Rattle.std.proofs.Common.{◌≡◌, ◌≤◌, ◌+◌, ◌-◌, ◌^◌, length}
use Rattle.std.specs.List.{sum_by}
use Rattle.mq_rules.specs.Weights.{in_word}
use Rattle.indexmap.specs.IndexMap.{values}
use Rattle.mq_subscriptions.proofs.awaited.values_size.Given as goal

-- with those that are left, all
abbrev pub invariant-loop-requests : goal.invariant-loop-requests
invariant-loop-requests l = (l.size ≤ 2 ^ 64 - 1) × (in_word (l.size + sum_by (λ requests. sum_by (λ filters. 1 + length filters) requests) l.requests-iterator) ≡ in_word (sum_by (λ requests. sum_by (λ filters. 1 + length filters) requests) (values l.fn.all)))
