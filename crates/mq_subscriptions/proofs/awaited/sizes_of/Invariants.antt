use Rattle.std.proofs.Common.{◌≡◌, ◌+◌, length, take}
use Rattle.std.specs.List.{sum_by}
use Rattle.mq_rules.specs.Weights.{in_word}
use Rattle.mq_subscriptions.proofs.awaited.sizes_of.Given as goal

-- those so far
abbrev pub invariant-loop-request : goal.invariant-loop-request
invariant-loop-request l = l.size ≡ in_word (sum_by (λ filters. 1 + length filters) (take l.request-index l.requests))
