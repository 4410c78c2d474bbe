use Rattle.std.proofs.Common.{◌≡◌, ◌≤◌, ◌+◌, ◌-◌, ◌^◌, length}
use Rattle.std.specs.List.{sum_by}
use Rattle.mq_rules.specs.Weights.{in_word}
use Rattle.mq_subscriptions.specs.Subscribings.{AreCounted}
use Rattle.mq_subscriptions.proofs.subscribed.sets_size.Given as goal

-- with those that are left, all
abbrev pub invariant-loop-identifier : goal.invariant-loop-identifier
invariant-loop-identifier l = (l.size ≤ 2 ^ 64 - 1) × (in_word (l.size + sum_by (λ e. length e.1) l._identifier-iterator) ≡ in_word (sum_by (λ e. length e.1) l.fn.sets.entries)) × (AreCounted l._identifier-iterator → AreCounted l.fn.sets.entries)
