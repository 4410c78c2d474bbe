use Rattle.std.proofs.Common.{◌≡◌, ◌||◌, ℕ, Bool, List}
use Rattle.std.specs.List.{list_any}
use Rattle.mq_filters.specs.Standings.{allows}
use Rattle.mq_subscriptions.specs.Matchings.{Kind, serves, some_waits}
use Rattle.mq_subscriptions.specs.Subscribings.{set_of}
use Rattle.mq_subscriptions.proofs.subscribed.Settled.add_all.Given as goal

-- with those that are left, all come to be added
abbrev pub invariant-loop-identifier : goal.invariant-loop-identifier
invariant-loop-identifier l = (kind : Kind) (among : List ℕ → Bool) (least : ℕ) → (list_any (allows among least) (set_of l.self kind) || some_waits (serves kind among least) l._identifier-iterator) ≡ (list_any (allows among least) (set_of l.initial.self kind) || some_waits (serves kind among least) l.fn.waiting.entries)
