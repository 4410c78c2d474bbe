use Rattle.std.proofs.Common.{◌≡◌, ◌≤◌, ◌<◌, ℕ, get_or, None}
use Rattle.mq_rules.proofs.by_identifier.Page.next_used.Given as goal

-- nothing was found so far
abbrev pub invariant-loop-slot : goal.invariant-loop-slot
invariant-loop-slot g l = (s : ℕ) → l.start ≤ s → s < l.slot → get_or l.self s None ≡ None
