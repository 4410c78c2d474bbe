use Rattle.std.proofs.Common.{◌≡◌, ◌≤◌, ℕ, length}
use Rattle.mq_rules.specs.ByIdentifier.{value_at}
use Rattle.mq_rules.proofs.by_identifier.ByIdentifier.make_pages.Given as goal

-- a page for each turn, which keeps nothing
abbrev pub invariant-loop : goal.invariant-loop
invariant-loop g l = (l.counter ≤ length l.self.pages.items) × ((p s : ℕ) → value_at l.self.pages.items p s ≡ value_at l.fn.self.pages.items p s)
