use Rattle.std.proofs.Common.{◌≡◌, ◌≤◌, ◌<◌, ℕ, None}
use Rattle.mq_rules.specs.ByIdentifier.{value_at}
use Rattle.mq_rules.proofs.by_identifier.ByIdentifier.next_page.Given as goal

-- nothing was found so far
abbrev pub invariant-loop-page : goal.invariant-loop-page
invariant-loop-page g l = (p s : ℕ) → l.start ≤ p → p < l.page → value_at l.self.pages.items p s ≡ None
