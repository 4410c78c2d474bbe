use Rattle.std.proofs.Common.{◌≡◌, ◌&&◌, ℕ, cond, nat_lt, is_some, Some}
use Rattle.mq_rules.specs.ByIdentifier.{value_at}
use Rattle.mq_rules.proofs.by_identifier.ByIdentifier.insert_all.Given as goal

-- so far
abbrev pub invariant-loop-page : goal.invariant-loop-page
invariant-loop-page g l = (p s : ℕ) → value_at l.self.pages.items p s ≡ cond (nat_lt p l.page && is_some (value_at l.others.pages.items p s)) (Some l.value) (value_at l.fn.self.pages.items p s)
