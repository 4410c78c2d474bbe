use Rattle.std.proofs.Common.{◌≡◌, ◌&&◌, ℕ, length, get_or, cond, nat_lt, is_some, Some, None}
use Rattle.mq_rules.proofs.by_identifier.Page.keep_where.Given as goal

-- so far, and there are as many slots as before
abbrev pub invariant-loop-slot : goal.invariant-loop-slot
invariant-loop-slot g l = (length l.self ≡ length l.fn.self)
    × ((s : ℕ) → get_or l.self s None ≡ cond (nat_lt s l.slot && is_some (get_or l.others s None)) (Some l.value) (get_or l.fn.self s None))
