use Rattle.std.proofs.Common.{◌≡◌, replicate}
use Rattle.mq_plain.proofs.table.Table.new.Given as goal

-- the same value so far
abbrev pub invariant-loop : goal.invariant-loop
invariant-loop g l = l.values.items ≡ replicate l.counter l.fn.initial
