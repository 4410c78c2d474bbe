use Rattle.std.proofs.Common.{◌≡◌, ◌++◌, ℕ, List, length}
use Rattle.mq_trace.specs.Copying.{IsCopyOf, IsSound, WritesMore}
use Rattle.mq_trace.proofs.converting.Copying.copy.Given as goal

abbrev pub invariant-loop-rest : goal.invariant-loop-rest
invariant-loop-rest g l = (taken : List ℕ) × (l.fn.piece ≡ taken ++ l.rest) × IsSound l.self
    × ((log : List ℕ) → IsCopyOf l.fn.self log → IsCopyOf l.self (log ++ taken) × WritesMore log taken (g.W.Write.contents l.fn.writer) (g.W.Write.contents l.writer))

abbrev pub decreases-loop-rest : goal.decreases-loop-rest
decreases-loop-rest g l = length l.rest
