use Rattle.std.proofs.Common.{◌≡◌, ◌+◌, length}
use Rattle.mq_command.specs.Digits.{oddity_from, oddity_in}
use Rattle.mq_command.proofs.oddity.oddity_in.Given as goal

abbrev pub invariant-loop-first : goal.invariant-loop-first
invariant-loop-first l = (oddity_from l.place l.rest ≡ oddity_in l.text) × (l.place + length l.rest ≡ 1 + length l.text)

abbrev pub decreases-loop-first : goal.decreases-loop-first
decreases-loop-first l = length l.rest
