use Rattle.std.proofs.Common.{ℕ, ◌≡◌, ◌||◌, length}
use Rattle.std.specs.Prelude.{reverse}
use Rattle.mq_rules.specs.Moments.{note, some}
use Rattle.mq_rules.specs.Connections.{connection}
use Rattle.mq_plain.specs.Owing.{sends_under}
use Rattle.mq_plain.specs.Tables.{at}
use Rattle.mq_plain.proofs.owing.sent_again.Given as goal

-- what is marked, or left to look at, was sent again
abbrev pub invariant-loop-event : goal.invariant-loop-event
invariant-loop-event l = (i : ℕ) → (at l.again i || some (λ m. sends_under i (note m)) (connection (reverse l.earlier))) ≡ some (λ m. sends_under i (note m)) (connection (reverse l.before))

abbrev pub decreases-loop-event : goal.decreases-loop-event
decreases-loop-event l = length l.earlier
