use Rattle.std.proofs.Common.{ℕ, ◌≡◌, length}
use Rattle.std.specs.Prelude.{reverse}
use Rattle.mq_plain.specs.Tables.{at}
use Rattle.mq_plain.specs.Unanswered.{first_index}
use Rattle.mq_plain.proofs.UnansweredLaws.{first_back}
use Rattle.mq_plain.proofs.exchanges.unanswered.unanswered.Given as goal

-- the answer of what was looked at, and else of what is left
abbrev pub invariant-loop-event : goal.invariant-loop-event
invariant-loop-event g l = (i : ℕ) → first_back (at l.slots i) (first_index g.X.Exchange.exchange i (reverse l.earlier)) ≡ first_index g.X.Exchange.exchange i (reverse l.before)

abbrev pub decreases-loop-event : goal.decreases-loop-event
decreases-loop-event g l = length l.earlier
