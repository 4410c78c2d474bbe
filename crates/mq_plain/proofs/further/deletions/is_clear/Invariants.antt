use Rattle.std.proofs.Common.{◌≡◌, Some, length}
use Rattle.std.specs.Prelude.{reverse}
use Rattle.mq_rules.specs.Notes.{receives_unclear}
use Rattle.mq_rules.specs.Moments.{note, some}
use Rattle.mq_rules.specs.FurtherSubscriptions.{since_began}
use Rattle.mq_plain.proofs.further.deletions.is_clear.Given as goal

-- what is left to look at decides
abbrev pub invariant-loop-event : goal.invariant-loop-event
invariant-loop-event l = some (λ m. receives_unclear (note m)) (since_began l.role l.fate (reverse l.earlier)) ≡ some (λ m. receives_unclear (note m)) (since_began l.role (Some l.fn.fate) (reverse l.before))

abbrev pub decreases-loop-event : goal.decreases-loop-event
decreases-loop-event l = length l.earlier
