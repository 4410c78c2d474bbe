use Rattle.std.proofs.Common.{◌≡◌, true, Some, length}
use Rattle.std.specs.Prelude.{reverse}
use Rattle.mq_plain.specs.Tables.{at}
use Rattle.mq_plain.proofs.ResendOrderLaws.{overtaken_back}
use Rattle.mq_plain.proofs.resends.order.is_passed.Given as goal

-- what is left to look at decides
abbrev pub invariant-loop-event : goal.invariant-loop-event
invariant-loop-event l = overtaken_back l.role l.identifier l.fate l.is_on (λ o. at l.resent o) (reverse l.earlier)
    ≡ overtaken_back l.role l.identifier (Some l.fn.fate) true (λ o. at l.fn.resent o) (reverse l.before)

abbrev pub decreases-loop-event : goal.decreases-loop-event
decreases-loop-event l = length l.earlier
