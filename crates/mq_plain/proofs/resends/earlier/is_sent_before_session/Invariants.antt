use Rattle.std.proofs.Common.{◌≡◌, length}
use Rattle.std.specs.Prelude.{reverse}
use Rattle.mq_plain.specs.Resends.{is_sent_before}
use Rattle.mq_plain.proofs.ResendLaws.{before_back}
use Rattle.mq_plain.proofs.resends.earlier.is_sent_before_session.Given as goal

-- what is left to look at decides
abbrev pub invariant-loop-event : goal.invariant-loop-event
invariant-loop-event l = before_back l.identifier l.fate l.is_earlier (reverse l.earlier) ≡ is_sent_before l.fn.fate l.identifier (reverse l.before)

abbrev pub decreases-loop-event : goal.decreases-loop-event
decreases-loop-event l = length l.earlier
