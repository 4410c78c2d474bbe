use Rattle.std.proofs.Common.{length}
use Rattle.std.specs.Prelude.{reverse}
use Rattle.mq_rules.specs.Moments.{IsPlaced}
use Rattle.mq_plain.specs.Owing.{covers}
use Rattle.mq_plain.specs.Tables.{at}
use Rattle.mq_plain.proofs.OwingLaws.{IsWalked}
use Rattle.mq_plain.proofs.owing.owed_in_session.Given as goal

-- what is kept of the walk down to what is left to look at
abbrev pub invariant-loop-event : goal.invariant-loop-event
invariant-loop-event l = IsPlaced (reverse l.before) → IsWalked (covers l.role l.excuse (reverse l.before)) (at l.again) l.role (reverse l.before) l.fate (reverse l.earlier) (at l.moved) (at l.confirmed) l.places.items

abbrev pub decreases-loop-event : goal.decreases-loop-event
decreases-loop-event l = length l.earlier
