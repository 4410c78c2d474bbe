use Rattle.std.proofs.Common.{◌≡◌, length}
use Rattle.std.specs.Prelude.{reverse}
use Rattle.mq_rules.specs.Connections.{any_accepted}
use Rattle.mq_plain.proofs.session.is_any_accepted.Given as goal

-- what is left to look at decides
abbrev pub invariant-loop-event : goal.invariant-loop-event
invariant-loop-event l = any_accepted l.role l.fate (reverse l.earlier) ≡ any_accepted l.role l.fn.fate (reverse l.before)

abbrev pub decreases-loop-event : goal.decreases-loop-event
decreases-loop-event l = length l.earlier
