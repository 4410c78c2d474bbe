use Rattle.std.proofs.Common.{◌≡◌, length}
use Rattle.std.specs.Prelude.{reverse}
use Rattle.mq_plain.specs.Handshakes.{handshake}
use Rattle.mq_plain.proofs.HandshakeLaws.{handshake_back}
use Rattle.mq_plain.proofs.handshake.handshake_of.Given as goal

-- what is left to look at comes first
abbrev pub invariant-loop-event : goal.invariant-loop-event
invariant-loop-event l = handshake_back l.role l.found (reverse l.earlier) ≡ handshake l.role (reverse l.before)

abbrev pub decreases-loop-event : goal.decreases-loop-event
decreases-loop-event l = length l.earlier
