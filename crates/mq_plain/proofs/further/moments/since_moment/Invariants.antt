use Rattle.std.proofs.Common.{◌≡◌, length}
use Rattle.std.specs.Prelude.{reverse}
use Rattle.mq_rules.specs.Moments.{since}
use Rattle.mq_rules.specs.Connections.{connection}
use Rattle.mq_plain.proofs.further.moments.since_moment.Given as goal

-- what is left to look at decides
abbrev pub invariant-loop-event : goal.invariant-loop-event
invariant-loop-event g l = since (g.S.MomentTest.test l.starts) (g.E.MomentTest.test l.ends) (connection (reverse l.earlier)) ≡ since (g.S.MomentTest.test l.starts) (g.E.MomentTest.test l.ends) (connection (reverse l.before))

abbrev pub decreases-loop-event : goal.decreases-loop-event
decreases-loop-event g l = length l.earlier
