use Rattle.std.proofs.Common.{refl}
use Rattle.mq_evidence.proofs.connection_trail.ConnectionTrail.new.Goals as goal

pub returns : goal.returns
returns c = record { same_role = refl; handshake_is = c.new.ensures; accepted_is = c.new-2.ensures; hearing_is = c.new-3.ensures }
