use Rattle.std.proofs.Common.{ap}
use Rattle.mq_evidence.specs.ConnectionTrails.{latest_connection}
use Rattle.mq_evidence.proofs.connection_trail.ConnectionTrail.connack.Goals as goal

pub returns : goal.returns
returns c = λ tested past trail. ap (λ x. x.because) (c.connack.ensures tested.role (latest_connection past) trail.handshake_is)
