-- A PUBLISH is as long as what it was read from.
use Rattle.std.proofs.Common.{arith}
use Rattle.mq_packet.proofs.BodyLaws.{publish_remaining_given}
use Rattle.mq_packet.proofs.decoding.decode_publish.Goals as goal

pub returns-clause-size : goal.returns-clause-size
returns-clause-size c = publish_remaining_given c.read_publish_body.result c.args.first c.args.body.now (λ i. omega (arith, c.type_inv.body i)) c.read_publish_body.ensures.exact
