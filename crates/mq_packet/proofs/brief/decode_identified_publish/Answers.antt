-- A brief PUBLISH with a Packet Identifier is as long as what it was read from.
use Rattle.std.proofs.Common.{arith}
use Rattle.mq_packet.proofs.BriefLaws.{brief_remaining}
use Rattle.mq_packet.proofs.brief.decode_identified_publish.Goals as goal

pub returns-clause-size : goal.returns-clause-size
returns-clause-size c = brief_remaining c.read_identified_body.result c.args.first c.args.body.now (λ i. omega (arith, c.type_inv.body i)) c.read_identified_body.ensures.exact
