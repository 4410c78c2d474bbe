-- It is as long as what it was read from.
use Rattle.std.proofs.Common.{arith}
use Rattle.mq_packet.proofs.BriefLaws.{packet_remaining}
use Rattle.mq_packet.proofs.brief.decode_ping.Goals as goal

pub returns-clause-size : goal.returns-clause-size
returns-clause-size c = packet_remaining c.read_ping.result c.args.first c.args.body.now (λ i. omega (arith, c.type_inv.body i)) c.read_ping.ensures.exact c.read_ping.ensures.read_len
