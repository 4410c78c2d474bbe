-- What is decoded is spelled, or has its fault, and is as long as what it was read from.
use Rattle.std.proofs.Common.{arith}
use Rattle.mq_packet.proofs.BodyLaws.{remaining_given}
use Rattle.mq_packet.proofs.Readings.{packet_given, fault_given, only_gives}
use Rattle.mq_packet.proofs.decoding.decode.Goals as goal

pub returns-clause-packet : goal.returns-clause-packet
returns-clause-packet c = packet_given c.read_body.result c.args.first c.args.body.now (λ i. omega (arith, c.type_inv.body i)) c.read_body.ensures.exact

pub returns-clause-fault : goal.returns-clause-fault
returns-clause-fault c = fault_given c.read_body.result c.args.first c.args.body.now (λ i. omega (arith, c.type_inv.body i)) c.read_body.ensures.exact

pub returns-clause-only : goal.returns-clause-only
returns-clause-only c = λ outcome comes. only_gives c.read_body.result c.args.first c.args.body.now outcome (λ i. omega (arith, c.type_inv.body i)) c.read_body.ensures.exact comes

pub returns-clause-size : goal.returns-clause-size
returns-clause-size c = remaining_given c.read_body.result c.args.first c.args.body.now (λ i. omega (arith, c.type_inv.body i)) c.read_body.ensures.exact c.read_body.ensures.read_len
