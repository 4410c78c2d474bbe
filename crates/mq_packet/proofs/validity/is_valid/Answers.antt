-- A packet is valid exactly where it is spelled, by the laws of the definitions.
use Rattle.mq_packet.specs.Reading.{view}
use Rattle.mq_packet.proofs.ValidLaws.{valid_exactly}
use Rattle.mq_packet.proofs.validity.is_valid.Goals as goal

pub returns-clause-spelled : goal.returns-clause-spelled
returns-clause-spelled c = valid_exactly (view c.args.packet.now) c.packet_facts.ensures c.passes.result c.passes.ensures
