-- Nothing is left after the property list.
use Rattle.std.proofs.Common.{rules}
use Rattle.mq_packet.specs.declared.packet.Connack.{Connack}
use Rattle.mq_packet.specs.Entries.{connack}
use Rattle.mq_packet.proofs.reading.connack.read_connack.Goals as goal

pub returns : goal.returns
returns c =
    (let ends = c.whole.ensures.ended (λ (p : Connack). connack p.session_present p.code p.properties) in
    search (rules, ends))
