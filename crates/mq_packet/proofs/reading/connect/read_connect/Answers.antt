-- Nothing is left after the Password.
use Rattle.std.proofs.Common.{rules}
use Rattle.mq_packet.specs.declared.packet.Connect.{Connect}
use Rattle.mq_packet.specs.Entries.{connect}
use Rattle.mq_packet.specs.Reading.{connect_view}
use Rattle.mq_packet.proofs.reading.connect.read_connect.Goals as goal

pub returns : goal.returns
returns c =
    (let ends = c.whole.ensures.ended (λ (p : Connect). connect (connect_view p)) in
    search (rules, ends))
