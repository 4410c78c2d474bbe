-- A packet without a body.
use Rattle.std.proofs.Common.{rules}
use Rattle.mq_packet.specs.Reading.{view}
use Rattle.mq_packet.proofs.reading.read_other.Goals as goal

pub returns-in-192 : goal.returns-in-192
returns-in-192 c =
    (let ends = c.whole.ensures.ended view in
    search (rules, ends))

pub returns-in-208 : goal.returns-in-208
returns-in-208 c =
    (let ends = c.whole-in-208.ensures.ended view in
    search (rules, ends))
