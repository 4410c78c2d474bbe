-- The sum of the parts is the body's length.
use Rattle.std.proofs.Common.{ap, ◌∙◌}
use Rattle.mq_packet.specs.Sizes.{within}
use Rattle.mq_packet.proofs.SizeLaws.{acknowledgement_length}
use Rattle.mq_packet.proofs.writing.lengths.acknowledgement_len.Goals as goal

pub returns : goal.returns
returns c =
    c.sum_within.ensures
    ∙ ap within (acknowledgement_length c.args.packet.now.identifier c.args.packet.now.code c.args.packet.now.properties.items c.reason_len.result c.reason_len.ensures)
