-- The sum of the parts is the body's length.
use Rattle.std.proofs.Common.{ap, ◌∙◌}
use Rattle.mq_packet.specs.Sizes.{within}
use Rattle.mq_packet.proofs.SizeLaws.{connack_length}
use Rattle.mq_packet.proofs.writing.lengths.connack_len.Goals as goal

pub returns : goal.returns
returns c =
    c.sum_within.ensures
    ∙ ap within (connack_length c.args.packet.now.session_present c.args.packet.now.code c.args.packet.now.properties.items c.list_len.result c.list_len.ensures.len)
