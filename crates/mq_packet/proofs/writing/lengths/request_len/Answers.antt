-- The sum of the parts is the body's length.
use Rattle.std.proofs.Common.{length, ap, ◌∙◌}
use Rattle.mq_packet.specs.Sizes.{within}
use Rattle.mq_packet.proofs.SizeLaws.{request_length}
use Rattle.mq_packet.proofs.writing.lengths.request_len.Goals as goal

pub returns : goal.returns
returns c =
    c.sum_within.ensures
    ∙ ap within (request_length c.args.packet.now.identifier c.args.packet.now.properties.items c.args.packet.now.filters c.list_len.result _ c.list_len.ensures.len (ap length c.as_bytes.ensures.spelled))
