-- The sum of the parts is the body's length.
use Rattle.std.proofs.Common.{length, ap, ◌∙◌}
use Rattle.mq_packet.specs.Sizes.{within}
use Rattle.mq_packet.proofs.SizeLaws.{answer_length}
use Rattle.mq_packet.proofs.writing.lengths.answer_len.Goals as goal

pub returns : goal.returns
returns c =
    c.sum_within.ensures
    ∙ ap within (answer_length c.args.packet.now.identifier c.args.packet.now.properties.items c.args.packet.now.codes c.list_len.result _ c.list_len.ensures.len (ap length c.as_bytes.ensures))
