-- The sum of the parts is the body's length.
use Rattle.std.proofs.Common.{refl, ap, ◌∙◌}
use Rattle.mq_packet.specs.Sizes.{within}
use Rattle.mq_packet.proofs.SizeLaws.{publish_length}
use Rattle.mq_packet.proofs.writing.lengths.publish_len.Goals as goal

pub returns : goal.returns
returns c =
    c.sum_within.ensures
    ∙ ap within (publish_length (record { duplicate = c.args.packet.now.duplicate; qos = c.args.packet.now.qos; retain = c.args.packet.now.retain; topic = c.args.packet.now.topic.now; identifier = c.args.packet.now.identifier; properties = c.args.packet.now.properties; payload = c.args.packet.now.payload.now }) c.text_len.result c.identifier_len_if_there.result c.list_len.result _ c.text_len.ensures c.identifier_len_if_there.ensures c.list_len.ensures.len refl)
