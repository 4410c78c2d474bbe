-- The sum of the parts is the body's length.
use Rattle.std.proofs.Common.{ap, ◌∙◌}
use Rattle.std.specs.Option.{option_map}
use Rattle.mq_packet.specs.Reading.{will_view}
use Rattle.mq_packet.specs.Sizes.{within}
use Rattle.mq_packet.proofs.SizeLaws.{connect_length}
use Rattle.mq_packet.proofs.writing.lengths.connect_len.Goals as goal

pub returns : goal.returns
returns c =
    c.sum_within.ensures
    ∙ ap within (connect_length (record { clean_start = c.args.packet.now.clean_start; keep_alive = c.args.packet.now.keep_alive; properties = c.args.packet.now.properties; client_identifier = c.args.packet.now.client_identifier.now; will = option_map will_view c.args.packet.now.will; user_name = option_map (λ t. t.now) c.args.packet.now.user_name; password = option_map (λ b. b.now) c.args.packet.now.password }) c.list_len.result c.text_len.result _ _ _ c.text_len_if_there.result c.binary_len_if_there.result c.list_len.ensures.len c.text_len.ensures c.will_lens-will.ensures c.text_len_if_there.ensures c.binary_len_if_there.ensures)
