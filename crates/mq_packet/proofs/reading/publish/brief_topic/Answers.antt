-- The flags choose the format.
use Rattle.std.proofs.Common.{Ok, IfSome, sym, subst, refl, ◌≡◌}
use Rattle.mq_packet.specs.Entries.{publish}
use Rattle.mq_packet.specs.Formats.{Format, has_bits, publish_format, publish_unacknowledged}
use Rattle.mq_packet.specs.Brief.{brief_fields}
use Rattle.mq_packet.specs.Decoding.{read}
use Rattle.mq_packet.proofs.reading.publish.brief_topic.Goals as goal

pub returns-clause-exact : goal.returns-clause-exact
returns-clause-exact c =
    let is : publish_format c.args.flags ≡ publish_unacknowledged (has_bits 1 c.args.flags) = rw (c.if-flags-ne0.false, c.if-flags-ne0-2.false) refl in
    subst (λ (format : Format). IfSome c.topic_without_properties.result (λ topic. read format c.args.cursor ≡ Ok (publish (brief_fields (has_bits 1 c.args.flags) topic.now c.args.cursor.rest)))) (sym is)
    (c.topic_without_properties.ensures.exact (has_bits 1 c.args.flags))
