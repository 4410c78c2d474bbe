-- The flags choose the format.
use Rattle.std.proofs.Common.{Ok, IfSome, sym, subst, ◌≡◌, ◌==◌, if◌then◌else◌, bit_and}
use Rattle.mq_packet.specs.declared.packet.Qos.TheVariants.{AtLeastOnce, ExactlyOnce}
use Rattle.mq_packet.specs.Entries.{publish}
use Rattle.mq_packet.specs.Formats.{Format, has_bits}
use Rattle.mq_packet.specs.Brief.{identified_fields}
use Rattle.mq_packet.specs.Decoding.{read}
use Rattle.mq_packet.proofs.BriefLaws.{acknowledged_format}
use Rattle.mq_packet.proofs.reading.publish.identified_topic.Goals as goal

pub returns-in-2-clause-exact : goal.returns-in-2-clause-exact
returns-in-2-clause-exact c =
    let flags = c.args.flags in
    let qos = if bit_and flags 6 == 2 then AtLeastOnce else ExactlyOnce in
    subst (λ (format : Format). IfSome c.topic_with_identifier.result (λ topic. read format c.args.cursor ≡ Ok (publish (identified_fields (has_bits 8 flags) qos (has_bits 1 flags) topic.now c.args.cursor.rest)))) (sym (acknowledged_format flags c.in-2.is))
    (c.topic_with_identifier.ensures.exact (has_bits 8 flags) qos (has_bits 1 flags))
