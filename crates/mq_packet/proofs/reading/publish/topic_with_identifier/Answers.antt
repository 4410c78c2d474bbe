-- A brief PUBLISH with a Packet Identifier is read as any other.
use Rattle.std.proofs.Common.{sym, ap, ◌∙◌}
use Rattle.mq_packet.specs.Brief.{starts_identified}
use Rattle.mq_packet.proofs.BriefLaws.{identified_publish}
use Rattle.mq_packet.proofs.reading.publish.topic_with_identifier.Goals as goal

pub returns-clause-exact : goal.returns-clause-exact
returns-clause-exact c duplicate qos retain =
    identified_publish duplicate qos retain c.args.cursor c.in_ok-topic.topic.now c.plain_text.new.self c.in_ok-topic.ensures.text c.in_ok-topic.ensures.plain
    (sym c.is_empty.ensures ∙ c.if-is_empty.false) c.in_ok-topic.ensures.exact.1 (ap starts_identified (sym c.rest.ensures) ∙ sym c.starts_identified.ensures ∙ c.if-not-starts_identified.false)
