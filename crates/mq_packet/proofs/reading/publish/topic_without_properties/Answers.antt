-- A brief PUBLISH is read as any other.
use Rattle.std.proofs.Common.{◌+◌, length, sym, ◌∙◌}
use Rattle.mq_packet.proofs.BriefLaws.{goes_on, brief_publish}
use Rattle.mq_packet.proofs.reading.publish.topic_without_properties.Goals as goal

pub returns-clause-exact : goal.returns-clause-exact
returns-clause-exact c retain =
    let topic = c.in_ok-topic.topic.now in
    brief_publish retain c.args.cursor topic c.plain_text.new.self c.in_ok-topic.ensures.text c.in_ok-topic.ensures.plain
    (sym c.is_empty.ensures ∙ c.if-is_empty.false) c.in_ok-topic.ensures.exact.1 (goes_on c.args.cursor.rest (topic, 2 + length topic) c.in_ok-topic.ensures.exact.0 c.requires)
