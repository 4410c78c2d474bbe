-- The Topic Name of a valid PUBLISH is a text.
use Rattle.mq_packet.proofs.GrowingLaws.{publish_topic}
use Rattle.mq_packet.proofs.writing.bodies.put_publish.Goals as goal

pub put_string-requires : goal.put_string-requires
put_string-requires c = publish_topic _ c.requires
