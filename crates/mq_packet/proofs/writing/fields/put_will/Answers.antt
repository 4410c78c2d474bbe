-- The topic of a valid Will is a text, and its payload is binary data.
use Rattle.mq_packet.specs.Reading.{will_view}
use Rattle.mq_packet.proofs.GrowingLaws.{will_texts}
use Rattle.mq_packet.proofs.writing.fields.put_will.Goals as goal

pub put_string-requires : goal.put_string-requires
put_string-requires c = (will_texts (will_view c.args.will.now) c.requires).0

pub put_data-requires : goal.put_data-requires
put_data-requires c = (will_texts (will_view c.args.will.now) c.requires).1
