-- What is written is read.
use Rattle.mq_packet.proofs.ShortFormLaws.{written_read}
use Rattle.mq_packet.proofs.spelling_laws.what_is_written_is_read.Goals as goal

pub returns : goal.returns
returns c = written_read
