-- A frame stands in each beginning of the stream that holds it.
use Rattle.mq_packet.proofs.StreamLaws.{frame_stood}
use Rattle.mq_packet.proofs.laws.the_front_of_a_stream_stays.Goals as goal

pub returns-clause-stood : goal.returns-clause-stood
returns-clause-stood c = frame_stood
