use Rattle.std.proofs.Common.{refl}
use Rattle.mq_log.specs.Events.{part_at, packet_at, unfinished_at, event_in, event_at}
use Rattle.mq_log.specs.Framing.{kind_of, body_length, head_length, record_size, records, begun_records, carried, stream}
use Rattle.mq_log.specs.Pieces.{pieces}
use Rattle.mq_packet.specs.Stream.{fixed_header_of, frame_size, is_lost}
use Rattle.mq_trace.proofs.framing_laws.worked_closes.Goals as goal

pub returns-clause-nothing : goal.returns-clause-nothing
unfolding part_at packet_at unfinished_at event_in event_at kind_of body_length head_length record_size records begun_records carried stream pieces fixed_header_of frame_size is_lost
returns-clause-nothing c = refl

pub returns-clause-earlier : goal.returns-clause-earlier
unfolding part_at packet_at unfinished_at event_in event_at kind_of body_length head_length record_size records begun_records carried stream pieces fixed_header_of frame_size is_lost
returns-clause-earlier c = refl
