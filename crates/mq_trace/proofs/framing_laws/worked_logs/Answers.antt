use Rattle.std.proofs.Common.{refl}
use Rattle.mq_log.specs.Events.{read_frame, item_at, part_at, packet_at, moment_at, event_in, event_at, events_back, events}
use Rattle.mq_log.specs.Framing.{kind_of, body_length, head_length, longest_body, moment_in, record_size, records, begun_records, carried, stream}
use Rattle.mq_log.specs.Pieces.{pieces}
use Rattle.mq_log.specs.Refusals.{header_refusal, situation, record_refusal, refusal_at, refused_back, refused, is_cut_short}
use Rattle.mq_packet.specs.Stream.{fixed_header_of, frame_size, is_lost}
use Rattle.mq_trace.proofs.framing_laws.worked_logs.Goals as goal

pub returns-clause-empty : goal.returns-clause-empty
unfolding read_frame item_at part_at packet_at moment_at event_in event_at events_back events kind_of body_length head_length longest_body moment_in record_size records begun_records carried stream pieces header_refusal situation record_refusal refusal_at refused_back refused is_cut_short fixed_header_of frame_size is_lost
returns-clause-empty c = (refl, refl, refl)

pub returns-clause-cut : goal.returns-clause-cut
unfolding read_frame item_at part_at packet_at moment_at event_in event_at events_back events kind_of body_length head_length longest_body moment_in record_size records begun_records carried stream pieces header_refusal situation record_refusal refusal_at refused_back refused is_cut_short fixed_header_of frame_size is_lost
returns-clause-cut c = refl

pub returns-clause-nested : goal.returns-clause-nested
unfolding read_frame item_at part_at packet_at moment_at event_in event_at events_back events kind_of body_length head_length longest_body moment_in record_size records begun_records carried stream pieces header_refusal situation record_refusal refusal_at refused_back refused is_cut_short fixed_header_of frame_size is_lost
returns-clause-nested c = refl

pub returns-clause-second : goal.returns-clause-second
unfolding read_frame item_at part_at packet_at moment_at event_in event_at events_back events kind_of body_length head_length longest_body moment_in record_size records begun_records carried stream pieces header_refusal situation record_refusal refusal_at refused_back refused is_cut_short fixed_header_of frame_size is_lost
returns-clause-second c = refl

pub returns-clause-between : goal.returns-clause-between
unfolding read_frame item_at part_at packet_at moment_at event_in event_at events_back events kind_of body_length head_length longest_body moment_in record_size records begun_records carried stream pieces header_refusal situation record_refusal refusal_at refused_back refused is_cut_short fixed_header_of frame_size is_lost
returns-clause-between c = refl

pub returns-clause-after_closed : goal.returns-clause-after_closed
unfolding read_frame item_at part_at packet_at moment_at event_in event_at events_back events kind_of body_length head_length longest_body moment_in record_size records begun_records carried stream pieces header_refusal situation record_refusal refusal_at refused_back refused is_cut_short fixed_header_of frame_size is_lost
returns-clause-after_closed c = refl

pub returns-clause-early : goal.returns-clause-early
unfolding read_frame item_at part_at packet_at moment_at event_in event_at events_back events kind_of body_length head_length longest_body moment_in record_size records begun_records carried stream pieces header_refusal situation record_refusal refusal_at refused_back refused is_cut_short fixed_header_of frame_size is_lost
returns-clause-early c = refl

pub returns-clause-counted : goal.returns-clause-counted
unfolding read_frame item_at part_at packet_at moment_at event_in event_at events_back events kind_of body_length head_length longest_body moment_in record_size records begun_records carried stream pieces header_refusal situation record_refusal refusal_at refused_back refused is_cut_short fixed_header_of frame_size is_lost
returns-clause-counted c = refl

pub returns-clause-unrecorded : goal.returns-clause-unrecorded
unfolding read_frame item_at part_at packet_at moment_at event_in event_at events_back events kind_of body_length head_length longest_body moment_in record_size records begun_records carried stream pieces header_refusal situation record_refusal refusal_at refused_back refused is_cut_short fixed_header_of frame_size is_lost
returns-clause-unrecorded c = refl

pub returns-clause-unopened : goal.returns-clause-unopened
unfolding read_frame item_at part_at packet_at moment_at event_in event_at events_back events kind_of body_length head_length longest_body moment_in record_size records begun_records carried stream pieces header_refusal situation record_refusal refusal_at refused_back refused is_cut_short fixed_header_of frame_size is_lost
returns-clause-unopened c = refl

pub returns-clause-version : goal.returns-clause-version
unfolding read_frame item_at part_at packet_at moment_at event_in event_at events_back events kind_of body_length head_length longest_body moment_in record_size records begun_records carried stream pieces header_refusal situation record_refusal refusal_at refused_back refused is_cut_short fixed_header_of frame_size is_lost
returns-clause-version c = refl

pub returns-clause-barred : goal.returns-clause-barred
unfolding read_frame item_at part_at packet_at moment_at event_in event_at events_back events kind_of body_length head_length longest_body moment_in record_size records begun_records carried stream pieces header_refusal situation record_refusal refusal_at refused_back refused is_cut_short fixed_header_of frame_size is_lost
returns-clause-barred c = refl

pub returns-clause-moments : goal.returns-clause-moments
unfolding read_frame item_at part_at packet_at moment_at event_in event_at events_back events kind_of body_length head_length longest_body moment_in record_size records begun_records carried stream pieces header_refusal situation record_refusal refusal_at refused_back refused is_cut_short fixed_header_of frame_size is_lost
returns-clause-moments c = refl
