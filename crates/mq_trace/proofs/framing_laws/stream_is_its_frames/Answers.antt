use Rattle.mq_packet.specs.Stream.{frame_size}
use Rattle.mq_log.specs.Framing.{stream}
use Rattle.mq_log.proofs.Exports.{pieces-cut, pieces-only}
use Rattle.mq_log.proofs.Exports.{frame_settles}
use Rattle.mq_trace.proofs.framing_laws.stream_is_its_frames.Goals as goal

pub returns-clause-cut : goal.returns-clause-cut
unfolding stream
returns-clause-cut c = λ bytes. pieces-cut frame_size frame_settles bytes

pub returns-clause-only : goal.returns-clause-only
unfolding stream
returns-clause-only c = λ bytes cut is. pieces-only frame_size frame_settles bytes cut is
