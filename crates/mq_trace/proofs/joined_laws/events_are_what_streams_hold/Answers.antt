use Rattle.mq_trace.proofs.JoinedLaws.{items-are}
use Rattle.mq_trace.proofs.joined_laws.events_are_what_streams_hold.Goals as goal

pub returns : goal.returns
returns c = items-are
