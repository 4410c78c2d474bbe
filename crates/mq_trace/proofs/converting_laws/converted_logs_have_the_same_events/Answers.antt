use Rattle.mq_trace.proofs.ConvertingLaws.{converted_same}
use Rattle.mq_trace.proofs.converting_laws.converted_logs_have_the_same_events.Goals as goal

pub returns : goal.returns
returns c = converted_same
