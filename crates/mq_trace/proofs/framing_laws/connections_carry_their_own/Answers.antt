use Rattle.mq_log.proofs.Exports.{carried-own}
use Rattle.mq_trace.proofs.framing_laws.connections_carry_their_own.Goals as goal

pub returns : goal.returns
returns c = carried-own
