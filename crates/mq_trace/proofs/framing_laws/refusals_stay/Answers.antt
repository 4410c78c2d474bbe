use Rattle.mq_log.proofs.Exports.{refused-stays}
use Rattle.mq_trace.proofs.framing_laws.refusals_stay.Goals as goal

pub returns : goal.returns
returns c = refused-stays
