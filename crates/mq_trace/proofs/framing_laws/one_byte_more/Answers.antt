use Rattle.mq_log.proofs.Exports.{context-grow, events-kept}
use Rattle.mq_trace.proofs.framing_laws.one_byte_more.Goals as goal

pub returns-clause-kept : goal.returns-clause-kept
returns-clause-kept c = context-grow

pub returns-clause-events : goal.returns-clause-events
returns-clause-events c = events-kept
