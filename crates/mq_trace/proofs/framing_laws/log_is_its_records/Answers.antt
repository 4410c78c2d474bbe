use Rattle.std.proofs.Common.{drop}
use Rattle.mq_log.specs.Framing.{record_size, records, ahead_in}
use Rattle.mq_log.proofs.Exports.{pieces-cut, pieces-only}
use Rattle.mq_log.proofs.Exports.{cuts}
use Rattle.mq_trace.proofs.framing_laws.log_is_its_records.Goals as goal

pub returns-clause-cut : goal.returns-clause-cut
unfolding records
returns-clause-cut c = λ log. pieces-cut (record_size (ahead_in log)) (cuts log) (drop 8 log)

pub returns-clause-only : goal.returns-clause-only
unfolding records
returns-clause-only c = λ log cut is. pieces-only (record_size (ahead_in log)) (cuts log) (drop 8 log) cut is
