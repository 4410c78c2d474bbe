use Rattle.std.proofs.lemmas.Nat.{from_be_bytes-to_be_bytes_2}
use Rattle.mq_trace.proofs.ReadBackLaws.{size_read_back, kind_read_back, body_read_back, moment_read_back}
use Rattle.mq_trace.proofs.writer.laws.records_are_read_back.Goals as goal

pub returns-clause-size : goal.returns-clause-size
returns-clause-size c = size_read_back

pub returns-clause-kind : goal.returns-clause-kind
returns-clause-kind c = kind_read_back

pub returns-clause-body : goal.returns-clause-body
returns-clause-body c = body_read_back

pub returns-clause-moment : goal.returns-clause-moment
returns-clause-moment c = moment_read_back

pub returns-clause-identifier : goal.returns-clause-identifier
returns-clause-identifier c = λ identifier fits. from_be_bytes-to_be_bytes_2 identifier fits
