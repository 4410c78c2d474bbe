-- What is read can be written again.
use Rattle.mq_packet.proofs.ShortFormLaws.{read_valid, read_fits, read_same, read_written, read_again}
use Rattle.mq_packet.proofs.spelling_laws.what_is_read_is_written.Goals as goal

pub returns-clause-valid : goal.returns-clause-valid
returns-clause-valid c = read_valid

pub returns-clause-fits : goal.returns-clause-fits
returns-clause-fits c = read_fits

pub returns-clause-same : goal.returns-clause-same
returns-clause-same c = read_same

pub returns-clause-short : goal.returns-clause-short
returns-clause-short c = read_written

pub returns-clause-again : goal.returns-clause-again
returns-clause-again c = read_again
