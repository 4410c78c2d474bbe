use Rattle.mq_trace.proofs.SplitLaws.{split_sent, split_received}
use Rattle.mq_trace.proofs.splitting_laws.splitting_changes_record_numbers_alone.Goals as goal

pub returns-clause-sent : goal.returns-clause-sent
returns-clause-sent c = λ before after a b long whole fits. split_sent before after a b long whole fits

pub returns-clause-received : goal.returns-clause-received
returns-clause-received c = λ before after a b long whole fits. split_received before after a b long whole fits
