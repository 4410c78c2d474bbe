use Rattle.mq_trace.proofs.CopyLaws.{copy_nothing}
use Rattle.mq_trace.proofs.converting.Copying.new.Goals as goal

pub returns-clause-copy : goal.returns-clause-copy
returns-clause-copy c = copy_nothing
