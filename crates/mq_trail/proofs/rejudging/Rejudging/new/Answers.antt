use Rattle.mq_trail.proofs.RejudgingLaws.{found-nothing}
use Rattle.mq_trail.proofs.rejudging.Rejudging.new.Goals as goal

pub returns : goal.returns
returns c = (c.new.ensures.agrees, found-nothing c.args.tested c.new-2.result c.new-2.ensures)
