use Rattle.mq_connections.proofs.DutiesLaws.{counts-start}
use Rattle.mq_connections.proofs.duties.CountingDuties.new.Goals as goal

pub returns : goal.returns
returns c = (c.new.ensures, rw c.none.ensures (counts-start c.args.tested))
