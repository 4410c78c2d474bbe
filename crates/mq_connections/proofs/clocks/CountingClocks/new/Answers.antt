use Rattle.mq_connections.proofs.ClocksLaws.{counts-start}
use Rattle.mq_connections.proofs.clocks.CountingClocks.new.Goals as goal

pub returns : goal.returns
returns c = (c.new.ensures, rw c.none.ensures (counts-start c.args.tested))
