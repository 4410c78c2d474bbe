use Rattle.mq_connections.proofs.ClocksLaws.{clocks-start}
use Rattle.mq_connections.proofs.clocks.Clocks.new.Goals as goal

pub returns : goal.returns
returns c = rw c.new.ensures (clocks-start c.args.tested)
