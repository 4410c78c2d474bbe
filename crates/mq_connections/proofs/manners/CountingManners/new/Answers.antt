use Rattle.mq_connections.proofs.MannersLaws.{counts-start}
use Rattle.mq_connections.proofs.manners.CountingManners.new.Goals as goal

pub returns : goal.returns
returns c = (c.new.ensures, rw c.none.ensures (counts-start c.args.tested))
