use Rattle.mq_props.proofs.Finding.{find-view}
use Rattle.mq_props.proofs.table.found_in.Goals as goal

pub returns : goal.returns
returns c = rw c.found.ensures (find-view c.args.id c.args.table.now)
