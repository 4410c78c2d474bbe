use Rattle.mq_rules.proofs.TableLaws.{find-view}
use Rattle.mq_rules.proofs.table.found_in.Goals as goal

pub returns : goal.returns
returns c = rw c.found.ensures (find-view c.args.rule c.args.table.now)
