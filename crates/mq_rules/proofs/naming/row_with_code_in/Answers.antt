use Rattle.mq_rules.proofs.NamingLaws.{find-coded}
use Rattle.mq_rules.proofs.naming.row_with_code_in.Goals as goal

pub returns : goal.returns
returns c = rw c.row_with_code.ensures (find-coded c.args.code.now c.args.table.now)
