use Rattle.std.specs.BTreeSet.{contains}
use Rattle.std.specs.Ordering.{nat_cmp}
use Rattle.mq_connections.proofs.JudgeLaws.{no_publish}
use Rattle.mq_connections.proofs.conn.Conn.judge_publish.Goals as goal

pub returns-in_default-clause-ok : goal.returns-in_default-clause-ok
returns-in_default-clause-ok c = rw c.in_default.is (no_publish c.args.self.now.role c.args.self.now.state (contains nat_cmp c.args.self.now.aliases) c.args.place c.args.faults.now)
