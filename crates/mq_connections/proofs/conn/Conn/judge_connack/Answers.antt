use Rattle.mq_connections.proofs.JudgeLaws.{no_connack}
use Rattle.mq_connections.proofs.conn.Conn.judge_connack.Goals as goal

pub returns-in_default-clause-ok : goal.returns-in_default-clause-ok
returns-in_default-clause-ok c = rw c.in_default.is (no_connack c.args.self.now.role c.args.self.now.state c.args.place c.args.faults.now)
