use Rattle.mq_rules.proofs.HistoryLaws.{left-received}
use Rattle.mq_rules.proofs.history.History.is_left_by.Goals as goal

pub returns-else-self-3 : goal.returns-else-self-3
returns-else-self-3 c = left-received c.args.self.now c.args.bare c.fields_change_session.result c.if-self-2.true c.if-self-3.false c.in-Recv.is c.fields_change_session.ensures
