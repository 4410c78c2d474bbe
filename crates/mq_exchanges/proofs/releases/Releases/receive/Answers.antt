use Rattle.std.proofs.Common.{Some, None}
use Rattle.mq_exchanges.proofs.ReceivingLaws.{received-unseen}
use Rattle.mq_exchanges.proofs.releases.Releases.receive.Goals as goal

pub returns : goal.returns
returns c = λ e tested taken past m does follows known u.
    received-unseen tested c.args.self.now c.take.new.self taken e past m (Some c.args.i) None None does follows known u c.in_ok-take.ensures
