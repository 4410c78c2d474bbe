use Rattle.std.proofs.Common.{sym}
use Rattle.mq_fates.proofs.SelectingLaws.{received-unsubscribing}
use Rattle.mq_fates.proofs.taken.delivering.bare_may_concern_subscriptions.Goals as goal

pub returns-in-Recv : goal.returns-in-Recv
returns-in-Recv c = sym (received-unsubscribing c.args.bound c.args.bare c.in-Recv.is)
