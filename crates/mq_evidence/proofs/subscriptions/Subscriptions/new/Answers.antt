use Rattle.std.proofs.Common.{[]}
use Rattle.mq_evidence.proofs.subscriptions.Subscriptions.new.Goals as goal

pub returns : goal.returns
returns c = record { subscribed_are = c.new.ensures []; topics_are = c.new-2.ensures; ceilings_are = c.new-3.ensures [] }
