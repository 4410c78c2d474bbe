use Rattle.std.proofs.Common.{sym}
use Rattle.mq_subscriptions.proofs.deletions.DeletionsFated.fated.Goals as goal

pub returns-clause-agrees : goal.returns-clause-agrees
returns-clause-agrees g c = rw (sym c.as_ref-event.ensures) c.take_event.ensures.agrees

pub returns-clause-grows : goal.returns-clause-grows
returns-clause-grows g c = rw (sym c.as_ref-event.ensures) c.take_event.ensures.grows

pub returns-clause-memory : goal.returns-clause-memory
returns-clause-memory g c = rw (sym c.as_ref-event.ensures) c.take_event.ensures.memory
