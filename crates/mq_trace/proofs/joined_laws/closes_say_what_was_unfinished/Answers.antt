use Rattle.std.proofs.Common.{ap}
use Rattle.mq_log.specs.Events.{UnfinishedPackets}
use Rattle.mq_trace.proofs.UnfinishedLaws.{close-is}
use Rattle.mq_trace.proofs.joined_laws.closes_say_what_was_unfinished.Goals as goal

pub returns-clause-sent : goal.returns-clause-sent
returns-clause-sent c = λ log byte unfinished is. ap (λ (u : UnfinishedPackets). u.sent) (close-is log byte unfinished is)

pub returns-clause-received : goal.returns-clause-received
returns-clause-received c = λ log byte unfinished is. ap (λ (u : UnfinishedPackets). u.received) (close-is log byte unfinished is)
