use Rattle.std.proofs.Common.{subst, List}
use Rattle.mq_subscriptions.specs.Standings.{Waits}
use Rattle.mq_subscriptions.proofs.AwaitedLaws.{TakesAny, TakesSum, answered-taken, answered-left, answered-sums}
use Rattle.mq_subscriptions.proofs.awaited.Awaited.answer.Goals as goal

pub returns-clause-taken : goal.returns-clause-taken
returns-clause-taken c = answered-taken c.args.identifier c.take.result c.args.self.now c.take.new.requests.entries
    (subst (λ (old : List Waits). TakesAny c.args.identifier c.take.result old c.take.new.requests.entries) c.self.view_is c.take.ensures.any) c.take.ensures.apart

pub returns-clause-left : goal.returns-clause-left
returns-clause-left c = answered-left c.args.identifier c.take.result c.args.self.now c.take.new.requests.entries
    (subst (λ (old : List Waits). TakesAny c.args.identifier c.take.result old c.take.new.requests.entries) c.self.view_is c.take.ensures.any) c.take.ensures.apart

pub returns-clause-sums : goal.returns-clause-sums
returns-clause-sums c = answered-sums c.args.identifier c.take.result c.args.self.now c.take.new.requests.entries
    (subst (λ (old : List Waits). TakesSum c.args.identifier c.take.result old c.take.new.requests.entries) c.self.view_is c.take.ensures.sums) c.take.ensures.apart
