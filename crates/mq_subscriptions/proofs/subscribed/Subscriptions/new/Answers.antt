use Rattle.mq_subscriptions.specs.Subscribings.{set_of}
use Rattle.mq_subscriptions.proofs.MatchingLaws.{none-kept, none-weighs}
use Rattle.mq_subscriptions.proofs.subscribed.Subscriptions.new.Goals as goal

pub returns-clause-weightless : goal.returns-clause-weightless
returns-clause-weightless c = none-weighs c.new.result c.new-2.result.entries c.new.ensures.none c.new.ensures.empty c.new-2.ensures.empty

pub returns-clause-kept : goal.returns-clause-kept
returns-clause-kept c = λ tested taken. none-kept (set_of c.new.result) c.new-2.result.entries tested taken c.new.ensures.none c.new-2.ensures.empty
