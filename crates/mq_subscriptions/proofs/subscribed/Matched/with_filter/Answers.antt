use Rattle.mq_rules.specs.Subscriptions.{requested}
use Rattle.mq_subscriptions.proofs.MatchingLaws.{said-more, said-same}
use Rattle.mq_subscriptions.proofs.subscribed.Matched.with_filter.Goals as goal

pub returns-then-not-is_about : goal.returns-then-not-is_about
returns-then-not-is_about c = said-same c.args.self c.args.filter.now c.as_str.result.now c.args.topic.now c.args.identifier c.is_about.result c.as_str.ensures c.is_about.ensures c.if-not-is_about.true

pub returns : goal.returns
returns c =
    said-more c.args.self _ c.args.filter.now c.as_str.result.now c.args.topic.now c.args.identifier c.is_none-unidentified.result c.may_be_retained-retained.result c.asks_in_vain-in_vain.result c.is_about.result c.as_str.ensures c.is_about.ensures
    c.if-not-is_about.false c.is_none-unidentified.ensures (c.may_be_retained-retained.ensures c.args.identifier (requested c.args.filter.now)) (c.asks_in_vain-in_vain.ensures c.args.identifier (requested c.args.filter.now))
    c.higher.ensures c.either.ensures c.either-2.ensures c.either-3.ensures
