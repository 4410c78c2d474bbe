use Rattle.std.proofs.Common.{arith}
use Rattle.mq_rules.specs.declared.rule.Rule.TheVariants.{E1R, E2R, E3R, E4R}
use Rattle.mq_rules.specs.Connections.{latest_fate}
use Rattle.mq_rules.specs.Exchanges.{publish_puback, publish_pubrec, pubrec_pubrel, pubrel_pubcomp, subscribe_suback, unsubscribe_unsuback}
use Rattle.mq_fates.specs.Holding.{settled}
use Rattle.mq_exchanges.specs.Burden.{caused_ids}
use Rattle.mq_watchers.specs.Burden.{burden}
use Rattle.mq_subscriptions.proofs.Exports.{unanswered-within}
use Rattle.mq_watchers.proofs.BurdenLaws.{bindings, bound-counted, requests-within, aliased-within, aliases-once}
use Rattle.mq_watchers.proofs.watchers.plain.PlainWatchersWatch.weight.Goals as goal

pub returns-clause-bounded : goal.returns-clause-bounded
unfolding burden
returns-clause-bounded c = λ tested taken past h.
    let role = tested.role in
    let base = settled role past in
    let fate = latest_fate role base in
    let binds = bindings role in
    let parts = c.weight.ensures.bounded tested taken past h in
    let puback = bound-counted E1R role (caused_ids publish_puback role fate base) binds.puback in
    let pubrec = bound-counted E2R role (caused_ids publish_pubrec role fate base) binds.pubrec in
    let pubrel = bound-counted E3R role (caused_ids pubrec_pubrel role fate base) binds.pubrel in
    let pubcomp = bound-counted E4R role (caused_ids pubrel_pubcomp role fate base) binds.pubcomp in
    let requests = requests-within role (caused_ids subscribe_suback role fate base) (caused_ids unsubscribe_unsuback role fate base) in
    let subscribes = unanswered-within base in
    let topics = aliased-within base in
    let once = aliases-once role past in
    omega (arith, parts, puback, pubrec, pubrel, pubcomp, requests, subscribes, topics, once)
