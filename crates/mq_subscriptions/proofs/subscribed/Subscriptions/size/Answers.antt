use Rattle.std.proofs.Common.{◌≤◌, arith}
use Rattle.std.specs.List.{sum_by}
use Rattle.std.specs.Set.{distinct_count}
use Rattle.mq_rules.specs.Connections.{session}
use Rattle.mq_subscriptions.specs.Burden.{at_least_one, asked_filters, subscribed_texts, subscribed_count, identified_texts, identified_count}
use Rattle.mq_subscriptions.specs.Matchings.{passing}
use Rattle.mq_subscriptions.specs.Subscribings.{set_of}
use Rattle.mq_subscriptions.proofs.MatchingSizeLaws.{set-named, set-identified, identified-within, asking-within}
use Rattle.mq_subscriptions.proofs.subscribed.Subscriptions.size.Goals as goal

pub returns-clause-bounded : goal.returns-clause-bounded
unfolding subscribed_count identified_count
returns-clause-bounded c = λ tested taken past kept.
    let s = c.args.self.now in
    let plain = c.size.ensures.different (subscribed_texts (session tested.role taken past)) (λ question f h. set-named (passing question) f (set_of s.settled) s.waiting.entries tested taken past kept h) in
    let under = identified-within s.settled.identified.entries c.sets_size.ensures.unique c.sets_size.ensures.different (identified_texts (session tested.role taken past))
    (λ i f h. set-identified i f (set_of s.settled) s.waiting.entries tested taken past kept h) in
    let waits = asking-within taken s.waiting.entries past c.waiting_size.ensures.unique kept.waiting_are in
    omega (arith, plain, under, waits)
