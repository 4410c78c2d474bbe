use Rattle.std.proofs.Common.{◌∙◌, ap, List, ℕ, Bor, Option, option_map, sym}
use Rattle.mq_rules.specs.Words.{is_some_and}
use Rattle.mq_subscriptions.specs.Standings.{is_unasked, is_above}
use Rattle.mq_subscriptions.proofs.FilterLaws.{found-unasked, found-above}
use Rattle.mq_subscriptions.proofs.subs.judge.Goals as goal

pub returns-in_ok-ceiling-in-Some-clause-unasked :
    goal.returns-in_ok-ceiling-in-Some-clause-unasked
returns-in_ok-ceiling-in-Some-clause-unasked c =
    let f = c.args.filters.now in
    c.broken_by.ensures.unasked
    ∙ found-unasked f.settled f.waiting c.in-Some.topic.now c.in_ok-ceiling-in-Some.ceiling c.in_ok-ceiling-in-Some.ensures.greatest
    ∙ ap (λ (o : Option (Bor (List ℕ))). is_some_and (is_unasked f.settled f.waiting) (option_map (λ t. t.now) o)) (sym c.in-Some.is)

pub returns-in_ok-ceiling-in-Some-clause-above : goal.returns-in_ok-ceiling-in-Some-clause-above
returns-in_ok-ceiling-in-Some-clause-above c =
    let f = c.args.filters.now in
    c.broken_by.ensures.above
    ∙ found-above f.settled f.waiting c.args.qos c.in-Some.topic.now c.in_ok-ceiling-in-Some.ceiling c.in_ok-ceiling-in-Some.ensures.greatest
    ∙ ap (λ (o : Option (Bor (List ℕ))). is_some_and (is_above f.settled f.waiting c.args.qos) (option_map (λ t. t.now) o)) (sym c.in-Some.is)
