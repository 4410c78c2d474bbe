use Rattle.std.proofs.Common.{◌≡◌, None, Some, ap, sym, ◌∙◌}
use Rattle.std.specs.Prelude.{option_map}
use Rattle.mq_rules.specs.Moments.{position}
use Rattle.mq_rules.specs.Notes.{qos_number}
use Rattle.mq_rules.specs.Subscriptions.{topic_of}
use Rattle.mq_evidence.specs.Evidence.{two_of, last_matching}
use Rattle.mq_evidence.specs.Stretches.{stretches_before}
use Rattle.mq_evidence.proofs.TopicLaws.{exceeding-untold, exceeding-is}
use Rattle.mq_evidence.proofs.subscriptions.Subscriptions.of_exceeding_publish.Goals as goal

pub returns-in_default : goal.returns-in_default
returns-in_default c = λ role f k kept sent.
    let none : topic_of k c.args.publish.now ≡ None = sym (c.topic.ensures (stretches_before role f k) kept.topics_are) ∙ ap (option_map (λ topic. topic.now)) c.in_default.is in
    c.nothing.ensures ∙ sym (exceeding-untold role f k c.args.publish.now sent none)

pub returns : goal.returns
returns c = λ role f k kept sent.
    let is : topic_of k c.args.publish.now ≡ Some c.in-Some.topic.now = sym (c.topic.ensures (stretches_before role f k) kept.topics_are) ∙ ap (option_map (λ topic. topic.now)) c.in-Some.is in
    ap (λ b. record { because = b; numbers = c.numbers_of-numbers.result }) (c.last_request-because.ensures role f k kept.ceilings_are)
    ∙ ap (λ n. record { because = option_map position (last_matching role f c.in-Some.topic.now k); numbers = n }) (c.numbers_of-numbers.ensures ∙ ap (two_of (Some (qos_number c.args.publish.now.qos))) (c.in_ok-ceiling.ensures role f k kept.ceilings_are))
    ∙ sym (exceeding-is role f k c.args.publish.now c.in-Some.topic.now sent is)
