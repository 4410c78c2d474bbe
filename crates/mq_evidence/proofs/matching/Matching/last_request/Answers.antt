use Rattle.std.proofs.Common.{◌≡◌, List, ℕ, Option, Some, None, ap, sym, ◌∙◌}
use Rattle.std.specs.Prelude.{option_map}
use Rattle.std.specs.Option.{option_and_then}
use Rattle.mq_topic.specs.Matching.{matches}
use Rattle.mq_rules.specs.Moments.{position}
use Rattle.mq_rules.specs.Identifiers.{session_before}
use Rattle.mq_rules.specs.Subscriptions.{topic_of}
use Rattle.mq_rules.proofs.Exports.{session-descend}
use Rattle.mq_evidence.specs.Evidence.{last_asking}
use Rattle.mq_evidence.specs.Stretches.{stretches_before}
use Rattle.mq_evidence.proofs.MatchingLaws.{last-asked}
use Rattle.mq_evidence.proofs.matching.Matching.last_request.Goals as goal

pub returns-in-Some : goal.returns-in-Some
returns-in-Some c = λ role f k kept.
    let topic = c.in-Some.topic.now in
    let is : topic_of k c.args.publish.now ≡ Some topic = sym (c.topic.ensures (stretches_before role f k) kept.topics_are) ∙ ap (option_map (λ topic. topic.now)) c.in-Some.is in
    last-asked topic (session_before role f k) c.last_for.result (session-descend role (Some f) k.past) (λ q. c.last_for.ensures q ∙ kept.requests_are (λ filter. matches filter topic) q)
    ∙ sym (ap (λ o. option_map position (option_and_then (λ topic. last_asking role f topic k) o)) is)

pub returns-in-None : goal.returns-in-None
returns-in-None c = λ role f k kept.
    let none : topic_of k c.args.publish.now ≡ None = sym (c.topic.ensures (stretches_before role f k) kept.topics_are) ∙ ap (option_map (λ topic. topic.now)) c.in-None.is in
    sym (ap (λ o. option_map position (option_and_then (λ topic. last_asking role f topic k) o)) none)
