use Rattle.std.proofs.Common.{ap, sym, ◌∙◌}
use Rattle.std.specs.Prelude.{option_map}
use Rattle.mq_rules.specs.Notes.{sent_publish}
use Rattle.mq_evidence.proofs.TopicLaws.{exceeding-none}
use Rattle.mq_evidence.proofs.subscriptions.Subscriptions.of_exceeding.Goals as goal

pub returns-in_default : goal.returns-in_default
returns-in_default c = λ role f k kept same. c.nothing.ensures ∙ sym (exceeding-none role f k (ap sent_publish same ∙ sym c.sent_publish.ensures ∙ ap (option_map (λ publish. publish.now)) c.in_default.is))

pub returns : goal.returns
returns c = λ role f k kept same. c.in_ok-evidence.ensures role f k kept (ap sent_publish same ∙ sym c.sent_publish.ensures ∙ ap (option_map (λ publish. publish.now)) c.in-Some.is)
