use Rattle.std.proofs.Common.{ap, sym, ◌∙◌}
use Rattle.std.specs.Prelude.{option_map}
use Rattle.mq_rules.specs.Notes.{sent_publish}
use Rattle.mq_rules.specs.declared.evidence.Numbers.TheVariants.{Nothing}
use Rattle.mq_evidence.proofs.MatchingLaws.{matching-none, matching-is}
use Rattle.mq_evidence.proofs.matching.Matching.of_delivering.Goals as goal

pub returns-in-Some : goal.returns-in-Some
returns-in-Some c = λ role f k kept same.
    c.of.ensures
    ∙ ap (λ o. record { because = o; numbers = Nothing }) (c.last_request.ensures role f k kept)
    ∙ sym (matching-is role f k c.in-Some.publish.now (ap sent_publish same ∙ sym c.sent_publish.ensures ∙ ap (option_map (λ publish. publish.now)) c.in-Some.is))

pub returns-in-None : goal.returns-in-None
returns-in-None c = λ role f k kept same. c.nothing.ensures ∙ sym (matching-none role f k (ap sent_publish same ∙ sym c.sent_publish.ensures ∙ ap (option_map (λ publish. publish.now)) c.in-None.is))
