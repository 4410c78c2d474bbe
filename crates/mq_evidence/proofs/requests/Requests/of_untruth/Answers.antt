use Rattle.std.proofs.Common.{ap, sym, ◌∙◌}
use Rattle.mq_rules.specs.Notes.{sent_as, unsuback_in}
use Rattle.mq_evidence.specs.Requests.{count_of, first_unsubscribe}
use Rattle.mq_evidence.proofs.RequestLaws.{by_event, place_in, of_answer-is}
use Rattle.mq_evidence.proofs.requests.Requests.of_untruth.Goals as goal

pub returns-in-Some : goal.returns-in-Some
returns-in-Some c = λ s kept.
    of_answer-is count_of (λ i. first_unsubscribe i s.connection) (sent_as unsuback_in c.args.note.now) c.in-Some.i c.of.result (sym c.sent_unsuback.ensures ∙ c.in-Some.is)
    (c.of.ensures ∙ ap by_event (c.place_of.ensures ∙ ap place_in (c.get.ensures ∙ kept.unsubscribes_are c.in-Some.i)))
