use Rattle.std.proofs.Common.{ap, sym, ◌∙◌, Some}
use Rattle.std.specs.Prelude.{option_map}
use Rattle.std.specs.Option.{option_or}
use Rattle.mq_rules.specs.Words.{only}
use Rattle.mq_rules.specs.Moments.{newest, latest, position, some}
use Rattle.mq_rules.specs.Under.{seen}
use Rattle.mq_rules.specs.Notes.{received_as, sent_as}
use Rattle.mq_rules.specs.Exchanges.{pubrec_pubrel}
use Rattle.mq_rules.specs.declared.evidence.Numbers.TheVariants.{Nothing}
use Rattle.mq_evidence.specs.Evidence.{it, end_of_confirmed, refusing_pubrec_in, some_session, later}
use Rattle.mq_evidence.specs.Stretches.{stretches, has_id}
use Rattle.mq_evidence.proofs.ReasonLaws.{confirmed-is}
use Rattle.mq_evidence.proofs.TrailLaws.{by-identifier}
use Rattle.mq_rules.specs.Notes.{pubrel_in}
use Rattle.mq_evidence.proofs.trail.SessionTrail.of_confirming.Goals as goal

pub returns-in-Some : goal.returns-in-Some
returns-in-Some c = λ tested at fate past trail.
    let n = c.args.note.now in
    let k = newest (seen at n) past in
    let s = stretches tested.role (Some fate) past in
    let i = c.in-Some.i in
    by-identifier (sent_as pubrel_in n) i (λ i. it (end_of_confirmed tested.role fate i k)) c.of.result
    (sym c.sent_pubrel.ensures ∙ c.in-Some.is)
    (c.of.ensures ∙ ap (λ o. record { because = o; numbers = Nothing }) (c.end_of_confirmed.ensures s trail.answering_are.pubrels_are
    ∙ ap (λ o. option_or (option_map position (later (latest (has_id (received_as refusing_pubrec_in) i) s.session) (only (some (has_id pubrec_pubrel.cause i) s.session) (latest (has_id pubrec_pubrel.answer i) s.connection)))) (only (some_session (has_id pubrec_pubrel.cause i) s.earlier) o)) (c.connack.ensures tested.role s trail.begun_is)
    ∙ sym (confirmed-is tested.role fate i k)))
