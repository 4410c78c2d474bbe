use Rattle.std.proofs.Common.{ap, sym, ◌∙◌, Some}
use Rattle.std.specs.Prelude.{option_map, cond}
use Rattle.mq_rules.specs.Words.{only}
use Rattle.mq_rules.specs.Moments.{newest, latest, position, some}
use Rattle.mq_rules.specs.Under.{seen}
use Rattle.mq_rules.specs.Notes.{released_id, received_exactly_once, sent_as, ended_in}
use Rattle.mq_rules.specs.declared.evidence.Numbers.TheVariants.{Nothing}
use Rattle.mq_evidence.specs.Evidence.{it, end_of_received, some_session}
use Rattle.mq_evidence.specs.Stretches.{stretches, has_id}
use Rattle.mq_evidence.proofs.ReasonLaws.{received-is}
use Rattle.mq_evidence.proofs.TrailLaws.{by-identifier}
use Rattle.mq_evidence.proofs.trail.SessionTrail.of_releasing.Goals as goal

pub returns-in-Some : goal.returns-in-Some
returns-in-Some c = λ tested at fate past trail.
    let n = c.args.note.now in
    let k = newest (seen at n) past in
    let s = stretches tested.role (Some fate) past in
    let i = c.in-Some.i in
    by-identifier (released_id n) i (λ i. it (end_of_received tested.role fate i k)) c.of.result
    (sym c.released_identifier.ensures ∙ c.in-Some.is)
    (c.of.ensures ∙ ap (λ o. record { because = o; numbers = Nothing }) (c.end_of_received.ensures s trail.received_are
    ∙ ap (λ o. cond (some (has_id received_exactly_once i) s.session) (option_map position (latest (has_id (sent_as ended_in) i) s.session)) (only (some_session (has_id received_exactly_once i) s.earlier) o)) (c.connack.ensures tested.role s trail.begun_is)
    ∙ sym (received-is tested.role fate i k)))
