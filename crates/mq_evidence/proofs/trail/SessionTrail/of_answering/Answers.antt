use Rattle.std.proofs.Common.{ap, sym, ◌∙◌, Some}
use Rattle.std.specs.Prelude.{option_map}
use Rattle.std.specs.Option.{option_or}
use Rattle.mq_rules.specs.Words.{only}
use Rattle.mq_rules.specs.Moments.{newest, latest, position, some}
use Rattle.mq_rules.specs.Under.{seen}
use Rattle.mq_rules.specs.declared.evidence.Numbers.TheVariants.{Nothing}
use Rattle.mq_evidence.specs.Exchange.{exchange_of}
use Rattle.mq_evidence.specs.Evidence.{it, end_of_asked, some_session}
use Rattle.mq_evidence.specs.Stretches.{stretches, has_id}
use Rattle.mq_evidence.proofs.ReasonLaws.{asked-is}
use Rattle.mq_evidence.proofs.TrailLaws.{by-identifier}
use Rattle.mq_evidence.proofs.trail.SessionTrail.of_answering.Goals as goal

pub returns-in-Some : goal.returns-in-Some
returns-in-Some c = λ tested at fate past trail asked.
    let n = c.args.note.now in
    let k = newest (seen at n) past in
    let s = stretches tested.role (Some fate) past in
    let x = exchange_of c.args.exchange in
    by-identifier (x.answer n) c.in-Some.i (λ i. it (end_of_asked x tested.role fate i k)) c.of.result
    (sym c.answer.ensures ∙ c.in-Some.is)
    (c.of.ensures ∙ ap (λ o. record { because = o; numbers = Nothing }) (c.end_of_asked.ensures x s asked
    ∙ ap (λ o. option_or (option_map position (only (some (has_id x.cause c.in-Some.i) s.session) (latest (has_id x.answer c.in-Some.i) s.connection))) (only (some_session (has_id x.cause c.in-Some.i) s.earlier) o)) (c.connack.ensures tested.role s trail.begun_is)
    ∙ sym (asked-is tested.role fate c.in-Some.i k x)))
