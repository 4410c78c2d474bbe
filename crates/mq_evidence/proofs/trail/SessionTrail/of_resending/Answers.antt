use Rattle.std.proofs.Common.{ap, sym, ◌∙◌, Some}
use Rattle.std.specs.Prelude.{option_map, cond, is_some}
use Rattle.mq_rules.specs.Words.{only}
use Rattle.mq_rules.specs.Moments.{newest, latest, position}
use Rattle.mq_rules.specs.Under.{seen}
use Rattle.mq_rules.specs.Notes.{resend_of, opener_of, closer_of}
use Rattle.mq_rules.specs.declared.evidence.Numbers.TheVariants.{Nothing}
use Rattle.mq_evidence.specs.Evidence.{it, end_of_sent, some_session, earliest, is_connack}
use Rattle.mq_evidence.specs.Stretches.{stretches, has_id}
use Rattle.mq_evidence.proofs.StretchLaws.{cond-position, only-position}
use Rattle.mq_evidence.proofs.TrailLaws.{by-identifier}
use Rattle.mq_evidence.proofs.trail.SessionTrail.of_resending.Goals as goal

pub returns-in-Some : goal.returns-in-Some
returns-in-Some c = λ tested at fate past trail.
    let n = c.args.note.now in
    let k = newest (seen at n) past in
    let s = stretches tested.role (Some fate) past in
    by-identifier (resend_of n) c.in-Some.i (λ i. it (end_of_sent tested.role fate i k)) c.of.result
    (sym c.resend.ensures ∙ c.in-Some.is)
    (c.of.ensures ∙ ap (λ o. record { because = o; numbers = Nothing }) (c.end_of_sent.ensures s trail.senders_are
    ∙ ap (λ o. cond (is_some (latest (has_id opener_of c.in-Some.i) s.session)) (option_map position (latest (has_id closer_of c.in-Some.i) s.session)) (only (some_session (has_id opener_of c.in-Some.i) s.earlier) o)) (c.connack.ensures tested.role s trail.begun_is)
    ∙ ap (λ o. cond (is_some (latest (has_id opener_of c.in-Some.i) s.session)) (option_map position (latest (has_id closer_of c.in-Some.i) s.session)) o) (sym (only-position (some_session (has_id opener_of c.in-Some.i) s.earlier) (earliest (is_connack tested.role) s.session)))
    ∙ sym (cond-position (is_some (latest (has_id opener_of c.in-Some.i) s.session)) (latest (has_id closer_of c.in-Some.i) s.session) (only (some_session (has_id opener_of c.in-Some.i) s.earlier) (earliest (is_connack tested.role) s.session)))))
