use Rattle.std.proofs.Common.{ap, sym, ◌∙◌, Some}
use Rattle.mq_rules.specs.Moments.{newest, latest}
use Rattle.mq_rules.specs.Under.{seen}
use Rattle.mq_rules.specs.Notes.{resend_of}
use Rattle.mq_rules.specs.Identifiers.{sends_pubrel, session_before}
use Rattle.mq_rules.specs.declared.evidence.Numbers.TheVariants.{Nothing}
use Rattle.mq_evidence.specs.Evidence.{it}
use Rattle.mq_evidence.specs.Stretches.{stretches}
use Rattle.mq_evidence.proofs.TrailLaws.{by-identifier}
use Rattle.mq_evidence.proofs.trail.SessionTrail.of_receding.Goals as goal

pub returns-in-Some : goal.returns-in-Some
returns-in-Some c = λ tested at fate past trail.
    let n = c.args.note.now in
    let k = newest (seen at n) past in
    let s = stretches tested.role (Some fate) past in
    by-identifier (resend_of n) c.in-Some.i (λ i. it (latest (sends_pubrel i) (session_before tested.role fate k))) c.of.result
    (sym c.resend.ensures ∙ c.in-Some.is)
    (c.of.ensures ∙ ap (λ o. record { because = o; numbers = Nothing }) (c.pubrel.ensures s trail.senders_are))
