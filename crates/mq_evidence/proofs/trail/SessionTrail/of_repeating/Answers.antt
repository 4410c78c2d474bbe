use Rattle.std.proofs.Common.{ap, sym, ◌∙◌, Some}
use Rattle.mq_rules.specs.Moments.{newest, latest}
use Rattle.mq_rules.specs.Connections.{connection}
use Rattle.mq_rules.specs.Under.{seen}
use Rattle.mq_rules.specs.Notes.{resend_of}
use Rattle.mq_rules.specs.Identifiers.{delivers}
use Rattle.mq_rules.specs.declared.evidence.Numbers.TheVariants.{Nothing}
use Rattle.mq_evidence.specs.Evidence.{it}
use Rattle.mq_evidence.specs.Stretches.{stretches}
use Rattle.mq_evidence.proofs.TrailLaws.{by-identifier}
use Rattle.mq_evidence.proofs.trail.SessionTrail.of_repeating.Goals as goal

pub returns-in-Some : goal.returns-in-Some
returns-in-Some c = λ tested at fate past trail.
    let n = c.args.note.now in
    let k = newest (seen at n) past in
    let s = stretches tested.role (Some fate) past in
    by-identifier (resend_of n) c.in-Some.i (λ i. it (latest (delivers i) (connection past))) c.of.result
    (sym c.resend.ensures ∙ c.in-Some.is)
    (c.of.ensures ∙ ap (λ o. record { because = o; numbers = Nothing }) (c.delivery.ensures s trail.senders_are))
