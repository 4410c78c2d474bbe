use Rattle.std.proofs.Common.{ap, sym, ◌∙◌, Some}
use Rattle.mq_rules.specs.Moments.{newest}
use Rattle.mq_rules.specs.Under.{seen}
use Rattle.mq_rules.specs.Notes.{sent_as, success_pubcomp_in}
use Rattle.mq_rules.specs.Releases.{first_brought}
use Rattle.mq_rules.specs.declared.evidence.Numbers.TheVariants.{Nothing}
use Rattle.mq_evidence.specs.Evidence.{it}
use Rattle.mq_evidence.specs.Stretches.{stretches}
use Rattle.mq_evidence.proofs.TrailLaws.{by-identifier}
use Rattle.mq_evidence.proofs.trail.SessionTrail.of_completing.Goals as goal

pub returns-in-Some : goal.returns-in-Some
returns-in-Some c = λ tested at fate past trail.
    let n = c.args.note.now in
    let k = newest (seen at n) past in
    by-identifier (sent_as success_pubcomp_in n) c.in-Some.i (λ i. it (first_brought tested.role fate i k)) c.of.result
    (sym c.sent_success_pubcomp.ensures ∙ c.in-Some.is)
    (c.of.ensures ∙ ap (λ o. record { because = o; numbers = Nothing }) (c.first_brought.ensures (stretches tested.role (Some fate) past) trail.received_are))
