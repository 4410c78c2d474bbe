use Rattle.std.proofs.Common.{ap, sym, ◌∙◌, Some}
use Rattle.mq_rules.specs.Moments.{newest}
use Rattle.mq_rules.specs.Under.{seen}
use Rattle.mq_rules.specs.Identifiers.{taken_by}
use Rattle.mq_rules.specs.declared.evidence.Numbers.TheVariants.{Nothing}
use Rattle.mq_evidence.specs.Evidence.{it, holder}
use Rattle.mq_evidence.specs.Stretches.{stretches}
use Rattle.mq_evidence.proofs.TrailLaws.{by-identifier}
use Rattle.mq_evidence.proofs.trail.SessionTrail.of_taking.Goals as goal

pub returns-in-Some : goal.returns-in-Some
returns-in-Some c = λ tested at fate past trail.
    let n = c.args.note.now in
    let k = newest (seen at n) past in
    let s = stretches tested.role (Some fate) past in
    by-identifier (taken_by tested.role n) c.in-Some.i (λ i. it (holder tested.role fate i k)) c.of.result
    (sym (ap (λ r. taken_by r n) trail.same_role) ∙ sym c.taken_identifier.ensures ∙ c.in-Some.is)
    (c.of.ensures ∙ ap (λ o. record { because = o; numbers = Nothing }) (c.holder.ensures s trail.senders_are))
