use Rattle.std.proofs.Common.{ap, sym, ◌∙◌, Some}
use Rattle.mq_rules.specs.Moments.{newest, latest}
use Rattle.mq_rules.specs.Under.{seen}
use Rattle.mq_rules.specs.Notes.{released_id}
use Rattle.mq_rules.specs.Identifiers.{session_before}
use Rattle.mq_rules.specs.Releases.{releases_message}
use Rattle.mq_rules.specs.declared.evidence.Numbers.TheVariants.{Nothing}
use Rattle.mq_evidence.specs.Evidence.{it}
use Rattle.mq_evidence.specs.Stretches.{stretches}
use Rattle.mq_evidence.proofs.TrailLaws.{by-identifier}
use Rattle.mq_evidence.proofs.trail.SessionTrail.of_releasing_again.Goals as goal

pub returns-in-Some : goal.returns-in-Some
returns-in-Some c = λ tested at fate past trail.
    let n = c.args.note.now in
    let k = newest (seen at n) past in
    by-identifier (released_id n) c.in-Some.i (λ i. it (latest (releases_message i) (session_before tested.role fate k))) c.of.result
    (sym c.released_identifier.ensures ∙ c.in-Some.is)
    (c.of.ensures ∙ ap (λ o. record { because = o; numbers = Nothing }) (c.release.ensures (stretches tested.role (Some fate) past) trail.received_are))
