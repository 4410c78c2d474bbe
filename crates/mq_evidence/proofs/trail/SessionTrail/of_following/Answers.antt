use Rattle.std.proofs.Common.{sym, ◌∙◌, Some}
use Rattle.std.specs.Prelude.{option_map}
use Rattle.std.specs.Option.{option_and_then}
use Rattle.mq_rules.specs.Moments.{newest, position}
use Rattle.mq_rules.specs.Under.{seen}
use Rattle.mq_rules.specs.Notes.{resend_of}
use Rattle.mq_rules.specs.Identifiers.{latest_opener}
use Rattle.mq_evidence.specs.Evidence.{it_with, two_of, first_overtaking, first_sent_at}
use Rattle.mq_evidence.specs.Stretches.{stretches}
use Rattle.mq_evidence.proofs.TrailLaws.{by-identifier}
use Rattle.mq_evidence.proofs.trail.SessionTrail.of_following.Goals as goal

pub returns-in-Some : goal.returns-in-Some
returns-in-Some c = λ tested at fate past trail.
    let n = c.args.note.now in
    let k = newest (seen at n) past in
    by-identifier (resend_of n) c.in-Some.i
    (λ i. it_with (first_overtaking tested.role fate i k) (two_of (option_and_then (first_sent_at tested.role fate) (first_overtaking tested.role fate i k)) (option_map position (latest_opener tested.role fate i k)))) c.evidence.result
    (sym c.resend.ensures ∙ c.in-Some.is)
    (c.evidence.ensures tested.role fate c.in-Some.i k trail.overtaking_is (c.opener.ensures (stretches tested.role (Some fate) past) trail.senders_are))
