use Rattle.std.proofs.Common.{ap, sym, ◌∙◌, ◌==◌}
use Rattle.mq_rules.specs.Moments.{newest, moments}
use Rattle.mq_rules.specs.Under.{seen}
use Rattle.mq_rules.specs.declared.evidence.Numbers.TheVariants.{Nothing}
use Rattle.mq_evidence.specs.Exchange.{exchange_of}
use Rattle.mq_evidence.specs.Evidence.{it, first_other}
use Rattle.mq_evidence.specs.Stretches.{stretches}
use Rattle.mq_evidence.proofs.TrailLaws.{by-identifier}
use Rattle.mq_rules.specs.Connections.{begun, number}
use Rattle.mq_rules.proofs.Exports.{moments-descend, those-descend}
use Rattle.mq_evidence.proofs.trail.of_overtaking.Goals as goal

pub returns-in-Some : goal.returns-in-Some
returns-in-Some c = λ role at fate past unanswered.
    let n = c.args.note.now in
    let k = newest (seen at n) past in
    let x = exchange_of c.args.exchange in
    by-identifier (x.answer n) c.in-Some.i (λ i. it (first_other x i k)) c.of.result
    (sym c.answer.ensures ∙ c.in-Some.is)
    (c.of.ensures ∙ ap (λ o. record { because = o; numbers = Nothing }) (c.first_other.ensures x (stretches role fate past) (those-descend (λ m. number m == begun past) (moments past) (moments-descend past)) unanswered))
