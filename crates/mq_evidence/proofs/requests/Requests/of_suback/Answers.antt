use Rattle.std.proofs.Common.{ap, sym, ◌∙◌}
use Rattle.mq_evidence.specs.Requests.{compared}
use Rattle.mq_evidence.proofs.RequestLaws.{of_grant-is}
use Rattle.mq_evidence.proofs.requests.Requests.of_suback.Goals as goal

pub returns-in-Some : goal.returns-in-Some
returns-in-Some c = λ s kept.
    of_grant-is s.connection c.args.note.now c.in-Some.i c.in-Some.codes c.compare_under.result (sym c.granted.ensures ∙ c.in-Some.is)
    (c.compare_under.ensures ∙ ap (λ r. compared r c.in-Some.codes) (kept.subscribes_are c.in-Some.i))
