use Rattle.std.proofs.Common.{◌∙◌, ◌==◌, not}
use Rattle.mq_evidence.proofs.UnansweredLaws.{other-first}
use Rattle.mq_evidence.proofs.unanswered.Unanswered.first_other.Goals as goal

pub returns : goal.returns
returns c = λ x s descends kept.
    let order = kept.in_order descends in
    c.other_position.ensures
    ∙ other-first c.args.i c.args.self.now.order.entries order.line_is
    ∙ order.waiting_are (λ other. not (other == c.args.i))
