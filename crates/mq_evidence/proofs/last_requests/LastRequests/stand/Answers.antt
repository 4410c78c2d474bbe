use Rattle.std.proofs.Common.{not, sym, ap, ◌∙◌}
use Rattle.mq_topic.specs.Levels.{is_name}
use Rattle.mq_evidence.proofs.last_requests.LastRequests.stand.Goals as goal

pub invariant_of-self : goal.invariant_of-self
invariant_of-self c =
    let split = c.self.invariant in
    (c.keep.ensures.all is_name (sym c.check_name.ensures ∙ c.if-check_name.true) split.0, split.1, c.keep.ensures.unique split.2)

pub invariant_of-self-2 : goal.invariant_of-self-2
invariant_of-self-2 c =
    let split = c.self.invariant in
    (split.0, c.keep-2.ensures.all (λ f. not (is_name f)) (ap not (sym c.check_name.ensures ∙ c.if-check_name.false)) split.1, split.2)
