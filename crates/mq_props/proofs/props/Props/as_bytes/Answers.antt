use Rattle.std.proofs.Common.{◌≡◌, subst}
use Rattle.mq_props.specs.Values.{body}
use Rattle.mq_props.specs.Allowed.{AreAllowed}
use Rattle.mq_props.specs.Listed.{Listed}
use Rattle.mq_props.proofs.Exact.{list_spelled, list_allowed}
use Rattle.mq_props.proofs.props.Props.as_bytes.Goals as goal

pub returns-clause-spelled : goal.returns-clause-spelled
returns-clause-spelled c = subst (λ (l : Listed). c.self.inside.bytes.now ≡ body l.items) c.self.view_is (list_spelled c.self.inside.place c.self.inside.bytes.now c.self.invariant.is_list)

pub returns-clause-allowed : goal.returns-clause-allowed
returns-clause-allowed c = subst (λ (l : Listed). AreAllowed l.place l.items) c.self.view_is (list_allowed c.self.inside.place c.self.inside.bytes.now c.self.invariant.is_list)
