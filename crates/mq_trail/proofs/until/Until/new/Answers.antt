use Rattle.std.proofs.Common.{ap, ◌∙◌}
use Rattle.std.specs.List.{list_any}
use Rattle.std.specs.FinMap.{entries}
use Rattle.mq_rules.specs.FaultKeys.{FaultMap}
use Rattle.mq_trail.specs.Until.{is_decided_after}
use Rattle.mq_trail.proofs.until.Until.new.Goals as goal

pub returns : goal.returns
returns g c = λ tested own agrees. record { so_far = agrees; none_later = ap (λ (w : FaultMap). list_any (is_decided_after c.last_decided.result) (entries w)) own ∙ c.last_decided.ensures }
