use Rattle.std.proofs.Common.{◌∙◌}
use Rattle.serde_json.specs.View.{view}
use Rattle.mq_report.proofs.JsonLaws.{values_begin, values_go_on, values_end}
use Rattle.mq_report.proofs.report.json.fault_values.Goals as goal

pub loop-key-init : goal.loop-key-init
loop-key-init c = values_begin view c.args.role _ _ _ c.new-values.ensures.items (c.into_iter-key-iterator.ensures.into_iter_gives ∙ c.iter-key-items.ensures.rest)

pub loop-key-preserved : goal.loop-key-preserved
loop-key-preserved c =
    values_go_on view c.args.role _ _ _ _ _ _ c.in-Some.key.now c.in-Some.fault.now c.loop-key.invariant c.in-Some.ensures.steps c.in_ok-value.ensures c.in_ok-push.ensures.ok

pub returns : goal.returns
returns c = values_end view c.args.role _ _ _ c.loop-key.invariant c.in-None.ensures.steps.0
