use Rattle.std.proofs.Common.{◌∙◌}
use Rattle.serde_json.specs.View.{view}
use Rattle.mq_report.proofs.ReasonLaws.{datas_begin, datas_go_on, datas_end}
use Rattle.mq_report.proofs.report.json.reasoned_values.Goals as goal

pub loop-key-init : goal.loop-key-init
loop-key-init c = datas_begin view c.args.role _ _ _ _ c.new-values.ensures.items (c.into_iter-key-iterator.ensures.into_iter_gives ∙ c.iter-key-items.ensures.rest)

pub loop-key-preserved : goal.loop-key-preserved
loop-key-preserved c =
    datas_go_on view c.args.role _ _ _ _ _ _ _ _ c.in-Some.key.now c.in-Some.fault.now _ c.loop-key.invariant c.in-Some.ensures.steps c.first_reason.ensures c.later_reasons-left.ensures
    c.in_ok-value.ensures c.in_ok-push.ensures.ok

pub returns : goal.returns
returns c = datas_end view c.args.role _ _ _ _ _ c.loop-key.invariant c.in-None.ensures.steps.0
