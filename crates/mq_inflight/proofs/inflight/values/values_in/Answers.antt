use Rattle.std.proofs.Common.{sym, arith, ◌∙◌}
use Rattle.mq_rules.specs.KeptOrder.{value_under}
use Rattle.mq_inflight.proofs.ValuesLaws.{values-all, values-are}
use Rattle.mq_inflight.proofs.inflight.values.values_in.Goals as goal

pub invariant_of-result : goal.invariant_of-result
invariant_of-result c = (omega arith, c.len.ensures ∙ sym (values-all (value_under c.args.entries.now)))

pub returns : goal.returns
returns c = values-are (value_under c.args.entries.now)
