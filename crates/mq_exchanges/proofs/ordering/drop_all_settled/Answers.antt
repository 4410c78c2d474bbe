use Rattle.std.proofs.Common.{rules}
use Rattle.std.proofs.lemmas.Fn.{filter_same}
use Rattle.mq_rules.specs.KeptOrder.{value_under}
use Rattle.mq_exchanges.specs.Orderings.{is_still_due}
use Rattle.mq_exchanges.proofs.ordering.drop_all_settled.Goals as goal

pub returns : goal.returns
returns c = filter_same _ (is_still_due (value_under c.args.due.now)) _ (λ d b f k. search rules) _ _ c.retain.ensures.filtered
