use Rattle.std.proofs.Common.{refl}
use Rattle.mq_props.specs.Views.{item_view}
use Rattle.mq_props.proofs.facts.Facts.with_item.Goals as goal

pub returns : goal.returns
returns c = λ ps knows. record { sees = c.with.ensures ps (item_view c.args.item.now) knows.sees refl; alias = c.topic_alias_with.ensures ps knows }
