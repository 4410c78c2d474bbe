use Rattle.std.proofs.Common.{refl, ◌∙◌}
use Rattle.mq_props.specs.declared.table.ValueType.TheVariants as types
use Rattle.mq_props.specs.First.{as_pair}
use Rattle.mq_props.specs.Identifiers.{user_property}
use Rattle.mq_props.specs.Table.{row_of, rows}
use Rattle.mq_props.proofs.FactLaws.{pair_shown, there_is}
use Rattle.mq_props.proofs.props.Props.has_user_property.Goals as goal

pub returns : goal.returns
unfolding row_of rows
returns c = c.has.ensures.occurs ∙ there_is types.Pair as_pair c.args.self.now.place user_property c.args.self.now.items pair_shown refl c.has.ensures.allowed
