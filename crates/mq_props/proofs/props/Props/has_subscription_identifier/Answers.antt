use Rattle.std.proofs.Common.{refl, ◌∙◌}
use Rattle.mq_props.specs.declared.table.ValueType.TheVariants as types
use Rattle.mq_props.specs.First.{as_varint}
use Rattle.mq_props.specs.Identifiers.{subscription_identifier}
use Rattle.mq_props.specs.Table.{row_of, rows}
use Rattle.mq_props.proofs.FactLaws.{varint_shown, there_is}
use Rattle.mq_props.proofs.props.Props.has_subscription_identifier.Goals as goal

pub returns : goal.returns
unfolding row_of rows
returns c = c.has.ensures.occurs ∙ there_is types.Varint as_varint c.args.self.now.place subscription_identifier c.args.self.now.items varint_shown refl c.has.ensures.allowed
