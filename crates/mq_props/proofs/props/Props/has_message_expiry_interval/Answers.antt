use Rattle.std.proofs.Common.{refl, ◌∙◌}
use Rattle.mq_props.specs.declared.table.ValueType.TheVariants as types
use Rattle.mq_props.specs.First.{as_four_bytes}
use Rattle.mq_props.specs.Identifiers.{message_expiry_interval}
use Rattle.mq_props.specs.Table.{row_of, rows}
use Rattle.mq_props.proofs.FactLaws.{four_bytes_shown, there_is}
use Rattle.mq_props.proofs.props.Props.has_message_expiry_interval.Goals as goal

pub returns : goal.returns
unfolding row_of rows
returns c = c.has.ensures.occurs ∙ there_is types.FourBytes as_four_bytes c.args.self.now.place message_expiry_interval c.args.self.now.items four_bytes_shown refl c.has.ensures.allowed
