use Rattle.std.proofs.Common.{refl, ◌∙◌}
use Rattle.mq_props.specs.declared.table.ValueType.TheVariants as types
use Rattle.mq_props.specs.First.{as_text}
use Rattle.mq_props.specs.Identifiers.{reason_string}
use Rattle.mq_props.specs.Table.{row_of, rows}
use Rattle.mq_props.proofs.FactLaws.{text_shown, there_is}
use Rattle.mq_props.proofs.props.Props.has_reason_string.Goals as goal

pub returns : goal.returns
unfolding row_of rows
returns c = c.has.ensures.occurs ∙ there_is types.Text as_text c.args.self.now.place reason_string c.args.self.now.items text_shown refl c.has.ensures.allowed
