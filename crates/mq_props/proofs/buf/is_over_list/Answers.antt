use Rattle.std.proofs.Common.{◌∙◌}
use Rattle.mq_props.specs.Views.{value_view}
use Rattle.mq_props.proofs.Pushes.{overflow_is}
use Rattle.mq_props.proofs.buf.is_over_list.Goals as goal

pub returns : goal.returns
returns c = c.is_over_all.ensures ∙ overflow_is c.args.bytes.now c.args.id (value_view c.args.value.now) c.requires.spelled c.requires.known
