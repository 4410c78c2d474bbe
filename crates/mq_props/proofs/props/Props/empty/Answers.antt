use Rattle.std.proofs.Common.{refl}
use Rattle.mq_props.proofs.Pushes.{keeps_nothing, items_of-nil}
use Rattle.mq_props.proofs.props.Props.empty.Goals as goal

pub of-requires : goal.of-requires
of-requires c = keeps_nothing c.args.place c.new.result c.new.ensures

pub returns : goal.returns
returns c = rw (c.of.ensures, items_of-nil) refl
