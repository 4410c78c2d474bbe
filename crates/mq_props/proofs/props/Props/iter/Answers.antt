use Rattle.std.proofs.Common.{ap}
use Rattle.mq_props.specs.Listed.{Listed}
use Rattle.mq_props.specs.Reading.{items_of}
use Rattle.mq_props.proofs.props.Props.iter.Goals as goal

pub returns : goal.returns
unfolding items_of
returns c = rw c.new.ensures (ap (λ (l : Listed). l.items) c.self.view_is)
