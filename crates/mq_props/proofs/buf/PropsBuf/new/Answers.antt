use Rattle.std.proofs.Common.{refl}
use Rattle.mq_props.proofs.Pushes.{keeps_nothing, items_of-nil}
use Rattle.mq_props.proofs.buf.PropsBuf.new.Goals as goal

pub invariant_of-result : goal.invariant_of-result
invariant_of-result c = rw c.new-2.ensures.items (keeps_nothing c.args.place c.new.result c.new.ensures)

pub returns-clause-list : goal.returns-clause-list
returns-clause-list c = rw (c.new-2.ensures.items, items_of-nil) refl
