use Rattle.std.proofs.Common.{refl}
use Rattle.mq_props.specs.Reading.{items_of}
use Rattle.mq_props.specs.Views.{item_view}
use Rattle.mq_props.proofs.Items.{first_passes, first_found, first_none, item_shorter}
use Rattle.mq_props.proofs.props.first_in.Goals as goal

pub loop-item-init : goal.loop-item-init
unfolding items_of
loop-item-init c = rw c.new-cursor.ensures refl

pub loop-item-preserved : goal.loop-item-preserved
loop-item-preserved c = first_passes c.args.id c.loop-item.cursor (item_view c.in-Some.item) c.next_item.new.cursor _ c.in-Some.ensures c.if-item-id.false c.loop-item.invariant

pub loop-item-smaller : goal.loop-item-smaller
loop-item-smaller c = item_shorter c.loop-item.cursor (item_view c.in-Some.item) c.next_item.new.cursor c.in-Some.ensures

pub returns-then-item-id : goal.returns-then-item-id
returns-then-item-id c = first_found c.args.id c.loop-item.cursor (item_view c.in-Some.item) c.next_item.new.cursor _ c.in-Some.ensures c.if-item-id.true c.loop-item.invariant

pub returns : goal.returns
returns c = first_none c.args.id c.loop-item.cursor _ c.in_default.ensures c.loop-item.invariant
