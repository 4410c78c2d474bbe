use Rattle.mq_props.specs.Views.{item_view}
use Rattle.mq_props.proofs.Items.{items_on-none, items_on-some, items_on-nil, item_typed}
use Rattle.mq_props.proofs.props.next_prop.Goals as goal

pub returns-in_default : goal.returns-in_default
returns-in_default c = (items_on-none c.args.cursor.now c.in_default.ensures, rw c.new.ensures (items_on-nil 0))

pub unwrap-requires : goal.unwrap-requires
unwrap-requires c = c.prop_of.ensures.each (item_typed c.args.cursor.now (item_view c.in-Some.item) c.next_item.new.cursor c.in-Some.ensures)

pub returns : goal.returns
returns c =
    let seen = rw c.unwrap.ensures at c.prop_of.ensures.view in
    rw seen (items_on-some c.args.cursor.now (item_view c.in-Some.item) c.next_item.new.cursor c.in-Some.ensures)
