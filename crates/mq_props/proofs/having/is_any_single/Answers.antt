use Rattle.std.proofs.Common.{not, refl, sym, ap, ◌∙◌}
use Rattle.mq_props.specs.Reading.{items_of}
use Rattle.mq_props.specs.Having.{is_single}
use Rattle.mq_props.specs.Views.{item_view}
use Rattle.mq_props.proofs.Items.{item_shorter}
use Rattle.mq_props.proofs.HavingLaws.{any_passes, any_found, any_none}
use Rattle.mq_props.proofs.having.is_any_single.Goals as goal

pub loop-item-init : goal.loop-item-init
unfolding items_of
loop-item-init c = rw c.new-cursor.ensures refl

pub loop-item-preserved : goal.loop-item-preserved
loop-item-preserved c = any_passes (is_single c.args.place) c.loop-item.cursor (item_view c.in-Some.item) c.next_item.new.cursor _ c.in-Some.ensures (ap not (sym c.may_repeat_in.ensures ∙ c.if-not-may_repeat_in.false)) c.loop-item.invariant

pub loop-item-smaller : goal.loop-item-smaller
loop-item-smaller c = item_shorter c.loop-item.cursor (item_view c.in-Some.item) c.next_item.new.cursor c.in-Some.ensures

pub returns-then-not-may_repeat_in : goal.returns-then-not-may_repeat_in
returns-then-not-may_repeat_in c = any_found (is_single c.args.place) c.loop-item.cursor (item_view c.in-Some.item) c.next_item.new.cursor _ c.in-Some.ensures (ap not (sym c.may_repeat_in.ensures ∙ c.if-not-may_repeat_in.true)) c.loop-item.invariant

pub returns : goal.returns
returns c = any_none (is_single c.args.place) c.loop-item.cursor _ c.in_default.ensures c.loop-item.invariant
