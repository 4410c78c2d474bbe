use Rattle.std.proofs.Common.{◌≡◌, None, Some, sym, ap, ◌∙◌, subst}
use Rattle.mq_props.specs.declared.fault.PushFault.{PushFault}
use Rattle.mq_props.specs.declared.fault.PushFault.TheVariants.{Memory}
use Rattle.mq_props.specs.Table.{row_of}
use Rattle.mq_props.specs.Views.{item_view}
use Rattle.mq_props.specs.Reading.{items_of}
use Rattle.mq_props.specs.Listed.{Listed}
use Rattle.mq_props.specs.Making.{Made}
use Rattle.mq_props.specs.Pushing.{push_fault_by_line}
use Rattle.mq_props.proofs.Exact.{list_spelled}
use Rattle.mq_props.proofs.Pushes.{writes, never_memory, knows_items, keeps_more, leaves, listed_after}
use Rattle.mq_props.proofs.buf.PropsBuf.push.Goals as goal

pub returns-in-Some-clause-memory : goal.returns-in-Some-clause-memory
returns-in-Some-clause-memory c = λ is.
    let item = item_view c.item_of-item.result in
    let list : Listed = record { place = c.self.inside.place; items = items_of c.self.inside.bytes.items } in
    let same : c.in-Some.fault ≡ Memory = cc in
    let found : push_fault_by_line list item.value (row_of item.id) ≡ Some c.in-Some.fault = rw c.deref.ensures.value at (sym c.fault_in.ensures ∙ c.in-Some.is) in
    absurd (never_memory list item.value (row_of item.id) (subst (λ (f : PushFault). push_fault_by_line list item.value (row_of item.id) ≡ Some f) same found))

pub fault_in-requires-clause-sees : goal.fault_in-requires-clause-sees
fault_in-requires-clause-sees c = rw c.deref.ensures.value (knows_items c.self.inside.place c.self.inside.facts c.self.inside.bytes.items c.self.invariant).sees

pub fault_in-requires-clause-spelled : goal.fault_in-requires-clause-spelled
fault_in-requires-clause-spelled c = rw c.deref.ensures.value (list_spelled c.self.inside.place c.self.inside.bytes.items c.self.invariant.is_list)

pub append-requires-clause-long : goal.append-requires-clause-long
append-requires-clause-long c =
    let item = item_view c.item_of-item.result in
    let list : Listed = record { place = c.self.inside.place; items = items_of c.self.inside.bytes.items } in
    let e : push_fault_by_line list item.value (row_of item.id) ≡ None = rw c.deref.ensures.value at (sym c.fault_in.ensures ∙ c.in_default.is) in
    (writes list item e).short

pub append-requires-clause-nul : goal.append-requires-clause-nul
append-requires-clause-nul c =
    let item = item_view c.item_of-item.result in
    let list : Listed = record { place = c.self.inside.place; items = items_of c.self.inside.bytes.items } in
    let e : push_fault_by_line list item.value (row_of item.id) ≡ None = rw c.deref.ensures.value at (sym c.fault_in.ensures ∙ c.in_default.is) in
    (writes list item e).no_nul

pub invariant_of-self-2 : goal.invariant_of-self-2
invariant_of-self-2 c =
    let item = item_view c.item_of-item.result in
    let bytes = c.self.inside.bytes.items in
    let e : push_fault_by_line (record { place = c.self.inside.place; items = items_of bytes }) item.value (row_of item.id) ≡ None = rw c.deref.ensures.value at (sym c.fault_in.ensures ∙ c.in_default.is) in
    let left = leaves c.self.inside.place bytes c.append.new.out.items c.args.prop.now item c.item_of-item.ensures c.self.invariant.is_list e c.in_ok-append.ensures.ok c.in_ok-append.ensures.valid in
    let knows = knows_items c.self.inside.place c.self.inside.facts bytes c.self.invariant in
    keeps_more c.self.inside.place c.with_item-self-inside.result bytes c.append.new.out.items item left (c.with_item-self-inside.ensures (items_of bytes) knows)

pub returns-clause-ok : goal.returns-clause-ok
returns-clause-ok c =
    let item = item_view c.item_of-item.result in
    let bytes = c.self.inside.bytes.items in
    let e : push_fault_by_line (record { place = c.self.inside.place; items = items_of bytes }) item.value (row_of item.id) ≡ None = rw c.deref.ensures.value at (sym c.fault_in.ensures ∙ c.in_default.is) in
    let left = leaves c.self.inside.place bytes c.append.new.out.items c.args.prop.now item c.item_of-item.ensures c.self.invariant.is_list e c.in_ok-append.ensures.ok c.in_ok-append.ensures.valid in
    listed_after c.self.inside.place bytes c.append.new.out.items c.args.self.now.list item _ (ap (λ (made : Made). made.list) c.self.view_is) c.item_of-item.ensures left.items
