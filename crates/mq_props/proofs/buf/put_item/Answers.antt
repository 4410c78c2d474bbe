-- Where there is no room for the value, there was none for the property.
use Rattle.std.proofs.Common.{rules, ◌≡◌, ◌+◌, [], ◌∷◌, ◌++◌, length, vec_len, vec_capacity, ap, arith, length-append}
use Rattle.mq_props.specs.Views.{value_view}
use Rattle.mq_props.proofs.Pushes.{room_after}
use Rattle.mq_props.proofs.buf.put_item.Goals as goal

pub returns-clause-room : goal.returns-clause-room
returns-clause-room c =
    let old = c.args.out.now in
    let mid = c.put_byte.new.out in
    let old_len : vec_len old ≡ length old.items = search rules in
    let mid_len : vec_len mid ≡ length mid.items = search rules in
    let put : mid.items ≡ old.items ++ c.args.item.now.id ∷ [] = c.in_ok-put_byte.ensures.ok in
    let more : vec_len mid ≡ vec_len old + 1 = omega (arith, old_len, mid_len, ap length put, length-append old.items (c.args.item.now.id ∷ [])) in
    room_after c.put_value.result (vec_capacity old) (vec_capacity mid) (vec_len old) (vec_len mid) c.args.item.now.id (value_view c.args.item.now.value) c.requires.id c.put_byte.ensures.capacity more c.put_value.ensures.room
