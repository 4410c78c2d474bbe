use Rattle.std.proofs.Common.{◌≡◌, length}
use Rattle.mq_props.specs.Having.{any_property, is_single}
use Rattle.mq_props.specs.Reading.{items_on, items_of}
use Rattle.mq_props.proofs.having.is_any_single.Given as goal

-- the answer was no for those that have been passed
abbrev pub invariant-loop-item : goal.invariant-loop-item
invariant-loop-item l = any_property (is_single l.place) (items_on l.cursor) ≡ any_property (is_single l.place) (items_of l.bytes)

abbrev pub decreases-loop-item : goal.decreases-loop-item
decreases-loop-item l = length l.cursor.rest
