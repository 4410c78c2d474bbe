use Rattle.std.proofs.Common.{◌≡◌, length}
use Rattle.mq_props.specs.Allowed.{first_of}
use Rattle.mq_props.specs.Reading.{items_on, items_of}
use Rattle.mq_props.proofs.props.first_in.Given as goal

-- none of the identifier has been passed
abbrev pub invariant-loop-item : goal.invariant-loop-item
invariant-loop-item l = first_of l.id (items_on l.cursor) ≡ first_of l.id (items_of l.bytes)

abbrev pub decreases-loop-item : goal.decreases-loop-item
decreases-loop-item l = length l.cursor.rest
