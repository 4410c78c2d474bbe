use Rattle.std.proofs.Common.{refl}
use Rattle.mq_props.proofs.UsualLaws.{value_below}
use Rattle.mq_props.proofs.usual.other_after.Goals as goal

pub is_repeated-requires : goal.is_repeated-requires
is_repeated-requires c = value_below c.args.id c.args.cursor.now c.has_value.new.cursor (c.if-not-has_value.ensures.value refl)

pub with_other-requires-clause-below : goal.with_other-requires-clause-below
with_other-requires-clause-below c = value_below c.args.id c.args.cursor.now c.has_value.new.cursor (c.if-not-has_value.ensures.value refl)
