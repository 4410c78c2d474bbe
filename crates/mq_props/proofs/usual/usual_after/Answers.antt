use Rattle.std.proofs.Common.{refl}
use Rattle.mq_props.proofs.UsualLaws.{more_if}
use Rattle.mq_props.proofs.usual.usual_after.Goals as goal

pub returns-then-id-eq-TOPIC_ALIAS : goal.returns-then-id-eq-TOPIC_ALIAS
returns-then-id-eq-TOPIC_ALIAS c = more_if c.args.facts c.topic_alias_after.result c.in-Ok.id _ c.args.cursor.now c.u8.new.self c.topic_alias_after.new.cursor c.if-id-eq-TOPIC_ALIAS.true c.in-Ok.ensures c.topic_alias_after.ensures

pub returns-else-id-eq-TOPIC_ALIAS : goal.returns-else-id-eq-TOPIC_ALIAS
returns-else-id-eq-TOPIC_ALIAS c = more_if c.args.facts c.other_after.result c.in-Ok.id c.in-Ok.id c.args.cursor.now c.u8.new.self c.other_after.new.cursor refl c.in-Ok.ensures c.other_after.ensures
