use Rattle.std.proofs.Common.{arith}
use Rattle.mq_props.proofs.UsualLaws.{has_number}
use Rattle.mq_props.proofs.usual.is_subscription_identifier.Goals as goal

pub returns-in-Ok-1-to-127 : goal.returns-in-Ok-1-to-127
returns-in-Ok-1-to-127 c = λ there. has_number c.args.cursor.now c.u8.new.self c.in-Ok-1-to-127.field-0 c.in-Ok-1-to-127.ensures (omega arith) (omega arith)
