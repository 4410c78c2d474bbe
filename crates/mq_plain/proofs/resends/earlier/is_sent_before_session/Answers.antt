use Rattle.std.specs.Prelude.{reverse}
use Rattle.mq_plain.proofs.ResendLaws.{before_back_all}
use Rattle.mq_plain.proofs.resends.earlier.is_sent_before_session.Goals as goal

pub loop-event-init : goal.loop-event-init
loop-event-init c = before_back_all c.args.identifier c.args.fate (reverse c.args.before.now)
