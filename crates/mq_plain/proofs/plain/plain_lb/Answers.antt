use Rattle.mq_plain.proofs.QuietLaws.{silent_lb, sessions_lb}
use Rattle.mq_plain.proofs.plain.plain_lb.Goals as goal

pub judge_each-requires : goal.judge_each-requires
judge_each-requires c = record { silent = silent_lb; on_sessions = sessions_lb }
