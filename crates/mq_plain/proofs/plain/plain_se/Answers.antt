use Rattle.mq_plain.proofs.QuietLaws.{silent_se, sessions_se}
use Rattle.mq_plain.proofs.plain.plain_se.Goals as goal

pub judge_each-requires : goal.judge_each-requires
judge_each-requires c = record { silent = silent_se; on_sessions = sessions_se }
