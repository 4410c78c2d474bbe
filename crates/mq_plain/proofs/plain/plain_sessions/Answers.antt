use Rattle.mq_plain.proofs.QuietLaws.{silent_plain, sessions_plain}
use Rattle.mq_plain.proofs.plain.plain_sessions.Goals as goal

pub judge_each-requires : goal.judge_each-requires
judge_each-requires c = record { silent = silent_plain; on_sessions = sessions_plain }
