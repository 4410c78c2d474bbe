use Rattle.mq_plain.proofs.QuietLaws.{silent_subscription, sessions_subscription}
use Rattle.mq_plain.proofs.further.judge_subscriptions.Goals as goal

pub judge_each-requires : goal.judge_each-requires
judge_each-requires c = record { silent = silent_subscription; on_sessions = sessions_subscription }
