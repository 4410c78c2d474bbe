use Rattle.mq_report.proofs.FeedingLaws.{halted-before}
use Rattle.mq_report.proofs.feeding.feed_log.Goals as goal

pub returns-in-Err-clause-some : goal.returns-in-Err-clause-some
returns-in-Err-clause-some g c =
    halted-before g.F.Feed.limit g.F.Feed.follows g.F.Feed.stops _ _ _ _ _ c.in-Err.halt c.refusal.result c.refusal.ensures c.in-Err.ensures.some
