use Rattle.std.proofs.Common.{◌∙◌}
use Rattle.mq_watchers.proofs.watchers.counting.CountingWatchers.latest_fate.Goals as goal

pub returns : goal.returns
returns c = λ tested taken past was. c.latest_fate.ensures ∙ was.1.1.1.1.1.same_fate
