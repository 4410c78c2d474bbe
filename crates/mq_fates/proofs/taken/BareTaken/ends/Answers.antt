use Rattle.std.proofs.Common.{sym}
use Rattle.mq_fates.proofs.BareLaws.{bare-unended}
use Rattle.mq_fates.proofs.taken.BareTaken.ends.Goals as goal

pub returns : goal.returns
returns c = sym (bare-unended c.args.self.now)
