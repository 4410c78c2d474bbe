use Rattle.std.proofs.Common.{sym}
use Rattle.mq_fates.proofs.BareLaws.{announces-nothing}
use Rattle.mq_fates.proofs.taken.BareTaken.announced.Goals as goal

pub returns : goal.returns
returns c = sym (announces-nothing c.args.arg2 c.args.self.now)
