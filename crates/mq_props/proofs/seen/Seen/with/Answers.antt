use Rattle.std.proofs.Common.{arith}
use Rattle.mq_props.proofs.SeenLemmas.{sees_more}
use Rattle.mq_props.proofs.seen.Seen.with.Goals as goal

pub returns : goal.returns
returns c = λ ps p sees same. record { same = sees_more c.args.self.bits c.args.id ps p (omega (arith, c.requires)) same sees.same }
