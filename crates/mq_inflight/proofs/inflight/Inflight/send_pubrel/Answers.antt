use Rattle.std.proofs.Common.{Some, None, false, refl}
use Rattle.mq_rules.specs.Under.{seen}
use Rattle.mq_inflight.proofs.MovingLaws.{moved-step}
use Rattle.mq_inflight.proofs.inflight.Inflight.send_pubrel.Goals as goal

pub returns : goal.returns
returns c = λ accepted n tested taken past m moves follows known u.
    moved-step tested c.args.self.now c.shift.new.self taken (seen c.args.at n) past m m None false None (Some c.args.i) None follows known u moves accepted c.in_ok-shift.ensures.moved refl
