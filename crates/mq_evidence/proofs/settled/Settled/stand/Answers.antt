use Rattle.mq_evidence.proofs.SettlingLaws.{stands-too}
use Rattle.mq_evidence.proofs.settled.Settled.stand.Goals as goal

pub returns : goal.returns
returns c =
    stands-too c.args.self.now (record { ceilings = c.stand.new.self; last = c.stand-2.new.self }) c.args.position c.args.filter.now c.args.ceiling c.in_ok-stand.ensures c.in_ok-stand-2.ensures
