use Rattle.mq_exchanges.proofs.ConcernLaws.{pings-passes}
use Rattle.mq_exchanges.proofs.pings.PingsSelective.passes.Goals as goal

pub returns : goal.returns
returns c = λ tested fate at e past h under agree.
    let both = pings-passes tested c.args.self.now fate at e past h under agree in
    record { stays = both.0; shows = both.1 }
