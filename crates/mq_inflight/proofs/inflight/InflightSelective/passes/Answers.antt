use Rattle.mq_inflight.proofs.UsingConcernLaws.{inflight-passes}
use Rattle.mq_inflight.proofs.inflight.InflightSelective.passes.Goals as goal

pub returns : goal.returns
returns c = λ tested fate at e past h under agree.
    let both = inflight-passes tested c.args.self.now fate at e past h under agree in
    record { stays = both.0; shows = both.1 }
