use Rattle.mq_inflight.proofs.ConcernLaws.{quota-passes}
use Rattle.mq_inflight.proofs.quota.QuotaSelective.passes.Goals as goal

pub returns : goal.returns
returns c = λ tested fate at e past h under agree.
    let both = quota-passes tested c.args.self.now fate at e past h under agree in
    record { stays = both.0; shows = both.1 }
