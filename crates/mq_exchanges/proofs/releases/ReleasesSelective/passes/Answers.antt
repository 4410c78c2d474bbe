use Rattle.mq_exchanges.specs.Releasing.{has_id}
use Rattle.mq_exchanges.proofs.ConcernLaws.{releasing-passes}
use Rattle.mq_exchanges.proofs.releases.ReleasesSelective.passes.Goals as goal

pub returns : goal.returns
returns c = λ tested fate at e past h under agree.
    let s = c.args.self.now in
    let both = releasing-passes tested s.role s.releases s.fate fate s.has_accepted (has_id s.brought) (has_id s.released) (has_id s.due) at e past h under agree in
    record { stays = both.0; shows = both.1 }
