use Rattle.mq_exchanges.specs.Releasing.{has_id}
use Rattle.mq_exchanges.proofs.LeftOutLaws.{releases-leave}
use Rattle.mq_exchanges.proofs.releases.asking.ReleasesDiscerning.leaves_out.Goals as goal

pub returns : goal.returns
returns c = λ places tested fate at e past h small under kept was.
    let s = c.args.self.now in
    releases-leave tested s.role s.releases s.fate fate s.has_accepted (has_id s.brought) (has_id s.released) (has_id s.due) at e past places.released places.completed h under kept was
