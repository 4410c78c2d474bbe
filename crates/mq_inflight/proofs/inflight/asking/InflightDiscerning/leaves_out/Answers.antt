use Rattle.mq_inflight.proofs.LeftOutLaws.{inflight-leaves}
use Rattle.mq_inflight.proofs.inflight.asking.InflightDiscerning.leaves_out.Goals as goal

pub returns : goal.returns
returns c = λ places tested fate at e past h small under kept was. inflight-leaves tested c.args.self.now fate at e past places.at_once places.resumed h small under kept was
