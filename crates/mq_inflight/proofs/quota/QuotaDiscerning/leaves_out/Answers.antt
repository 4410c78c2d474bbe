use Rattle.mq_inflight.proofs.LeftOutLaws.{quota-leaves}
use Rattle.mq_inflight.proofs.quota.QuotaDiscerning.leaves_out.Goals as goal

pub returns : goal.returns
returns c = λ places tested fate at e past h small under kept was. quota-leaves tested c.args.self.now fate at e past places h under kept was
