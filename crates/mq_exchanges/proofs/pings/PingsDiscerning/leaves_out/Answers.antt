use Rattle.mq_exchanges.proofs.LeftOutLaws.{pings-leaves}
use Rattle.mq_exchanges.proofs.pings.PingsDiscerning.leaves_out.Goals as goal

pub returns : goal.returns
returns c = λ places tested fate at e past h small under kept was. pings-leaves tested c.args.self.now fate at e past places h under kept was
