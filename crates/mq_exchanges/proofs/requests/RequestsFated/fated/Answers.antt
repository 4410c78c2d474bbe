use Rattle.mq_rules.specs.Under.{seen}
use Rattle.mq_exchanges.proofs.RequestLaws.{unbound-gains}
use Rattle.mq_exchanges.proofs.requests.RequestsFated.fated.Goals as goal

pub returns-in_default-clause-grows : goal.returns-in_default-clause-grows
returns-in_default-clause-grows g c = λ tested past under agree. unbound-gains tested (rw c.in_default.is at agree) c.args.fate (seen c.args.at (g.E.Noted.note c.args.event.now)) past c.args.decided c.args.faults.now
