use Rattle.mq_connections.proofs.DutiesLaws.{duties-start}
use Rattle.mq_connections.proofs.TermsLaws.{terms-start}
use Rattle.mq_connections.proofs.duties.Duties.new.Goals as goal

pub returns : goal.returns
returns c = rw c.is_judged.ensures (rw c.new.ensures (duties-start c.new-2.result c.new-3.result c.args.tested (terms-start c.new-2.result c.new-2.ensures.connect c.new-2.ensures.connack c.new-2.ensures.broken c.new-2.ensures.aliases) c.new-2.ensures.as_many c.new-3.ensures))
