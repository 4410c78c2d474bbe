use Rattle.mq_connections.proofs.ByteTallyLaws.{counts-start, none-counted}
use Rattle.mq_connections.proofs.byte_tally.ByteTally.new.Goals as goal

pub returns : goal.returns
returns c = λ tested. counts-start _ tested none-counted
