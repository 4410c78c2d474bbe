use Rattle.std.proofs.Common.{arith}
use Rattle.mq_evidence.proofs.NextLaws.{before-any}
use Rattle.mq_evidence.proofs.connection_explaining.ConnectionExplaining.new.Goals as goal

pub returns-clause-agrees : goal.returns-clause-agrees
returns-clause-agrees c = record { trail_is = c.new.ensures; next_is = before-any c.args.wanted 0; explained = λ k r begun within finds there. absurd (omega arith) }
