use Rattle.std.proofs.Common.{length, ap, arith}
use Rattle.mq_wire.specs.Left.{Left}
use Rattle.mq_packet.proofs.FilterLaws.{filters_listed, no_more}
use Rattle.mq_packet.proofs.filters.Filters.iter.Goals as goal

pub returns-clause-bound : goal.returns-clause-bound
returns-clause-bound c = omega (arith, no_more c.self.inside.options c.new.result.rest (rw c.new.ensures (filters_listed c.self.inside.options c.self.inside.bytes.now c.self.invariant)), ap (λ (l : Left). length l.rest) c.new.ensures, c.self.told.1)
