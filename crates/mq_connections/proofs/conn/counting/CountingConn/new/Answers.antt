use Rattle.std.proofs.Common.{arith, ap, ◌+◌, ◌∙◌}
use Rattle.mq_connections.specs.Trying.{harmless_places}
use Rattle.mq_connections.proofs.TallyLaws.{none-yet}
use Rattle.mq_connections.proofs.conn.counting.CountingConn.new.Goals as goal

pub returns : goal.returns
returns c = (
  c.new.ensures,
  λ rule one. ap (λ n. n + harmless_places c.new-2.result rule) (c.new-3.ensures rule) ∙ none-yet c.args.tested rule (harmless_places c.new-2.result rule) (c.new-2.ensures rule),
  omega arith,
)
