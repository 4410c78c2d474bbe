use Rattle.std.proofs.Common.{refl, sym, ◌∙◌}
use Rattle.mq_rules.specs.Under.{seen}
use Rattle.mq_connections.specs.Trying.{harmless_places}
use Rattle.mq_connections.proofs.conn.counting.CountingConn.count.Goals as goal

pub returns-then-is_harmless-clause-counts : goal.returns-then-is_harmless-clause-counts
returns-then-is_harmless-clause-counts c = λ tested taken past here placed was.
    c.count_harmless.ensures.counts tested taken past (seen c.args.at c.args.note.now) refl (sym c.is_harmless.ensures ∙ c.if-is_harmless.true) here placed was

pub returns-clause-counts : goal.returns-clause-counts
returns-clause-counts c = λ tested taken past here placed was.
    c.count.ensures (harmless_places c.args.self.now.harmless) tested past here.same_role here.same_state placed was
