use Rattle.std.proofs.Common.{sym, ◌∙◌}
use Rattle.mq_connections.proofs.ClocksLaws.{counted-K01, counted-K02, counted-elsewhere}
use Rattle.mq_connections.proofs.clocks.CountingClocks.places.Goals as goal

pub returns-then-eq : goal.returns-then-eq
returns-then-eq c = λ tested taken past was. counted-K01 tested c.args.rule past c.args.self.now.places (sym c.eq.ensures ∙ c.if-eq.true) was.1

pub returns-then-eq-2 : goal.returns-then-eq-2
returns-then-eq-2 c = λ tested taken past was. counted-K02 tested c.args.rule past c.args.self.now.places (sym c.eq-2.ensures ∙ c.if-eq-2.true) was.1

pub returns : goal.returns
returns c = λ tested taken past was. counted-elsewhere tested c.args.rule past (sym c.eq.ensures ∙ c.if-eq.false) (sym c.eq-2.ensures ∙ c.if-eq-2.false)
