use Rattle.std.proofs.Common.{sym, ◌∙◌}
use Rattle.mq_connections.proofs.MannersLaws.{counted-F01, counted-F02, counted-F03, counted-F04, counted-F05, counted-F06, counted-V03, counted-V04, counted-V06, counted-A01, counted-A02, counted-A03, counted-elsewhere}
use Rattle.mq_connections.proofs.manners.CountingManners.places.Goals as goal

pub returns-then-eq : goal.returns-then-eq
returns-then-eq c = λ tested taken past was. counted-F01 tested c.args.rule past c.args.self.now.places (sym c.eq.ensures ∙ c.if-eq.true) was.1

pub returns-then-eq-2 : goal.returns-then-eq-2
returns-then-eq-2 c = λ tested taken past was. counted-F02 tested c.args.rule past c.args.self.now.places (sym c.eq-2.ensures ∙ c.if-eq-2.true) was.1

pub returns-then-eq-3 : goal.returns-then-eq-3
returns-then-eq-3 c = λ tested taken past was. counted-F03 tested c.args.rule past c.args.self.now.places (sym c.eq-3.ensures ∙ c.if-eq-3.true) was.1

pub returns-then-eq-4 : goal.returns-then-eq-4
returns-then-eq-4 c = λ tested taken past was. counted-F04 tested c.args.rule past c.args.self.now.places (sym c.eq-4.ensures ∙ c.if-eq-4.true) was.1

pub returns-then-eq-5 : goal.returns-then-eq-5
returns-then-eq-5 c = λ tested taken past was. counted-F05 tested c.args.rule past c.args.self.now.places (sym c.eq-5.ensures ∙ c.if-eq-5.true) was.1

pub returns-then-eq-6 : goal.returns-then-eq-6
returns-then-eq-6 c = λ tested taken past was. counted-F06 tested c.args.rule past c.args.self.now.places (sym c.eq-6.ensures ∙ c.if-eq-6.true) was.1

pub returns-then-eq-7 : goal.returns-then-eq-7
returns-then-eq-7 c = λ tested taken past was. counted-V03 tested c.args.rule past c.args.self.now.places (sym c.eq-7.ensures ∙ c.if-eq-7.true) was.1

pub returns-then-eq-8 : goal.returns-then-eq-8
returns-then-eq-8 c = λ tested taken past was. counted-V04 tested c.args.rule past c.args.self.now.places (sym c.eq-8.ensures ∙ c.if-eq-8.true) was.1

pub returns-then-eq-9 : goal.returns-then-eq-9
returns-then-eq-9 c = λ tested taken past was. counted-V06 tested c.args.rule past c.args.self.now.places (sym c.eq-9.ensures ∙ c.if-eq-9.true) was.1

pub returns-then-eq-10 : goal.returns-then-eq-10
returns-then-eq-10 c = λ tested taken past was. counted-A01 tested c.args.rule past c.args.self.now.places (sym c.eq-10.ensures ∙ c.if-eq-10.true) was.1

pub returns-then-eq-11 : goal.returns-then-eq-11
returns-then-eq-11 c = λ tested taken past was. counted-A02 tested c.args.rule past c.args.self.now.places (sym c.eq-11.ensures ∙ c.if-eq-11.true) was.1

pub returns-then-eq-12 : goal.returns-then-eq-12
returns-then-eq-12 c = λ tested taken past was. counted-A03 tested c.args.rule past c.args.self.now.places (sym c.eq-12.ensures ∙ c.if-eq-12.true) was.1

pub returns : goal.returns
returns c = λ tested taken past was.
    counted-elsewhere tested c.args.rule past (sym c.eq.ensures ∙ c.if-eq.false) (sym c.eq-2.ensures ∙ c.if-eq-2.false) (sym c.eq-3.ensures ∙ c.if-eq-3.false) (sym c.eq-4.ensures ∙ c.if-eq-4.false) (sym c.eq-5.ensures ∙ c.if-eq-5.false) (sym c.eq-6.ensures ∙ c.if-eq-6.false) (sym c.eq-7.ensures ∙ c.if-eq-7.false) (sym c.eq-8.ensures ∙ c.if-eq-8.false) (sym c.eq-9.ensures ∙ c.if-eq-9.false) (sym c.eq-10.ensures ∙ c.if-eq-10.false) (sym c.eq-11.ensures ∙ c.if-eq-11.false) (sym c.eq-12.ensures ∙ c.if-eq-12.false)
