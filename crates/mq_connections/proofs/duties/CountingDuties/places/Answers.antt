use Rattle.std.proofs.Common.{refl}
use Rattle.mq_rules.specs.declared.rule.Rule.TheVariants.{C24, D01, D02, D03, D05}
use Rattle.mq_connections.proofs.DutiesLaws.{counted-of}
use Rattle.mq_connections.proofs.duties.CountingDuties.places.Goals as goal

pub returns-in-C24 : goal.returns-in-C24
returns-in-C24 c = λ tested taken past was. counted-of tested c.args.rule C24 c.args.self.now.places.c24.places past c.in-C24.is refl was.1.c24.same_places

pub returns-in-D01 : goal.returns-in-D01
returns-in-D01 c = λ tested taken past was. counted-of tested c.args.rule D01 c.args.self.now.places.d01.places past c.in-D01.is refl was.1.d01.same_places

pub returns-in-D02 : goal.returns-in-D02
returns-in-D02 c = λ tested taken past was. counted-of tested c.args.rule D02 c.args.self.now.places.d02.places past c.in-D02.is refl was.1.d02.same_places

pub returns-in-D03 : goal.returns-in-D03
returns-in-D03 c = λ tested taken past was. counted-of tested c.args.rule D03 c.args.self.now.places.d03.places past c.in-D03.is refl was.1.d03.same_places

pub returns-in-D05 : goal.returns-in-D05
returns-in-D05 c = λ tested taken past was. counted-of tested c.args.rule D05 c.args.self.now.places.d05.places past c.in-D05.is refl was.1.d05.same_places
