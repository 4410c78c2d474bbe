use Rattle.std.proofs.Common.{◌∷◌, sym, ◌∙◌}
use Rattle.mq_rules.specs.Notes.{note_of_bare}
use Rattle.mq_rules.specs.Connections.{latest_fate}
use Rattle.mq_rules.specs.Under.{seen}
use Rattle.mq_connections.proofs.ClocksLaws.{untimed-gains, untimed-stays}
use Rattle.mq_connections.proofs.clocks.ClocksBrisk.step_bare.Goals as goal

pub returns-then-not-self-clause-agrees : goal.returns-then-not-self-clause-agrees
returns-then-not-self-clause-agrees c = λ tested taken past follows takes here.
    let e = seen c.args.at (note_of_bare c.args.bare) in
    untimed-stays c.args.self.now tested taken (latest_fate tested.role (e ∷ past)) e past c.if-not-self.true here

pub returns-then-not-self-clause-grows : goal.returns-then-not-self-clause-grows
returns-then-not-self-clause-grows c = λ tested taken past follows takes here.
    untimed-gains tested (seen c.args.at (note_of_bare c.args.bare)) past c.args.faults.now (sym here.same_times ∙ c.if-not-self.true)
