use Rattle.mq_rules.specs.Notes.{note_of_bare}
use Rattle.mq_rules.specs.Under.{seen}
use Rattle.mq_rules.proofs.Exports.{bare-unbroken}
use Rattle.mq_connections.proofs.ByteFaultLaws.{bytes-none}
use Rattle.mq_connections.proofs.shapes.ShapesBrisk.step_bare.Goals as goal

pub returns-clause-grows : goal.returns-clause-grows
returns-clause-grows c = λ tested taken past follows takes agrees.
    record { each = (bytes-none tested (seen c.args.arg2 (note_of_bare c.args.arg3)) past c.args.arg4.now (bare-unbroken c.args.arg3)).each }
