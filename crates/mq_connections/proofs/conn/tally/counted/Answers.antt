use Rattle.mq_rules.specs.Notes.{note_in}
use Rattle.mq_rules.specs.Under.{seen}
use Rattle.mq_connections.proofs.TallyLaws.{tally-next}
use Rattle.mq_connections.proofs.conn.tally.counted.Goals as goal

pub returns : goal.returns
returns g c = λ beside tested past end state placed was.
    tally-next g.T.Tried.rule g.T.Tried.test g.T.Tried.found g.met.T.Tried.says g.met.T.Tried.finds tested c.args.role c.args.state.now (seen c.args.at (note_in c.args.event)) past
    c.is_tried.result beside c.args.old c.places_after.result c.args.at.position end state placed c.is_tried.ensures was c.places_after.ensures
