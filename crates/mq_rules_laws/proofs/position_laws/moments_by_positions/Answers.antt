use Rattle.mq_rules.proofs.Exports.{among-moment, moment-among, moment-beginning, moment-placed}
use Rattle.mq_rules_laws.proofs.PositionLaws.{beginning-moment}
use Rattle.mq_rules.specs.Moments.{position}
use Rattle.mq_rules_laws.proofs.position_laws.moments_by_positions.Goals as goal

pub returns-clause-beginning : goal.returns-clause-beginning
returns-clause-beginning c = λ log k m. (moment-beginning log k m, beginning-moment log k m)

pub returns-clause-among : goal.returns-clause-among
returns-clause-among c = λ log m. (among-moment m log, moment-among log (position m) m)

pub returns-clause-placed : goal.returns-clause-placed
returns-clause-placed c = moment-placed
