use Rattle.mq_rules.proofs.Exports.{places-once, places-past}
use Rattle.mq_rules_laws.proofs.occasion_laws.places_by_one.Goals as goal

pub returns-clause-once : goal.returns-clause-once
returns-clause-once c = places-once

pub returns-clause-past : goal.returns-clause-past
returns-clause-past c = places-past
