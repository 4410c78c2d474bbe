use Rattle.mq_rules.proofs.Exports.{places-unbound}
use Rattle.mq_rules_laws.proofs.PlacesLaws.{places-fault, places-faults}
use Rattle.mq_rules_laws.proofs.occasion_laws.places_of_faults.Goals as goal

pub returns-clause-each : goal.returns-clause-each
returns-clause-each c = places-faults

pub returns-clause-some : goal.returns-clause-some
returns-clause-some c = places-fault

pub returns-clause-unbound : goal.returns-clause-unbound
returns-clause-unbound c = places-unbound
