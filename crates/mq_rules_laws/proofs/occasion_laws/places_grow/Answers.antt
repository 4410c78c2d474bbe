use Rattle.mq_rules.proofs.Exports.{places-most, places-start, places-step}
use Rattle.mq_rules_laws.proofs.PlacesLaws.{places-kept}
use Rattle.mq_rules_laws.proofs.occasion_laws.places_grow.Goals as goal

pub returns-clause-start : goal.returns-clause-start
returns-clause-start c = places-start

pub returns-clause-step : goal.returns-clause-step
returns-clause-step c = places-step

pub returns-clause-kept : goal.returns-clause-kept
returns-clause-kept c = places-kept

pub returns-clause-most : goal.returns-clause-most
returns-clause-most c = places-most
