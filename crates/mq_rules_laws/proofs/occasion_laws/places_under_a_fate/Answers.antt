use Rattle.mq_rules.proofs.Exports.{applies-under-step, places-known, places-release, places-session, places-under-step}
use Rattle.mq_rules_laws.proofs.occasion_laws.places_under_a_fate.Goals as goal

pub returns-clause-known : goal.returns-clause-known
returns-clause-known c = places-known

pub returns-clause-turns : goal.returns-clause-turns
returns-clause-turns c = applies-under-step

pub returns-clause-step : goal.returns-clause-step
returns-clause-step c = places-under-step

pub returns-clause-session : goal.returns-clause-session
returns-clause-session c = places-session

pub returns-clause-release : goal.returns-clause-release
returns-clause-release c = places-release
