use Rattle.mq_rules.proofs.Exports.{places-at-rest, places-awake, places-rest, waiting-next}
use Rattle.mq_rules_laws.proofs.occasion_laws.rests_put_to_the_test.Goals as goal

pub returns-clause-rest : goal.returns-clause-rest
returns-clause-rest c = places-rest

pub returns-clause-other : goal.returns-clause-other
returns-clause-other c = places-awake

pub returns-clause-waits : goal.returns-clause-waits
returns-clause-waits c = waiting-next

pub returns-clause-any_fate : goal.returns-clause-any_fate
returns-clause-any_fate c = places-at-rest
