use Rattle.std.proofs.Common.{refl}
use Rattle.mq_rules.specs.Trials.{places_bytes}
use Rattle.mq_rules.proofs.Exports.{bytes-most}
use Rattle.mq_rules_laws.proofs.TrialLaws.{bytes-unbound}
use Rattle.mq_rules_laws.proofs.trial_laws.places_bytes_grow.Goals as goal

pub returns-clause-start : goal.returns-clause-start
unfolding places_bytes
returns-clause-start c = λ tested rule. refl

pub returns-clause-step : goal.returns-clause-step
unfolding places_bytes
returns-clause-step c = λ tested p past rule. refl

pub returns-clause-most : goal.returns-clause-most
returns-clause-most c = bytes-most

pub returns-clause-unbound : goal.returns-clause-unbound
returns-clause-unbound c = bytes-unbound
