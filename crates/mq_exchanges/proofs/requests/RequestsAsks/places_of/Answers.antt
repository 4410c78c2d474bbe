use Rattle.mq_exchanges.proofs.RequestLaws.{requests-counted}
use Rattle.mq_exchanges.proofs.requests.RequestsAsks.places_of.Goals as goal

pub returns : goal.returns
returns c = λ tested taken past was judged. requests-counted tested taken past c.args.rule c.places_of.result was judged (λ f log on one. c.places_of.ensures tested f log on one)
