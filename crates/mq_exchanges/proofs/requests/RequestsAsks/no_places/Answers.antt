use Rattle.mq_exchanges.proofs.requests.RequestsAsks.no_places.Goals as goal

pub returns : goal.returns
returns c = λ tested. record { bound = λ on. c.no_places.ensures tested; unbound = λ off. c.no_places.ensures tested }
