use Rattle.mq_exchanges.proofs.RequestLaws.{unbound-gains}
use Rattle.mq_exchanges.proofs.requests.RequestsSelective.passes.Goals as goal

pub returns-in-Some : goal.returns-in-Some
returns-in-Some c = rw c.in-Some.is (λ tested fate at e past h under agree.
    let passed = c.passes.ensures tested fate at e past h under agree.1 in
    record { stays = (agree.0, passed.stays); shows = passed.shows })

pub returns-in-None : goal.returns-in-None
returns-in-None c = rw c.in-None.is (λ tested fate at e past h under unbound. record { stays = unbound; shows = unbound-gains tested unbound fate e past at })
