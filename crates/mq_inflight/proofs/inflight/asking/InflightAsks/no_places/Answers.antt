use Rattle.mq_inflight.proofs.inflight.asking.InflightAsks.no_places.Goals as goal

pub returns : goal.returns
returns c = λ tested. (c.new.ensures tested, c.new-2.ensures tested)
