use Rattle.mq_judge.proofs.tally.Tally.places.Goals as goal

pub returns : goal.returns
returns c = λ tested events was. c.places.ensures tested events was.bytes
