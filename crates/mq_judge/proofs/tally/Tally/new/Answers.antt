use Rattle.mq_judge.proofs.tally.Tally.new.Goals as goal

pub returns : goal.returns
returns c = λ tested. record { bytes = c.new.ensures tested; dropped = c.new-2.ensures }
