use Rattle.mq_judge.proofs.watching.tally_packet.Goals as goal

pub returns-then-counting : goal.returns-then-counting
returns-then-counting c = λ tested p events is at was on. c.count_packet.ensures tested p events is at (was on)
