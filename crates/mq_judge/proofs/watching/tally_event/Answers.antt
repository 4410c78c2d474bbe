use Rattle.mq_judge.proofs.watching.tally_event.Goals as goal

pub returns-then-counting : goal.returns-then-counting
returns-then-counting c = λ tested events at was on. c.count_event.ensures tested events at (was on)
