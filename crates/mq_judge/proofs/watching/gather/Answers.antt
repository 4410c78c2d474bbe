use Rattle.mq_judge.proofs.watching.gather.Goals as goal

pub returns-then-is_counting : goal.returns-then-is_counting
returns-then-is_counting c = λ tested taken past before agrees was on. c.take_in.ensures tested past before (c.latest_fate.ensures tested taken _ agrees) (was on)
