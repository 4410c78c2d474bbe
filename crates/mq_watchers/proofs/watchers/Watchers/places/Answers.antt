use Rattle.mq_watchers.proofs.watchers.Watchers.places.Goals as goal

pub returns-in-Counting-clause-counted : goal.returns-in-Counting-clause-counted
returns-in-Counting-clause-counted c = rw c.in-Counting.is (λ tested taken past on agrees. c.places.ensures tested taken past agrees)
